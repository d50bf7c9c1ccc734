-- Wherever the power fails, what is loaded is the content of the last save that was done.
-- For the clauses of `image::save`, `laws::each_save_is_whole_or_nothing` and
--     `laws::saves_outlive_power_cuts`.
use Rattle.std.proofs.Common.{◌≡◌, ◌≤◌, ◌<◌, ◌+◌, ◌∷◌, ◌++◌, ◌∙◌, [], ℕ, zero, suc, List, Bool, true, false, Option, Some, None, refl, sym, ap, arith, length, take, drop, nat_le}
use Rattle.std.specs.Prelude.{if◌then◌else◌}
use Rattle.std.proofs.lemmas.List.{append-nil, take_all}
use Rattle.std.proofs.Math.Seq.{drop-length}
use Rattle.std.proofs.lemmas.Slice.Eq.{bytes_eq-Decides}
use Rattle.iol_slots.specs.declared.slots.Slot.{Slot}
use Rattle.iol_slots.specs.declared.slots.Slot.TheVariants.{First, Second}
use Rattle.iol_slots.specs.declared.slots.Store.{Store}
use Rattle.iol_slots.specs.Memory.{Memory, slot_octets, with_slot, after_stores}
use Rattle.iol_slots.specs.Images.{image, newest, newest_content, free_slot, newest_mark, last_octet, saving, keeping, is_loaded, FitsIn}
use Rattle.iol_slots.specs.Laws.{EachSaveIsWholeOrNothing, SavesOutlivePowerCuts, CutSave, after_attempt, is_done, last_done, AllFit}
use Rattle.iol_slots.proofs.Stores.{length-after}
use Rattle.iol_slots.proofs.Saves.{mark_for, sets, sets-is, after-octets, take-stores, length-stores, torn-loads, done-loads, torn-is_whole, length-image, image-content, fresh-differs}

fits-slot : (m : Memory) (content : List ℕ) → FitsIn m content → (slot : Slot)
    → length (slot_octets m slot) ≡ length content + 2
fits-slot m content fit First = fit.first
fits-slot m content fit Second = fit.second

with-same : (m : Memory) (slot : Slot) → with_slot m slot (slot_octets m slot) ≡ m
with-same m First = refl
with-same m Second = refl

module _ (m : Memory) (content : List ℕ) (fit : FitsIn m content) where
  abbrev slot : Slot
  slot = free_slot (newest m)

  abbrev prior : List ℕ
  prior = slot_octets m slot

  abbrev whole : List ℕ
  whole = image (mark_for m (newest m)) content

  size : length prior ≡ length content + 2
  size = fits-slot m content fit slot

  after : (count : ℕ) → after_stores m (take count (saving m content))
      ≡ with_slot m slot (sets 0 (take count whole) prior)
  after count = ap (after_stores m) (take-stores slot 0 count whole)
      ∙ after-octets m slot (take count whole)

  torn : (count : ℕ) → count < length whole
      → newest_content (after_stores m (take count (saving m content))) ≡ newest_content m
  torn zero part = ap newest_content (after 0 ∙ with-same m slot)
  torn (suc count) part =
      let mark = mark_for m (newest m) in
      let differs = fresh-differs (newest_mark m (newest m)) (last_octet prior) in
      ap newest_content (after (suc count))
      ∙ torn-loads m (sets 0 (take (suc count) whole) prior)
      (torn-is_whole mark content prior count size differs part)

  all-set : sets 0 whole prior ≡ whole
  all-set =
      let long : length prior ≡ length whole =
      omega (arith, size, length-image (mark_for m (newest m)) content) in
      let end : 0 + length whole ≡ length prior = omega (arith, long) in
      let none : drop (0 + length whole) prior ≡ [] =
      ap (λ n. drop n prior) end ∙ drop-length prior in
      sets-is 0 whole prior (omega (arith, long))
      ∙ (ap (λ l. whole ++ l) none ∙ append-nil whole)

  done : (count : ℕ) → length whole ≤ count
      → newest_content (after_stores m (take count (saving m content))) ≡ Some content
  done count all =
      let octets : take count whole ≡ whole = take_all count whole all in
      let is : sets 0 (take count whole) prior ≡ whole =
      ap (λ l. sets 0 l prior) octets ∙ all-set in
      ap newest_content (after count ∙ ap (with_slot m slot) is)
      ∙ (done-loads m content ∙ ap Some (image-content (mark_for m (newest m)) content))

is-loaded : (o : Option (List ℕ)) (content : List ℕ) → is_loaded o content ≡ true
    → o ≡ Some content
is-loaded None content e = absurd (cc)
is-loaded (Some prior) content e = ap Some ((bytes_eq-Decides prior content).0 e)

-- of no stores, and of those of a save
abbrev WholeOrNothing : Memory → List ℕ → ℕ → List Store → Type 0
WholeOrNothing m content count stores =
    (count < length stores → newest_content (after_stores m (take count stores)) ≡ newest_content m)
    × (length stores ≤ count → newest_content (after_stores m (take count stores)) ≡ Some content)

no-stores : (m : Memory) (count : ℕ) → after_stores m (take count []) ≡ m
no-stores m zero = refl
no-stores m (suc count) = refl

by-loaded : (m : Memory) (content : List ℕ) (count : ℕ) → FitsIn m content → (same : Bool)
    → is_loaded (newest_content m) content ≡ same
    → WholeOrNothing m content count (if same then [] else saving m content)
by-loaded m content count fit true e = (
  λ part. ap newest_content (no-stores m count),
  λ all. ap newest_content (no-stores m count) ∙ is-loaded (newest_content m) content e,
)
by-loaded m content count fit false e =
    let whole = image (mark_for m (newest m)) content in
    let long = length-stores (free_slot (newest m)) 0 whole in (
      λ part. torn m content fit count (omega (arith, long, part)),
      λ all. done m content fit count (omega (arith, long, all)),
    )

pub whole-or-nothing : EachSaveIsWholeOrNothing
whole-or-nothing m content count fit =
    by-loaded m content count fit (is_loaded (newest_content m) content) refl

-- a save that is done
pub save-loads : (m : Memory) (content : List ℕ) → FitsIn m content
    → newest_content (after_stores m (keeping m content)) ≡ Some content
save-loads m content fit =
    let stores = keeping m content in
    let count = length stores in
    let same : take count stores ≡ stores = take_all count stores (omega arith) in
    ap (λ ss. newest_content (after_stores m ss)) (sym same)
    ∙ (whole-or-nothing m content count fit).1 (omega arith)

at-most : (x y : ℕ) → nat_le x y ≡ true → x ≤ y
at-most x y e = grind (arith, e)

below : (x y : ℕ) → nat_le x y ≡ false → y < x
below x y e = grind (arith, e)

-- attempts
attempt-loads : (m : Memory) (a : CutSave) → FitsIn m a.content
    → newest_content (after_attempt m a)
    ≡ (if is_done m a then Some a.content else newest_content m)
attempt-loads m a fit = by-done (is_done m a) refl
  where
    count : ℕ
    count = length (keeping m a.content)

    by-done : (done : Bool) → is_done m a ≡ done
        → newest_content (after_attempt m a) ≡ (if done then Some a.content else newest_content m)
    by-done true e = (whole-or-nothing m a.content a.octets fit).1 (at-most count a.octets e)
    by-done false e = (whole-or-nothing m a.content a.octets fit).0 (below count a.octets e)

all-fit-after : (m n : Memory) (attempts : List CutSave)
    → ((slot : Slot) → length (slot_octets n slot) ≡ length (slot_octets m slot))
    → AllFit m attempts → AllFit n attempts
all-fit-after m n [] same fit = fit
all-fit-after m n (a ∷ others) same fit = (
  record { first = same First ∙ fit.0.first; second = same Second ∙ fit.0.second },
  all-fit-after m n others same fit.1,
)

pub outlive : SavesOutlivePowerCuts
outlive m [] fit = refl
outlive m (a ∷ others) fit =
    let next = after_attempt m a in
    let same : (slot : Slot) → length (slot_octets next slot) ≡ length (slot_octets m slot) =
    λ slot. length-after m (take a.octets (keeping m a.content)) slot in
    outlive next others (all-fit-after m next others same fit.1)
    ∙ ap (λ last. last_done next last others) (attempt-loads m a fit.0)

-- what a save leaves
pub saved : (m n : Memory) (content : List ℕ) → FitsIn m content
    → n ≡ after_stores m (keeping m content) → (newest_content n ≡ Some content) × FitsIn n content
saved m n content fit e =
    let same : (slot : Slot) → length (slot_octets n slot) ≡ length (slot_octets m slot) =
    λ slot. ap (λ l. length (slot_octets l slot)) e ∙ length-after m (keeping m content) slot in (
      ap newest_content e ∙ save-loads m content fit,
      record { first = same First ∙ fit.first; second = same Second ∙ fit.second },
    )

pub saved-anew : (m n : Memory) (content : List ℕ) → FitsIn m content
    → is_loaded (newest_content m) content ≡ false → n ≡ after_stores m (saving m content)
    → (newest_content n ≡ Some content) × FitsIn n content
saved-anew m n content fit other e = saved m n content fit
    (e ∙ ap (λ b. after_stores m (if b then [] else saving m content)) (sym other))
