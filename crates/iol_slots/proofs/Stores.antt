-- Stores, one behind the other.
-- For the clauses of `image::store_all`, `image::store_image`, `image::save` and 2 more.
use Rattle.std.proofs.Common.{◌≡◌, ◌≤◌, ◌<◌, ◌+◌, ◌∷◌, ◌++◌, ◌∙◌, [], ℕ, List, refl, subst, sym, ap, arith, length, get_or, take}
use Rattle.std.specs.Prelude.{slice_set}
use Rattle.std.proofs.lemmas.List.{take_more, length-set, length-take-le}
use Rattle.iol_slots.specs.declared.slots.Slot.{Slot}
use Rattle.iol_slots.specs.declared.slots.Slot.TheVariants.{First, Second}
use Rattle.iol_slots.specs.declared.slots.Store.{Store}
use Rattle.iol_slots.specs.Memory.{Memory, slot_octets, with_slot, after_store, after_stores, stores_of, AreStored}
use Rattle.iol_slots.specs.Images.{image}

abbrev pub Gives : Type 0 → Type 1
Gives S = S → Store → S → Type 0

pub are-stored-append : {S : Type 0} (gives : Gives S) (ss ts : List Store) (old mid new : S)
    → AreStored gives old ss mid → AreStored gives mid ts new → AreStored gives old (ss ++ ts) new
are-stored-append gives [] ts old mid new done rest =
    subst (λ s. AreStored gives s ts new) done rest
are-stored-append gives (s ∷ ss) ts old mid new done rest =
    (done.0, done.1, are-stored-append gives ss ts done.0 mid new done.2 rest)

pub are-stored-more : {S : Type 0} (gives : Gives S) (ss : List Store) (s : Store) (old mid new : S)
    → AreStored gives old ss mid → gives mid s new → AreStored gives old (ss ++ s ∷ []) new
are-stored-more gives ss s old mid new done one =
    are-stored-append gives ss (s ∷ []) old mid new done (new, one, refl)

pub after_stores-append : (m : Memory) (ss ts : List Store)
    → after_stores m (ss ++ ts) ≡ after_stores (after_stores m ss) ts
after_stores-append m [] ts = refl
after_stores-append m (s ∷ ss) ts = after_stores-append (after_store m s) ss ts

pub stores_of-append : (slot : Slot) (at : ℕ) (xs ys : List ℕ)
    → stores_of slot at (xs ++ ys) ≡ stores_of slot at xs ++ stores_of slot (at + length xs) ys
stores_of-append slot at [] ys =
    let none : at ≡ at + 0 = omega arith in
    ap (λ n. stores_of slot n ys) none
stores_of-append slot at (x ∷ xs) ys =
    let more : at + 1 + length xs ≡ at + length (x ∷ xs) = omega arith in
    let first : Store = record { slot = slot; at = at; octet = x } in
    ap (λ ss. first ∷ ss) (stores_of-append slot (at + 1) xs ys
    ∙ ap (λ n. stores_of slot (at + 1) xs ++ stores_of slot n ys) more)

-- storing keeps the sizes
length-with : (m : Memory) (own slot : Slot) (octets : List ℕ)
    → length octets ≡ length (slot_octets m own)
    → length (slot_octets (with_slot m own octets) slot) ≡ length (slot_octets m slot)
length-with m First First octets e = e
length-with m First Second octets e = refl
length-with m Second First octets e = refl
length-with m Second Second octets e = e

pub length-stored : (m : Memory) (s : Store) (slot : Slot)
    → length (slot_octets (after_store m s) slot) ≡ length (slot_octets m slot)
length-stored m s slot = length-with m s.slot slot (slice_set (slot_octets m s.slot) s.at s.octet)
    (length-set (slot_octets m s.slot) s.at s.octet)

pub length-after : (m : Memory) (ss : List Store) (slot : Slot)
    → length (slot_octets (after_stores m ss) slot) ≡ length (slot_octets m slot)
length-after m [] slot = refl
length-after m (s ∷ ss) slot = length-after (after_store m s) ss slot ∙ length-stored m s slot

-- the stores of one octet more
pub stores-more : (slot : Slot) (at i : ℕ) (octets : List ℕ) → i < length octets
    → stores_of slot at (take (i + 1) octets) ≡ stores_of slot at (take i octets)
    ++ record { slot = slot; at = at + i; octet = get_or octets i 0 } ∷ []
stores-more slot at i octets within =
    let size : length (take i octets) ≡ i = length-take-le i octets (omega arith) in
    ap (stores_of slot at) (take_more octets i 0 within)
    ∙ (stores_of-append slot at (take i octets) (get_or octets i 0 ∷ [])
    ∙ ap (λ n. stores_of slot at (take i octets)
    ++ record { slot = slot; at = at + n; octet = get_or octets i 0 } ∷ []) size)

-- one octet more in a loop
module _ (slot : Slot) (from i at : ℕ) (octets : List ℕ) (within : i < length octets)
    (place : at ≡ from + i) where
  abbrev pub so_far : ℕ → List Store
  so_far n = stores_of slot from (take n octets)

  abbrev pub store_at : ℕ → Store
  store_at n = record { slot = slot; at = n; octet = get_or octets i 0 }

  pub step-stores : {S : Type 0} (gives : Gives S) (old mid new : S)
      → AreStored gives old (so_far i) mid → gives mid (store_at at) new
      → AreStored gives old (so_far (i + 1)) new
  step-stores gives old mid new done one =
      let here : gives mid (store_at (from + i)) new =
      subst (λ n. gives mid (store_at n) new) place one in
      subst (λ ss. AreStored gives old ss new) (sym (stores-more slot from i octets within))
      (are-stored-more gives (so_far i) (store_at (from + i)) old mid new done here)

  pub step-holds : (first mid new : Memory) → mid ≡ after_stores first (so_far i)
      → new ≡ after_store mid (store_at at) → new ≡ after_stores first (so_far (i + 1))
  step-holds first mid new done one =
      one ∙ (ap (λ n. after_store mid (store_at n)) place
      ∙ (ap (λ m. after_store m (store_at (from + i))) done
      ∙ sym (ap (after_stores first) (stores-more slot from i octets within)
      ∙ after_stores-append first (so_far i) (store_at (from + i) ∷ []))))

pub step-room : (mid new : Memory) (s : Store) (slot : Slot) (size : ℕ) → new ≡ after_store mid s
    → size ≤ length (slot_octets mid slot) → size ≤ length (slot_octets new slot)
step-room mid new s slot size one room =
    omega (arith, ap (λ m. length (slot_octets m slot)) one, length-stored mid s slot, room)

-- the same behind several
pub after-room : (old new : Memory) (ss : List Store) (slot : Slot) (size : ℕ)
    → new ≡ after_stores old ss
    → size ≤ length (slot_octets old slot) → size ≤ length (slot_octets new slot)
after-room old new ss slot size done room =
    omega (arith, ap (λ m. length (slot_octets m slot)) done, length-after old ss slot, room)

-- an image is stored as its first mark, its content and its last mark
module _ (slot : Slot) (mark : ℕ) (content : List ℕ) where
  abbrev pub marks : List ℕ
  marks = mark ∷ []

  in-parts : stores_of slot 0 (image mark content) ≡ stores_of slot 0 marks
      ++ (stores_of slot 1 content ++ stores_of slot (1 + length content) marks)
  in-parts = ap (λ ss. record { slot = slot; at = 0; octet = mark } ∷ ss)
      (stores_of-append slot 1 content marks)

  pub image-stored : {S : Type 0} (gives : Gives S) (a b c d : S)
      → AreStored gives a (stores_of slot 0 marks) b
      → AreStored gives b (stores_of slot 1 content) c
      → AreStored gives c (stores_of slot (1 + length content) marks) d
      → AreStored gives a (stores_of slot 0 (image mark content)) d
  image-stored gives a b c d first second third =
      let last = stores_of slot (1 + length content) marks in
      subst (λ ss. AreStored gives a ss d) (sym in-parts)
      (are-stored-append gives (stores_of slot 0 marks) (stores_of slot 1 content ++ last) a b d
      first (are-stored-append gives (stores_of slot 1 content) last b c d second third))

  pub image-after : (a b c d : Memory) → b ≡ after_stores a (stores_of slot 0 marks)
      → c ≡ after_stores b (stores_of slot 1 content)
      → d ≡ after_stores c (stores_of slot (1 + length content) marks)
      → d ≡ after_stores a (stores_of slot 0 (image mark content))
  image-after a b c d first second third =
      let begin = stores_of slot 0 marks in
      let middle = stores_of slot 1 content in
      let last = stores_of slot (1 + length content) marks in
      third ∙ (ap (λ m. after_stores m last) second
      ∙ (sym (after_stores-append b middle last)
      ∙ (ap (λ m. after_stores m (middle ++ last)) first
      ∙ (sym (after_stores-append a begin (middle ++ last))
      ∙ ap (after_stores a) (sym in-parts)))))
