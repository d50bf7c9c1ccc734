-- A save is whole, or nothing.
-- For the clauses of `image::save`, `laws::each_save_is_whole_or_nothing` and
--     `laws::saves_outlive_power_cuts`.
use Rattle.std.proofs.Common.{◌≡◌, ◌≤◌, ◌<◌, ◌+◌, ◌-◌, ◌∷◌, ◌++◌, ◌∙◌, [], ℕ, zero, suc, List, Bool, true, false, Option, Some, refl, sym, ap, arith, length, take, drop}
use Rattle.std.specs.Prelude.{slice_set, slice_index, ◌==◌, option_map}
use Rattle.std.proofs.lemmas.Grind.{common_steps}
use Rattle.std.proofs.lemmas.List.{append_assoc, take-append-drop, length-set, length-take-le, length-append, length-drop, drop-set-lt, get_or-append_right, get_or-drop}
use Rattle.std.proofs.Math.Seq.{take-append_seam, take-suc-set, get_or-append_seam}
use Rattle.iol_slots.specs.declared.slots.Slot.{Slot}
use Rattle.iol_slots.specs.declared.slots.Slot.TheVariants.{First, Second}
use Rattle.iol_slots.specs.declared.slots.Store.{Store}
use Rattle.iol_slots.specs.Memory.{Memory, slot_octets, with_slot, after_stores, stores_of}
use Rattle.iol_slots.specs.Images.{is_mark, last_octet, image, is_whole_image, content_of, is_newer, newest_of, newest, newest_content, free_slot, newest_mark, fresh_mark}

-- octets with others from a place on
abbrev pub sets : ℕ → List ℕ → List ℕ → List ℕ
sets at [] prior = prior
sets at (x ∷ xs) prior = sets (at + 1) xs (slice_set prior at x)

after-first : (m : Memory) (at : ℕ) (octets : List ℕ)
    → after_stores m (stores_of First at octets)
    ≡ record { first = sets at octets m.first; second = m.second }
after-first m at [] = refl
after-first m at (x ∷ xs) =
    after-first (record { first = slice_set m.first at x; second = m.second }) (at + 1) xs

after-second : (m : Memory) (at : ℕ) (octets : List ℕ)
    → after_stores m (stores_of Second at octets)
    ≡ record { first = m.first; second = sets at octets m.second }
after-second m at [] = refl
after-second m at (x ∷ xs) =
    after-second (record { first = m.first; second = slice_set m.second at x }) (at + 1) xs

pub after-octets : (m : Memory) (slot : Slot) (octets : List ℕ)
    → after_stores m (stores_of slot 0 octets)
    ≡ with_slot m slot (sets 0 octets (slot_octets m slot))
after-octets m First octets = after-first m 0 octets
after-octets m Second octets = after-second m 0 octets

pub sets-is : (at : ℕ) (octets prior : List ℕ) → at + length octets ≤ length prior
    → sets at octets prior ≡ take at prior ++ (octets ++ drop (at + length octets) prior)
sets-is at [] prior room =
    let none : at + 0 ≡ at = omega arith in
    sym (ap (λ n. take at prior ++ drop n prior) none ∙ take-append-drop at prior)
sets-is at (x ∷ xs) prior room =
    let new = slice_set prior at x in
    let here : at < length prior = omega arith in
    let behind : at + length (x ∷ xs) ≡ at + 1 + length xs = omega arith in
    let size : length new ≡ length prior = length-set prior at x in
    let past : at < at + 1 + length xs = omega arith in
    let next : at + 1 ≡ suc at = omega arith in
    let front : take (at + 1) new ≡ take at prior ++ (x ∷ []) =
    ap (λ n. take n new) next ∙ take-suc-set prior at x here in
    let back : drop (at + 1 + length xs) new ≡ drop (at + length (x ∷ xs)) prior =
    drop-set-lt (at + 1 + length xs) prior at x past ∙ ap (λ n. drop n prior) (sym behind) in
    sets-is (at + 1) xs new (omega (arith, size, behind))
    ∙ (ap (λ f. f ++ (xs ++ drop (at + 1 + length xs) new)) front
    ∙ (ap (λ b. (take at prior ++ (x ∷ [])) ++ (xs ++ b)) back
    ∙ append_assoc (take at prior) (x ∷ []) (xs ++ drop (at + length (x ∷ xs)) prior)))

-- the first stores of octets are those of the first octets
pub take-stores : (slot : Slot) (at count : ℕ) (octets : List ℕ)
    → take count (stores_of slot at octets) ≡ stores_of slot at (take count octets)
take-stores slot at zero [] = refl
take-stores slot at (suc count) [] = refl
take-stores slot at zero (x ∷ xs) = refl
take-stores slot at (suc count) (x ∷ xs) =
    let first : Store = record { slot = slot; at = at; octet = x } in
    ap (λ ss. first ∷ ss) (take-stores slot (at + 1) count xs)

pub length-stores : (slot : Slot) (at : ℕ) (octets : List ℕ)
    → length (stores_of slot at octets) ≡ length octets
length-stores slot at [] = refl
length-stores slot at (x ∷ xs) = ap suc (length-stores slot (at + 1) xs)

-- what is loaded, by what the slots are
abbrev loaded_by : Bool → Bool → Bool → List ℕ → List ℕ → Option (List ℕ)
loaded_by a b c x y =
    option_map (λ slot. content_of (slot_octets (record { first = x; second = y }) slot))
    (newest_of a b c)

-- and with other octets in one of them
abbrev loaded_with : Slot → Bool → Bool → Bool → Bool → List ℕ → List ℕ → List ℕ
    → Option (List ℕ)
loaded_with First a b w c x y t = loaded_by w b c t y
loaded_with Second a b w c x y t = loaded_by a w c x t

torn-old : (a b c d : Bool) (x y t : List ℕ)
    → loaded_with (free_slot (newest_of a b c)) a b false d x y t ≡ loaded_by a b c x y
torn-old false false c d x y t = refl
torn-old true false c d x y t = refl
torn-old false true c d x y t = refl
torn-old true true true d x y t = refl
torn-old true true false d x y t = refl

done-new : (a b c d : Bool) (x y t : List ℕ)
    → (newest_of a b c ≡ Some First → d ≡ true) → (newest_of a b c ≡ Some Second → d ≡ false)
    → loaded_with (free_slot (newest_of a b c)) a b true d x y t ≡ Some (content_of t)
done-new false false c d x y t first second = refl
done-new true false c d x y t first second =
    ap (λ e. loaded_by true true e x t) (first refl)
done-new false true c d x y t first second =
    ap (λ e. loaded_by true true e t y) (second refl)
done-new true true true d x y t first second =
    ap (λ e. loaded_by true true e t y) (second refl)
done-new true true false d x y t first second =
    ap (λ e. loaded_by true true e x t) (first refl)

abbrev behind_with : Slot → Memory → List ℕ → Bool
behind_with First m t = is_newer (slice_index t 0) (slice_index m.second 0)
behind_with Second m t = is_newer (slice_index m.first 0) (slice_index t 0)

loaded-with : (slot : Slot) (m : Memory) (t : List ℕ) → newest_content (with_slot m slot t)
    ≡ loaded_with slot (is_whole_image m.first) (is_whole_image m.second) (is_whole_image t)
    (behind_with slot m t) m.first m.second t
loaded-with First m t = refl
loaded-with Second m t = refl

-- an image that isn't whole changes nothing
pub torn-loads : (m : Memory) (t : List ℕ) → is_whole_image t ≡ false
    → newest_content (with_slot m (free_slot (newest m)) t) ≡ newest_content m
torn-loads m t torn =
    let slot = free_slot (newest m) in
    let a = is_whole_image m.first in
    let b = is_whole_image m.second in
    let c = is_newer (slice_index m.first 0) (slice_index m.second 0) in
    let d = behind_with slot m t in
    loaded-with slot m t
    ∙ (ap (λ w. loaded_with slot a b w d m.first m.second t) torn
    ∙ torn-old a b c d m.first m.second t)

-- marks
pub fresh-is_mark : (mark last : ℕ) → is_mark (fresh_mark mark last) ≡ true
fresh-is_mark mark last = grind (arith, common_steps)

pub fresh-differs : (mark last : ℕ) → (fresh_mark mark last == last) ≡ false
fresh-differs mark last = grind (arith, common_steps)

pub fresh-behind : (mark last : ℕ) → is_newer mark (fresh_mark mark last) ≡ true
fresh-behind mark last = grind (arith, common_steps)

pub fresh-before : (mark last : ℕ) → is_newer (fresh_mark mark last) mark ≡ false
fresh-before mark last = grind (arith, common_steps)

-- the mark of the image that goes to the free slot
abbrev pub mark_for : Memory → Option Slot → ℕ
mark_for m best = fresh_mark (newest_mark m best) (last_octet (slot_octets m (free_slot best)))

behind-first : (m : Memory) (content : List ℕ) (best : Option Slot) → best ≡ Some First
    → behind_with (free_slot best) m (image (mark_for m best) content) ≡ true
behind-first m content best e =
    ap (λ b. behind_with (free_slot b) m (image (mark_for m b) content)) e
    ∙ fresh-behind (slice_index m.first 0) (last_octet m.second)

behind-second : (m : Memory) (content : List ℕ) (best : Option Slot) → best ≡ Some Second
    → behind_with (free_slot best) m (image (mark_for m best) content) ≡ false
behind-second m content best e =
    ap (λ b. behind_with (free_slot b) m (image (mark_for m b) content)) e
    ∙ fresh-before (slice_index m.second 0) (last_octet m.first)

pub image-content : (mark : ℕ) (content : List ℕ) → content_of (image mark content) ≡ content
image-content mark content =
    let size : length (image mark content) - 2 ≡ length content =
    omega (arith, length-append content (mark ∷ [])) in
    ap (λ n. take n (content ++ mark ∷ [])) size ∙ take-append_seam content (mark ∷ [])

pub length-image : (mark : ℕ) (content : List ℕ)
    → length (image mark content) ≡ length content + 2
length-image mark content = omega (arith, length-append content (mark ∷ []))

pub image-is_whole : (mark : ℕ) (content : List ℕ) → is_mark mark ≡ true
    → is_whole_image (image mark content) ≡ true
image-is_whole mark content good =
    let size : length (image mark content) - 1 ≡ length (mark ∷ content) =
    omega (arith, length-image mark content) in
    let last : last_octet (image mark content) ≡ mark =
    ap (λ n. slice_index (image mark content) n) size
    ∙ get_or-append_seam (mark ∷ content) mark [] 0 in
    let long : 2 ≤ length (image mark content) = omega (arith, length-image mark content) in
    grind (arith, common_steps, good, last, long)

-- an image that isn't finished isn't whole
pub torn-is_whole : (mark : ℕ) (content prior : List ℕ) (count : ℕ)
    → length prior ≡ length content + 2 → (mark == last_octet prior) ≡ false
    → suc count < length (image mark content)
    → is_whole_image (sets 0 (take (suc count) (image mark content)) prior) ≡ false
torn-is_whole mark content prior count size differs part =
    let some = mark ∷ take count (content ++ mark ∷ []) in
    let few : length some ≡ suc count =
    length-take-le (suc count) (image mark content) (omega arith) in
    let part_size = 0 + length some in
    let t = some ++ drop part_size prior in
    let is : sets 0 some prior ≡ t =
    sets-is 0 some prior (omega (arith, few, length-image mark content)) in
    let long : length t ≡ length prior = omega (
      arith,
      few,
      length-image mark content,
      length-append some (drop part_size prior),
      length-drop part_size prior,
    ) in
    let place = length t - 1 in
    let behind : length some ≤ place =
    omega (arith, few, long, size, length-image mark content) in
    let back : part_size + (place - length some) ≡ length prior - 1 =
    omega (arith, behind, long) in
    let last : last_octet t ≡ last_octet prior =
    get_or-append_right some (drop part_size prior) (length some) place 0 refl behind
    ∙ (get_or-drop part_size prior (place - length some) 0
    ∙ ap (λ n. slice_index prior n) back) in
    ap is_whole_image is ∙ grind (arith, common_steps, last, differs)

-- and one that is finished is what is loaded
pub done-loads : (m : Memory) (content : List ℕ)
    → newest_content (with_slot m (free_slot (newest m)) (image (mark_for m (newest m)) content))
    ≡ Some (content_of (image (mark_for m (newest m)) content))
done-loads m content =
    let best = newest m in
    let slot = free_slot best in
    let mark = mark_for m best in
    let t = image mark content in
    let a = is_whole_image m.first in
    let b = is_whole_image m.second in
    let c = is_newer (slice_index m.first 0) (slice_index m.second 0) in
    let d = behind_with slot m t in
    let good : is_mark mark ≡ true =
    fresh-is_mark (newest_mark m best) (last_octet (slot_octets m slot)) in
    loaded-with slot m t
    ∙ (ap (λ w. loaded_with slot a b w d m.first m.second t) (image-is_whole mark content good)
    ∙ done-new a b c d m.first m.second t (behind-first m content best)
    (behind-second m content best))
