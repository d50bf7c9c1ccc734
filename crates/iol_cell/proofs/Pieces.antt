-- Thirty-two octets in four pieces of eight: `words_of` and `image_in` need these.
-- For the clauses of `packing::image_in` and `packing::words_of`.
use Rattle.std.proofs.Common.{◌≡◌, ℕ, ◌≤◌, List, ◌++◌, length, take, drop, sym, refl, ap, ◌∙◌, arith, min, true, false, [], ◌∷◌, zero, suc, Some, Result, Ok, Err, IfOk, IsOk}
use Rattle.std.specs.Int.{to_le_bytes, w64}
use Rattle.std.specs.Result.{result_ok}
use Rattle.std.proofs.Math.Seq.{take-add, take-length, take-append_seam}
use Rattle.std.proofs.lemmas.List.{length-append, length-drop, length-take, take_min}
use Rattle.iol_image.specs.Image.{IsImage}
use Rattle.iol_cell.specs.Packing.{with_padding, packed_octets, image_or_none, image_of}

joined_pieces : (first second third fourth octets : List ℕ) → length octets ≡ 32
    → first ≡ take 8 (drop 0 octets) → second ≡ take 8 (drop 8 octets)
    → third ≡ take 8 (drop 16 octets) → fourth ≡ take 8 (drop 24 octets)
    → first ++ second ++ third ++ fourth ≡ octets
joined_pieces first second third fourth octets full at_0 at_8 at_16 at_24 =
    let two : take 16 octets ≡ take 8 octets ++ take 8 (drop 8 octets) = take-add 8 8 octets in
    let three : take 24 octets ≡ take 16 octets ++ take 8 (drop 16 octets) = take-add 16 8 octets in
    let four : take 32 octets ≡ take 24 octets ++ take 8 (drop 24 octets) = take-add 24 8 octets in
    let all : take 32 octets ≡ octets = ap (λ n. take n octets) (sym full) ∙ take-length octets in
    cc

length-with_padding : (octets : List ℕ) → length octets ≤ 32 → length (with_padding octets) ≡ 32
length-with_padding octets fits = simp (length-append, length-drop) (omega arith)

pub length-octets_of : (words : List ℕ) → length (packed_octets words) ≡ 32
unfolding packed_octets
length-octets_of words = refl

take_up_to_32 : (n : ℕ) (octets : List ℕ) → length octets ≡ 32
    → take (min n 32) octets ≡ take n octets
take_up_to_32 n octets full = ap (λ (m : ℕ). take (min n m) octets) (sym full) ∙ take_min n octets

-- what is packed is read back
pub image_of-packed : (octets image whole : List ℕ) (first second third fourth : ℕ)
    → octets ≡ image → IsImage octets → whole ≡ with_padding image
    → to_le_bytes w64 first ≡ take 8 (drop 0 whole) → to_le_bytes w64 second ≡ take 8 (drop 8 whole)
    → to_le_bytes w64 third ≡ take 8 (drop 16 whole)
    → to_le_bytes w64 fourth ≡ take 8 (drop 24 whole)
    → image_of (length octets ∷ first ∷ second ∷ third ∷ fourth ∷ []) ≡ Some image
unfolding packed_octets
image_of-packed [] image whole first second third fourth same is padded at_0 at_8 at_16 at_24 =
    absurd (omega arith)
image_of-packed (octet ∷ rest) image whole first second third fourth same is padded at_0 at_8
    at_16 at_24 =
    let octets : List ℕ = octet ∷ rest in
    let with_zeros : whole ≡ with_padding octets = padded ∙ ap with_padding (sym same) in
    let full : length whole ≡ 32 = ap length with_zeros ∙ length-with_padding octets is.fits in
    let joined : to_le_bytes w64 first ++ to_le_bytes w64 second ++ to_le_bytes w64 third
    ++ to_le_bytes w64 fourth ≡ whole =
    joined_pieces _ _ _ _ whole full at_0 at_8 at_16 at_24 in
    ap Some (ap (λ (l : List ℕ). take (length octets) l) (joined ∙ with_zeros)
    ∙ take-append_seam octets _ ∙ same)

-- what is made of the first octets is the image of that length, or none
pub image_of_first : {E : Type 0} (made : Result (List ℕ) E) (n : ℕ) (octets first : List ℕ)
    → length octets ≡ 32 → first ≡ take (min n 32) octets
    → IfOk made (λ image. image ≡ first) → (IsOk made → IsImage first) → (IsImage first → IsOk made)
    → result_ok made ≡ image_or_none n octets
image_of_first (Ok image) zero octets first full taken same only when =
    let few : length first ≡ 0 = ap length taken in absurd (omega (arith, (only refl).some_octet))
image_of_first (Ok image) (suc n) octets first full taken same only when =
    ap Some (same ∙ taken ∙ take_up_to_32 (suc n) octets full)
image_of_first (Err fault) zero octets first full taken same only when = refl
image_of_first (Err fault) (suc n) octets first full taken same only when =
    let size : length first ≡ min (min (suc n) 32) 32 =
    ap length taken ∙ length-take (min (suc n) 32) octets ∙ ap (min (min (suc n) 32)) full in
    let bad : false ≡ true = when record { some_octet = omega arith; fits = omega arith } in cc
