-- The octets of a set, one parameter behind the other: the clauses of `write_into` and `read`.
-- For the clauses of `Set::write_into` and `set::read_object`.
use Rattle.std.proofs.Common.{◌≡◌, ◌≤◌, ◌<◌, ◌+◌, ◌*◌, ◌/◌, ◌%◌, ◌-◌, ◌∷◌, ◌++◌, ◌∙◌, [], ℕ, List, Some, refl, sym, ap, arith, length, take, drop, get_or, append_assoc, length-append}
use Rattle.std.specs.Prelude.{slice_get}
use Rattle.std.proofs.Math.Seq.{take-length}
use Rattle.std.proofs.lemmas.List.{take_more, append-nil, take-append-drop}
use Rattle.std.proofs.lemmas.Option.{slice_get_within, get_or_from_slice_get}
use Rattle.iol_isdu.specs.declared.values.Place.{Place}
use Rattle.iol_storage.specs.Objects.{values_size}
use Rattle.iol_storage.specs.Sets.{object_image, objects_image, unit_image}

abbrev Values : Type 0
Values = List (Place × List ℕ)

pub image-length : (os : Values) → length (objects_image os) ≡ values_size os + 4 * length os
image-length [] = omega arith
image-length (o ∷ os) =
    omega (arith, image-length os, length-append o.1 (objects_image os))

pub image-append : (os more : Values)
    → objects_image (os ++ more) ≡ objects_image os ++ objects_image more
image-append [] more = refl
image-append (o ∷ os) more = ap (λ octets. object_image o ++ octets) (image-append os more)
    ∙ sym (append_assoc (object_image o) (objects_image os) (objects_image more))

-- one more
pub image-more : (os : Values) (i : ℕ) (o : Place × List ℕ) → slice_get os i ≡ Some o
    → objects_image (take (i + 1) os) ≡ objects_image (take i os) ++ object_image o
image-more os i o is =
    let more = take_more os i o (slice_get_within os i o is) in
    ap objects_image more ∙ (image-append (take i os) (get_or os i o ∷ [])
    ∙ ap (λ x. objects_image (take i os) ++ x)
    (append-nil (object_image (get_or os i o))
    ∙ ap object_image (get_or_from_slice_get os i o o is)))

image-part : (os : Values) (i : ℕ)
    → length (objects_image (take i os)) ≤ length (objects_image os)
image-part os i =
    let parts = ap objects_image (take-append-drop i os) in
    let joined = image-append (take i os) (drop i os) in
    let size = length-append (objects_image (take i os)) (objects_image (drop i os)) in
    omega (arith, ap length (sym joined ∙ parts), size)

pub image-room : (os : Values) (i : ℕ) (o : Place × List ℕ) → slice_get os i ≡ Some o
    → length (objects_image (take i os)) + 4 + length o.1 ≤ length (objects_image os)
image-room os i o is =
    let part = image-part os (i + 1) in
    let more = ap length (image-more os i o is)
    ∙ length-append (objects_image (take i os)) (object_image o) in
    omega (arith, part, more)

-- one more parameter behind a header and those before it
pub next-image : (os : Values) (i : ℕ) (o : Place × List ℕ) (image next : List ℕ)
    (header : List ℕ) → slice_get os i ≡ Some o
    → image ≡ header ++ objects_image (take i os)
    → length image ≤ 31 + length (objects_image (take i os))
    → next ≡ image ++ object_image o
    → (next ≡ header ++ objects_image (take (i + 1) os))
    × (length next ≤ 31 + length (objects_image (take (i + 1) os)))
next-image os i o image next header is items size one =
    let more = image-more os i o is in
    let grown = ap length more ∙ length-append (objects_image (take i os)) (object_image o) in (
      one ∙ (ap (λ x. x ++ object_image o) items
          ∙ (append_assoc header (objects_image (take i os)) (object_image o)
          ∙ sym (ap (λ x. header ++ x) more))),
      omega (arith, ap length one ∙ length-append image (object_image o), size, grown),
    )

pub header-image : (checksum device unit one two three next : List ℕ)
    → length checksum ≡ 4 → length device ≡ 5
    → one ≡ checksum → two ≡ one ++ device → three ≡ two ++ 0 ∷ (0 ∷ [])
    → next ≡ three ++ unit_image unit → length next ≤ length three + 20
    → (next ≡ (checksum ++ (device ++ (0 ∷ (0 ∷ unit_image unit)))) ++ [])
    × (length next ≤ 31)
header-image checksum device unit one two three next first second are-one are-two are-three is
    short = (
      is ∙ (ap (λ x. x ++ unit_image unit) (are-three
          ∙ ap (λ x. x ++ 0 ∷ (0 ∷ [])) (are-two ∙ ap (λ x. x ++ device) are-one))
          ∙ simp (append_assoc, append-nil)),
      omega (
        arith,
        ap length are-three ∙ length-append two (0 ∷ (0 ∷ [])),
        ap length are-two ∙ length-append one device,
        ap length are-one,
      ),
    )

-- one parameter more of those that have these octets
pub read-one : (image : List ℕ) (os new : Values) (index size : ℕ) (value rest : List ℕ)
    → 4 ≤ length image → get_or image 1 0 < 256
    → index ≡ get_or image 0 0 * 256 + get_or image 1 0 → size ≡ get_or image 3 0
    → value ≡ take size (take (length image - 4) (drop 4 image))
    → rest ≡ drop size (take (length image - 4) (drop 4 image))
    → length value ≡ size
    → new ≡ os ++ (record { index = index; sub = get_or image 2 0 }, value) ∷ []
    → objects_image new ++ rest ≡ objects_image os ++ image
read-one (high ∷ (low ∷ (sub ∷ (count ∷ more)))) os new index size value rest long octet place
    counts front back length_is is =
    let object : Place × List ℕ = (record { index = index; sub = sub }, value) in
    let first : index / 256 ≡ high = omega (arith, place, octet) in
    let second : index % 256 ≡ low = omega (arith, place, octet) in
    let whole_rest : take (length (high ∷ (low ∷ (sub ∷ (count ∷ more)))) - 4) more ≡ more =
    ap (λ n. take n more) (omega arith) ∙ take-length more in
    let parts : value ++ rest ≡ more =
    ap (λ v. v ++ rest) (front ∙ ap (take size) whole_rest)
    ∙ (ap (λ r. take size more ++ r) (back ∙ ap (drop size) whole_rest)
    ∙ take-append-drop size more) in
    let whole : object_image object ++ rest ≡ high ∷ (low ∷ (sub ∷ (count ∷ more))) =
    rw (first, second, length_is, counts, parts) refl in
    ap (λ x. objects_image x ++ rest) is ∙ (ap (λ x. x ++ rest) (image-append os (object ∷ []))
    ∙ (append_assoc (objects_image os) (objects_image (object ∷ [])) rest
    ∙ (ap (λ x. objects_image os ++ (x ++ rest)) (append-nil (object_image object))
    ∙ ap (λ x. objects_image os ++ x) whole)))
read-one [] os new index size value rest long octet place counts front back length_is is =
    absurd (omega (arith, long))
read-one (a ∷ []) os new index size value rest long octet place counts front back length_is is =
    absurd (omega (arith, long))
read-one (a ∷ (b ∷ [])) os new index size value rest long octet place counts front back
    length_is is =
    absurd (omega (arith, long))
read-one (a ∷ (b ∷ (c ∷ []))) os new index size value rest long octet place counts front back
    length_is is =
    absurd (omega (arith, long))
