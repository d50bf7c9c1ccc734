-- What octets within bounds say of an image and of a page: `image_of` and `page_of` need these.
-- For the clauses of `fields::image_of` and `setting::page_of`.
use Rattle.std.proofs.Common.{◌≡◌, ◌↔◌, ℕ, ◌≤◌, Bool, true, false, cond, Option, Some, None, Result, Ok, Err, IsOk, IfOk, is_ok, List, length, option_and_then, refl, arith}
use Rattle.std.specs.Result.{result_ok}
use Rattle.std.proofs.lemmas.Bool.Decides.{nat_tests}
use Rattle.iol_image.specs.Image.{IsImage}
use Rattle.iol_page.specs.Page.{layouts_of}
use Rattle.iol_script.specs.Numerals.{octets_of_words, octets_within}
use Rattle.iol_script.specs.RunLines.{page_octets}

-- octets that are within bounds are those that were given
pub within-is : (most : ℕ) (items : List ℕ) (parsed : Option (List ℕ))
    → Some items ≡ option_and_then (octets_within 0 most) parsed → parsed ≡ Some items
within-is most items parsed e = grind (arith, nat_tests)

-- what isn't within wider bounds isn't within narrower ones
pub not_within : (most : ℕ) (parsed : Option (List ℕ))
    → None ≡ option_and_then (octets_within 0 most) parsed
    → None ≡ option_and_then (octets_within 1 most) parsed
not_within most parsed e = grind (arith, nat_tests)

no_image : (items : List ℕ) → (1 ≤ length items → length items ≤ 32 → ⊥)
    → None ≡ octets_within 1 32 items
no_image items not = grind (arith, nat_tests)

-- octets are an image, or aren't
pub image-within : {E : Type 0} (items : List ℕ) (r : Result (List ℕ) E)
    → IfOk r (λ image. image ≡ items) → (IsOk r ↔ IsImage items)
    → result_ok r ≡ octets_within 1 32 items
image-within items (Ok image) is all =
    let some_octet = (all.0 refl).some_octet in
    let fits = (all.0 refl).fits in
    grind (arith, nat_tests)
image-within items (Err e) is all = no_image items (λ some_octet fits.
    let bad : false ≡ true = all.1 (record { some_octet = some_octet; fits = fits }) in cc)

-- the words of a page give its octets
pub page_read : (words : List (List ℕ)) (items page : List ℕ) (good : Bool)
    → Some items ≡ option_and_then (octets_within 0 10) (octets_of_words words) → page ≡ items
    → length items ≡ 10 → good ≡ is_ok (layouts_of page)
    → cond good (Some page) None ≡ page_octets words
page_read words items page good parsed same size is =
    rw (within-is 10 items (octets_of_words words) parsed, is, same) (grind (arith, nat_tests))
