-- Digits behind what is no number. `digits_behind` needs `bad_ends`.
-- For the clauses of `octet_line::digits_behind`.
use Rattle.std.proofs.Common.{◌≡◌, ℕ, ◌<◌, suc, List, [], ◌∷◌, length, drop, get_or, refl, ap, ◌∙◌, drop-cons}
use Rattle.std.specs.Prelude.{Some, None, fold}
use Rattle.iol_capture.specs.OctetLines.{digit_behind}

none_stays : (digits : List ℕ) → fold digit_behind None digits ≡ None
none_stays [] = refl
none_stays (c ∷ digits) = none_stays digits

-- where one digit is bad, the rest matters no more
pub bad_ends : (number i : ℕ) (digits : List ℕ) → i < length digits
    → digit_behind (Some number) (get_or digits i 0) ≡ None
    → fold digit_behind (Some number) (drop i digits) ≡ None
bad_ends number i digits h bad =
    ap (fold digit_behind (Some number)) (drop-cons digits i 0 h)
    ∙ ap (λ n. fold digit_behind n (drop (suc i) digits)) bad
    ∙ none_stays (drop (suc i) digits)
