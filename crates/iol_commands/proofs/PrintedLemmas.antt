-- Texts that are printed one behind the other, for clauses that say what a function prints.
-- For the clauses of `Tracer::make`, `counters_printing::print_counters`, `ending::print_ending`
--     and 8 more.
pub use Rattle.iol_print.proofs.PrintedLemmas.{behind}
use Rattle.std.proofs.Common.{◌≡◌, ℕ, ◌+◌, ◌<◌, Result, OnOk, List, ◌++◌, length, get_or, take, arith, append_assoc, rules}
use Rattle.std.specs.List.{flat_map}
use Rattle.std.proofs.lemmas.Grind.{common_steps}
use Rattle.std.proofs.lemmas.Result.{IfOk-equal}

-- four texts
pub pieces_printed : {T E : Type 0} (r : Result T E) (old one two three new a b c d : List ℕ)
    → one ≡ old ++ a → two ≡ one ++ b → three ≡ two ++ c → OnOk r (new ≡ three ++ d)
    → OnOk r (new ≡ old ++ (a ++ b ++ c ++ d))
pieces_printed r old one two three new a b c d first second third wrote =
    search (rules, IfOk-equal, append_assoc)

-- for functions that print one text behind another
pub ruleset joined = (append_assoc, common_steps)

-- one more of a list
pub one_printed : {X : Type 0} (text : X → List ℕ) (old out new : List ℕ) (xs : List X) (i : ℕ)
    (d : X) → out ≡ old ++ flat_map text (take i xs) → i < length xs
    → new ≡ out ++ text (get_or xs i d) → new ≡ old ++ flat_map text (take (i + 1) xs)
one_printed text old out new xs i d is within wrote = grind (arith, joined)
