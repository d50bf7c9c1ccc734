-- Counters that are printed one after the other, for the clause of `print_counters`.
-- For the clauses of `counters_printing::print_counters`.
use Rattle.std.proofs.Common.{◌≡◌, ℕ, List, ◌++◌, length, map, take, sym, ap, ◌∙◌, append_assoc}
use Rattle.std.specs.List.{flat_map}
use Rattle.std.proofs.Math.Seq.{take-length}
use Rattle.std.proofs.lemmas.List.{length-map}
use Rattle.std.proofs.lemmas.List.Folds.{flat_map-map}
use Rattle.iol_port.specs.declared.counters.Counters.{Counters}
use Rattle.iol_commands.specs.CountersPrinted.{named_counters}

-- there are fourteen
pub count_is : {X : Type 0} (named : X → List ℕ × ℕ) (xs : List X) (c : Counters)
    → map named xs ≡ named_counters c → length xs ≡ 14
count_is named xs c is = sym (length-map xs named) ∙ ap length is

-- all are printed, behind a word and before one
pub all_printed : {X Y : Type 0} (text : Y → List ℕ) (named : X → Y) (xs : List X) (ys : List Y)
    (i : ℕ) (old first out last new : List ℕ) → map named xs ≡ ys → i ≡ length xs
    → out ≡ (old ++ first) ++ flat_map (λ x. text (named x)) (take i xs) → new ≡ out ++ last
    → new ≡ old ++ (first ++ (flat_map text ys ++ last))
all_printed text named xs ys i old first out last new is all printed wrote =
    rw (wrote, printed, all, take-length, ← is, flat_map-map text named xs) (simp append_assoc)
