-- Whether a line asks for the counters, for `asks_for_counters` and the loop of
-- `any_asks_for_counters`.
-- For the clauses of `ending::any_asks_for_counters` and `ending::line_asks`.
use Rattle.std.proofs.Common.{◌≡◌, ℕ, zero, suc, false, List, [], ◌∷◌, replicate, refl}
use Rattle.std.proofs.lemmas.List.Folds.{list_any-append}
use Rattle.std.specs.Prelude.{◌||◌}
use Rattle.std.specs.List.{list_any}
use Rattle.std.specs.Option.{option_map_or}
use Rattle.iol_port.specs.declared.call.Call.TheVariants.{Turn}
use Rattle.iol_script.specs.RunLines.{run_form}
use Rattle.iol_script.specs.Script.{calls_in, calls_of}
use Rattle.iol_commands.specs.RunPrinted.{is_counters}

-- no turn does
pub no_turn_asks : (n : ℕ) → list_any is_counters (replicate n Turn) ≡ false
no_turn_asks zero = refl
no_turn_asks (suc n) = no_turn_asks n

-- the first line, or one of those behind it
pub first_asks : (number : ℕ) (line : List ℕ) (rest : List (ℕ × List ℕ))
    → list_any is_counters (calls_in ((number, line) ∷ rest))
    ≡ (list_any is_counters (option_map_or calls_of (run_form line) [])
    || list_any is_counters (calls_in rest))
first_asks number line rest =
    list_any-append is_counters (option_map_or calls_of (run_form line) []) (calls_in rest)
