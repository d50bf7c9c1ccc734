-- How many calls a script makes: each counts where its lines are read, so `traced_stored` may trace
-- them.
-- For the clauses of `stored_trace::traced_stored`.
use Rattle.std.proofs.Common.{ℕ, ◌≤◌, Option, Some, None, List, [], ◌∷◌, length, lit≤, map, arith}
use Rattle.std.proofs.lemmas.List.{length-append, length-map}
use Rattle.std.specs.Option.{option_map_or}
use Rattle.iol_script.specs.RunLines.{run_form}
use Rattle.iol_script.specs.Script.{calls_in, calls_of}
use Rattle.iol_stored_script.specs.PlainText.{plain_line, plain_lines, store_behind}
use Rattle.iol_stored_script.specs.StorageLines.{storage_form}
use Rattle.iol_stored_script.specs.declared.as_plain.StoreLine.{StoreLine}
use Rattle.iol_stored_script.specs.declared.as_plain.StoreLine.TheVariants.{Awaited, Present}
use Rattle.iol_stored_script.specs.declared.storage_line.StorageLine.{StorageLine}
use Rattle.iol_stored_script.specs.declared.storage_line.StorageLine.TheVariants.{Store, Call}
use Rattle.iol_stored_commands.specs.StoredPlayed.{Plain, line_stored_calls, stored_calls_in}

plain_few : (line : List ℕ) → length (map Plain (option_map_or calls_of (run_form line) []))
    ≤ length (option_map_or calls_of (run_form line) [])
plain_few line =
    let calls = option_map_or calls_of (run_form line) [] in omega (arith, length-map calls Plain)

few_in_line : (store : StoreLine) (form : Option StorageLine) (line : List ℕ)
    → length (line_stored_calls form (run_form line))
    ≤ length (option_map_or calls_of (run_form (plain_line store form line)) [])
few_in_line Awaited (Some (Call call)) line = lit≤ tt
few_in_line Present (Some (Call call)) line = lit≤ tt
few_in_line store (Some (Store mode)) line = omega arith
few_in_line Awaited None line = plain_few line
few_in_line Present None line = plain_few line

-- the calls of lines are no more than those of the lines as they are read
pub few_calls : (store : StoreLine) (lines : List (ℕ × List ℕ))
    → length (stored_calls_in lines) ≤ length (calls_in (plain_lines store lines))
few_calls store [] = omega arith
few_calls store (line ∷ lines) =
    let form = storage_form line.1 in
    let one = few_in_line store form line.1 in
    let more = few_calls (store_behind store form) lines in
    omega (
      arith,
      one,
      more,
      length-append (line_stored_calls form (run_form line.1)) (stored_calls_in lines),
      length-append (option_map_or calls_of (run_form (plain_line store form line.1)) [])
          (calls_in (plain_lines (store_behind store form) lines)),
    )
