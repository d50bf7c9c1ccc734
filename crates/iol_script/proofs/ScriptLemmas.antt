-- Good lines of `run`, and the calls that they make: the clauses `calls` and `forms` of
-- `Script.read` need these. Begin at `Goods`.
-- For the clauses of `Script::read`.
use Rattle.std.proofs.Common.{◌≡◌, ℕ, ◌+◌, Option, Some, None, IfSome, IsSome, option_and_then, Ok, Err, List, [], ◌∷◌, length, fold, All, refl, sym, ◌∙◌, subst, arith, length-append}
use Rattle.std.specs.Option.{ok_or, option_map_or}
use Rattle.std.proofs.lemmas.List.Elements.{All-nil, All-cons}
use Rattle.iol_script.specs.RunLines.{run_form}
use Rattle.iol_script.specs.Script.{DraftValue, calls_of, calls_in, script_after, draft_after}
use Rattle.iol_script.specs.declared.run_line.RunLine.{RunLine}
use Rattle.iol_script.proofs.LinesRead.{stays_bad}

-- A good line

-- the next draft has so many more calls
abbrev HasMore : DraftValue → ℕ → DraftValue → Type 0
HasMore draft count next = next.calls ≡ draft.calls + count

-- a good line adds its calls
after-calls : (draft : DraftValue) (form : RunLine)
    → IfSome (script_after draft form) (HasMore draft (length (calls_of form)))
after-calls draft form = grind arith

good : (draft next : DraftValue) (number : ℕ) (o : Option RunLine)
    → ok_or (option_and_then (script_after draft) o) number ≡ Ok next
    → IsSome o × HasMore draft (length (option_map_or calls_of o [])) next
good draft next number None e = cc
good draft next number (Some form) e =
    (refl, let more = after-calls draft form in grind arith)

-- Good lines

abbrev pub HasForm : ℕ × List ℕ → Type 0
HasForm line = IsSome (run_form line.1)

-- where the lines are good, each has a form, and their calls are counted
pub record Goods (draft final : DraftValue) (lines : List (ℕ × List ℕ)) : Type 0 where
  pub forms : All HasForm lines
  pub calls : HasMore draft (length (calls_in lines)) final

pub goods : (draft final : DraftValue) (lines : List (ℕ × List ℕ))
    → fold draft_after (Ok draft) lines ≡ Ok final → Goods draft final lines
goods draft final [] e =
    let same : draft ≡ final = cc in
    record { forms = All-nil HasForm; calls = subst (HasMore draft 0) same (omega arith) }
goods draft final (line ∷ lines) e =
    elim (draft_after (Ok draft) line) as (λ r. draft_after (Ok draft) line ≡ r
    → fold draft_after r lines ≡ Ok final → Goods draft final (line ∷ lines)) [
      | Ok next ↦ λ is rest.
          let first = good draft next line.0 (run_form line.1) is in
          let later = goods next final lines rest in
          record {
            forms = All-cons HasForm line lines first.0 later.forms;
            calls = omega (
              arith,
              first.1,
              later.calls,
              length-append
                  (option_map_or calls_of (run_form line.1) []) (calls_in lines),
            );
          }
      | Err bad ↦ λ is rest.
          let never : Err bad ≡ Ok final = sym (stays_bad _ bad lines) ∙ rest in cc
    ] refl e
