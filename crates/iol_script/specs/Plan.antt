-- The lines of `many`, one after the other.
use Rattle.std.specs.Prelude.{ℕ, ◌+◌, ◌*◌, Option, Some, None, option_map, option_and_then, Result, Ok, Err, List, [], ◌∷◌, length, fold, nat_le, if◌then◌else◌, codes}
use Rattle.std.specs.Str.{bytes_eq}
use Rattle.iol_script.specs.Numerals.{number_in}
use Rattle.iol_script.specs.PlanRanges.{ArePlanned}
use Rattle.iol_script.specs.Text.{line_words, line_read}
use Rattle.iol_script.specs.declared.plan.Plan.{Plan}
use Rattle.iol_script.specs.declared.plan.ShownCounts.{ShownCounts}
use Rattle.iol_script.specs.declared.plan.ShownCounts.TheVariants.{Tickets, Counters}
use Rattle.iol_script.specs.declared.plan_draft.PlanDraft.{PlanDraft}
use Rattle.iol_script.specs.declared.plan_draft.PlanDraft.TheVariants.{Empty, Ports, Clients, Each, Turns}

-- the number of a line of this name, from 1 to `most`
abbrev pub field_of : List ℕ → List ℕ → ℕ → List (List ℕ) → Option ℕ
field_of name wanted most (word ∷ []) = if bytes_eq name wanted then number_in 1 most word else None
field_of name wanted most _ = None

-- what the line behind the four shows: `counters` alone
abbrev pub shown_by : List ℕ → List (List ℕ) → Option ShownCounts
shown_by name [] = if bytes_eq name (codes "counters") then Some Counters else None
shown_by name (word ∷ words) = None

-- the draft after the words of a line: a line without words says nothing, and each
-- other has its place; the clients of a port submit at most 64 requests
abbrev pub words_after : PlanDraft → List (List ℕ) → Option PlanDraft
words_after draft [] = Some draft
words_after Empty (name ∷ words) = option_map Ports (field_of name (codes "ports") 32 words)
words_after (Ports p) (name ∷ words) =
    option_map (Clients p) (field_of name (codes "clients") 16 words)
words_after (Clients p k) (name ∷ words) =
    option_and_then (λ m. if nat_le (k * m) 64 then Some (Each p k m) else None)
    (field_of name (codes "each") 64 words)
words_after (Each p k m) (name ∷ words) =
    option_map (λ t. Turns p k m t Tickets) (field_of name (codes "turns") 100000 words)
words_after (Turns p k m t Tickets) (name ∷ words) =
    option_map (Turns p k m t) (shown_by name words)
words_after (Turns p k m t Counters) (name ∷ words) = None

-- the draft after a line, where the line is good in its place
abbrev pub plan_draft_after : PlanDraft → List ℕ → Option PlanDraft
plan_draft_after draft line = option_and_then (words_after draft) (line_words line)

-- the numbers of a plan, and what it shows
pub record PlanNumbers : Type 0 where
  pub ports : ℕ
  pub clients : ℕ
  pub each : ℕ
  pub turns : ℕ
  pub shown : ShownCounts

abbrev pub numbers_of : Plan → PlanNumbers
numbers_of plan = record {
  ports = plan.ports;
  clients = plan.clients;
  each = plan.each;
  turns = plan.turns;
  shown = plan.shown;
}

-- the plan of a draft, or the number of the line behind the last, where a line is missing
abbrev pub whole_plan : ℕ → Result PlanDraft ℕ → Result PlanNumbers ℕ
whole_plan behind (Err bad) = Err bad
whole_plan behind (Ok (Turns p k m t s)) =
    Ok (record { ports = p; clients = k; each = m; turns = t; shown = s })
whole_plan behind (Ok draft) = Err behind

-- the plan of lines, or the number of the first bad one
abbrev pub plan_of : List (ℕ × List ℕ) → Result PlanNumbers ℕ
plan_of lines = whole_plan (length lines + 1) (fold (line_read plan_draft_after) (Ok Empty) lines)

-- The numbers of a draft are in their ranges, where 1 stands for each that no line gave yet.
abbrev pub IsPlanned : PlanDraft → Type 0
IsPlanned Empty = Unit {0}
IsPlanned (Ports p) = ArePlanned p 1 1 1
IsPlanned (Clients p k) = ArePlanned p k 1 1
IsPlanned (Each p k m) = ArePlanned p k m 1
IsPlanned (Turns p k m t s) = ArePlanned p k m t
