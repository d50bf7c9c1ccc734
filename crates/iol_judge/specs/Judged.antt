-- The judge: the states of a device that a capture so far admits, and the verdict.
use Rattle.std.specs.Prelude.{ℕ, ◌+◌, ◌-◌, ◌^◌, min, Bool, true, not, ◌==◌, if◌then◌else◌, List, [], ◌∷◌, ◌++◌, length, filter, slice_index, Option, Some, None, Result, Ok, Err}
use Rattle.std.specs.List.{list_any}
use Rattle.std.specs.Result.{result_and}
use Rattle.iol_octets.specs.Control.{control_of}
use Rattle.iol_octets.specs.declared.control.Mc.{Mc}
use Rattle.iol_octets.specs.declared.control.Channel.{Channel}
use Rattle.iol_octets.specs.declared.control.Channel.TheVariants.{Page}
use Rattle.iol_page.specs.declared.page.Layouts.{Layouts}
use Rattle.iol_judge.specs.declared.taken.TheConstants.{MAX_STATES}
use Rattle.iol_judge.specs.declared.taken.NextStates.{NextStates}
use Rattle.iol_judge.specs.declared.open.Open.{Open}
use Rattle.iol_judge.specs.declared.open.Open.TheVariants.{TooManyStates}
use Rattle.iol_judge.specs.declared.reason.Reason.{Reason}
use Rattle.iol_judge.specs.declared.reason.Reason.TheVariants.{NotTaken}
use Rattle.iol_judge.specs.declared.verdict.Verdict.{Verdict}
use Rattle.iol_judge.specs.declared.verdict.Verdict.TheVariants.{Unjudged, Honest, NotHonest, CantSay}
use Rattle.iol_judge.specs.declared.verdict.Odd.{Odd}
use Rattle.iol_judge.specs.declared.verdict.Wake.{Wake}
use Rattle.iol_judge.specs.declared.verdict.Wake.TheVariants.{Answered, Unanswered}
use Rattle.iol_far.specs.declared.mode.DeviceMode.{DeviceMode}
use Rattle.iol_judge.specs.declared.events.ShownEvents.TheVariants.{Any, Held}
use Rattle.iol_judge.specs.declared.kinds.Kinds.{Kinds}
use Rattle.iol_judge.specs.Family.{all_kinds, both_kinds, no_kinds}
use Rattle.iol_judge.specs.Numbers.{later}
use Rattle.iol_judge.specs.Observed.{nothing_observed, layouts_observed, page_noted}
use Rattle.iol_judge.specs.State.{KnownState, are_alike, first_state, parts, resumed_state, woken_state, powered_state, covers}
use Rattle.iol_judge.specs.Taking.{Taken, and_then, taken_by_state}
use Rattle.iol_judge.specs.Replies.{Explanation, By, Not, can_be_read, explanation_of}

pub record JudgeState : Type 0 where
  -- what is known of the page, of whichever state
  pub observed : List (Option ℕ)
  -- one of these is the device's, while the verdict is `Honest`
  pub states : List KnownState
  pub verdict : Verdict
  -- how many exchanges there were
  pub exchanges : ℕ
  -- what is done with an odd reply
  pub odd : Odd
  -- what was odd in the last exchange, and passed over
  pub oddity : Option Reason
  -- in how many exchanges something was
  pub oddities : ℕ

abbrev pub new_judge : Odd → JudgeState
new_judge odd = record {
  observed = nothing_observed;
  states = [];
  verdict = Unjudged;
  exchanges = 0;
  odd = odd;
  oddity = None;
  oddities = 0;
}

-- one more, up to the largest number
abbrev pub one_more : ℕ → ℕ
one_more count = min (count + 1) (2 ^ 64 - 1)

-- Sets of states, none of which another one covers

abbrev pub has_state : List KnownState → KnownState → Bool
has_state states state = list_any (λ other. covers other state) states

-- those that a state doesn't cover
abbrev pub uncovered_states : List KnownState → KnownState → List KnownState
uncovered_states states state = filter (λ other. not (covers state other)) states

-- with the kinds of those that are alike
abbrev pub united_state : List KnownState → KnownState → KnownState
united_state [] state = state
united_state (other ∷ states) state = united_state states
    (if are_alike other state
    then record state { kinds = both_kinds state.kinds other.kinds } else state)

abbrev pub added_whole : List KnownState → KnownState → Result (List KnownState) Open
added_whole states state =
    if length (uncovered_states states state) == MAX_STATES then Err TooManyStates else
    Ok (uncovered_states states state ++ state ∷ [])

-- a new state takes the place of those that it covers, and of those that are alike
abbrev pub states_with : List KnownState → KnownState → Result (List KnownState) Open
states_with states state =
    if has_state states state then Ok states else added_whole states (united_state states state)

-- a step for each item in turn, until one fails
abbrev pub each_in_turn : {S A : Type 0} → (A → S → Result A Open) → A → List S → Result A Open
each_in_turn step next [] = Ok next
each_in_turn step next (item ∷ items) =
    and_then (step next item) (λ more. each_in_turn step more items)

-- a call that gives nothing but its error, with what it wrote
abbrev pub result_with : {U A : Type 0} → Result U Open → A → Result A Open
result_with result written = result_and result (Ok written)

-- Without a reply that can be read

abbrev pub added_taken : List KnownState → Option Taken → Result (List KnownState) Open
added_taken next None = Ok next
added_taken next (Some taken) = states_with next taken.state

-- with the message worked, for the reply may be lost
abbrev pub lost_part : Result Layouts Open → List ℕ → List KnownState → KnownState
    → Result (List KnownState) Open
lost_part known sent next part = and_then (taken_by_state known part sent) (added_taken next)

-- a state as it was, for the message may be lost, and with the message worked
abbrev pub lost_into : Result Layouts Open → List ℕ → List KnownState → KnownState
    → Result (List KnownState) Open
lost_into known sent next state = and_then (states_with next state)
    (λ more. each_in_turn (lost_part known sent) more (parts state sent))

-- With one

-- what is odd for each of the states that explain the reply: these did, and one more does
abbrev pub odd_for_all : List KnownState → Option Reason → Option Reason → Option Reason
odd_for_all [] old oddity = oddity
odd_for_all states old None = None
odd_for_all states old oddity = old

abbrev pub explained_into : NextStates → Explanation → Result NextStates Open
explained_into next (By state oddity) = and_then (states_with next.states.items state) (λ states. Ok
    (record next {
      states = record { items = states };
      oddity = odd_for_all next.states.items next.oddity oddity;
    }))
explained_into next (Not reason) = Ok (record next { reason = later next.reason reason })

abbrev pub replied_part : Result Layouts Open → Odd → List (Option ℕ) → List ℕ → List ℕ → NextStates
    → KnownState → Result NextStates Open
replied_part known odd observed sent reply next part = and_then (taken_by_state known part sent)
    (λ taken. explained_into next (explanation_of odd observed taken reply))

-- each state that explains the reply
abbrev pub replied_into : Result Layouts Open → Odd → List (Option ℕ) → List ℕ → List ℕ → NextStates
    → KnownState → Result NextStates Open
replied_into known odd observed sent reply next state =
    each_in_turn (replied_part known odd observed sent reply) next (parts state sent)

-- An exchange

abbrev pub concluded_lost : JudgeState → Result (List KnownState) Open → JudgeState
concluded_lost judged (Ok states) = record judged { states = states }
concluded_lost judged (Err why) = record judged { verdict = CantSay judged.exchanges why }

-- the octet of a page that a reply brings
abbrev pub noted_at : List (Option ℕ) → Bool → Channel → ℕ → ℕ → List (Option ℕ)
noted_at observed true Page address octet = page_noted observed address octet
noted_at observed read channel address octet = observed

abbrev pub noted_by : List (Option ℕ) → Mc → List ℕ → List (Option ℕ)
noted_by observed mc reply = noted_at observed mc.read mc.channel mc.address (slice_index reply 0)

abbrev pub page_after_reply : List (Option ℕ) → List ℕ → List ℕ → List (Option ℕ)
page_after_reply observed sent reply = noted_by observed (control_of (slice_index sent 0)) reply

-- an odd exchange is counted
abbrev pub with_oddity : JudgeState → Option Reason → JudgeState
with_oddity judged None = judged
with_oddity judged (Some reason) =
    record judged { oddity = Some reason; oddities = one_more judged.oddities }

-- where no state is left, none explains the reply
abbrev pub concluded_replied : JudgeState → List ℕ → List ℕ → Result NextStates Open → JudgeState
concluded_replied judged sent reply (Ok next) = elim next.states.items [
  | [] ↦ record judged { states = []; verdict = NotHonest judged.exchanges next.reason }
  | states ↦
      with_oddity (record judged {
        observed = page_after_reply judged.observed sent reply;
        states = states;
      })
      next.oddity
]
concluded_replied judged sent reply (Err why) =
    record judged { verdict = CantSay judged.exchanges why }

abbrev pub no_next : NextStates
no_next = record { states = record { items = [] }; reason = NotTaken; oddity = None }

abbrev pub judge_without_reply : JudgeState → List ℕ → JudgeState
judge_without_reply judged sent = concluded_lost judged
    (each_in_turn (lost_into (layouts_observed judged.observed) sent) [] judged.states)

abbrev pub judge_after_reply : JudgeState → List ℕ → List ℕ → JudgeState
judge_after_reply judged sent reply = concluded_replied judged sent reply (each_in_turn
    (replied_into (layouts_observed judged.observed) judged.odd judged.observed sent reply)
    no_next judged.states)

abbrev pub judge_after_answer : JudgeState → List ℕ → Option (List ℕ) → JudgeState
judge_after_answer judged sent None = judge_without_reply judged sent
judge_after_answer judged sent (Some reply) =
    if can_be_read (layouts_observed judged.observed) sent reply
    then judge_after_reply judged sent reply else judge_without_reply judged sent

-- the judge, told an exchange
abbrev pub judge_after_exchange : JudgeState → List ℕ → Option (List ℕ) → JudgeState
judge_after_exchange judged sent answer =
    let counted = record judged { exchanges = one_more judged.exchanges; oddity = None } in
    elim judged.verdict [
      | Honest ↦ judge_after_answer counted sent answer
      | _ ↦ counted
    ]

-- A wake-up request

-- a state as woken, as it is or after a power cycle, and where the request wasn't answered as it
-- was too
abbrev pub woken_states : Wake → KnownState → List KnownState
woken_states Answered state = woken_state state ∷ powered_state state ∷ []
woken_states Unanswered state = state ∷ woken_state state ∷ powered_state state ∷ []

abbrev pub woken_into : Wake → List KnownState → KnownState → Result (List KnownState) Open
woken_into wake next state = each_in_turn states_with next (woken_states wake state)

-- the judge, told a wake-up request
abbrev pub judge_after_wake : JudgeState → Wake → JudgeState
judge_after_wake judged wake = elim judged.verdict [
  | Unjudged ↦ elim wake [
    | Answered ↦ record judged { states = first_state ∷ []; verdict = Honest }
    | Unanswered ↦ judged
  ]
  | Honest ↦ concluded_lost judged (each_in_turn (woken_into wake) [] judged.states)
  | _ ↦ judged
]

-- Kinds

-- these, and those of states
abbrev pub kinds_with : Kinds → List KnownState → Kinds
kinds_with kinds [] = kinds
kinds_with kinds (state ∷ states) = kinds_with (both_kinds kinds state.kinds) states

-- those that the exchanges so far admit
abbrev pub kinds_left : JudgeState → Kinds
kinds_left judged = elim judged.verdict [
  | Honest ↦ kinds_with no_kinds judged.states
  | NotHonest exchange reason ↦ no_kinds
  | _ ↦ all_kinds
]

-- What isn't heard

-- the device is in this mode, and its event hold may be on or over
abbrev pub resumed_states : DeviceMode → List KnownState
resumed_states mode = resumed_state mode Any ∷ resumed_state mode Held ∷ []

-- a verdict that is final stays
abbrev pub resumed_from : Verdict → JudgeState → DeviceMode → JudgeState
resumed_from Unjudged judged mode =
    record judged { states = resumed_states mode; verdict = Honest }
resumed_from Honest judged mode =
    record judged { states = resumed_states mode; verdict = Honest }
resumed_from verdict judged mode = judged

-- the judge, told that some of what went over the line isn't known
abbrev pub judge_resumed : JudgeState → DeviceMode → JudgeState
judge_resumed judged mode = resumed_from judged.verdict judged mode
