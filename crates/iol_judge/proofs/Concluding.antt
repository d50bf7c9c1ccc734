-- A state that doesn't explain a reply, and what the judge makes of one that is alone.
-- For the clauses of `Judge::hear_alone` and `next::reply_part`.
use Rattle.std.proofs.Common.{◌≡◌, ℕ, List, [], ◌∷◌, sym, ◌∙◌, ap}
use Rattle.std.specs.Prelude.{Option, Result, Ok, Err}
use Rattle.iol_page.specs.declared.page.Layouts.{Layouts}
use Rattle.iol_judge.specs.declared.open.Open.{Open}
use Rattle.iol_judge.specs.declared.reason.Reason.{Reason}
use Rattle.iol_judge.specs.declared.reason.Reason.TheVariants.{NotTaken}
use Rattle.iol_judge.specs.declared.taken.Heard.{Heard}
use Rattle.iol_judge.specs.declared.taken.Heard.TheVariants.{Refused}
use Rattle.iol_judge.specs.declared.taken.NextStates.{NextStates}
use Rattle.iol_judge.specs.declared.verdict.Odd.{Odd}
use Rattle.iol_judge.specs.declared.verdict.Verdict.TheVariants.{NotHonest}
use Rattle.iol_judge.specs.Numbers.{later}
use Rattle.iol_judge.specs.Observed.{layouts_observed}
use Rattle.iol_judge.specs.State.{KnownState, parts}
use Rattle.iol_judge.specs.Taking.{Taken, and_then, taken_by_state}
use Rattle.iol_judge.specs.Replies.{Explanation, Not, explained_as, explanation_of}
use Rattle.iol_judge.specs.Judged.{JudgeState, concluded_replied, each_in_turn, explained_into, judge_after_reply, no_next, replied_into, replied_part}

module _ (known : Result Layouts Open) (odd : Odd) (observed : List (Option ℕ))
    (sent reply : List ℕ)
  where
    -- whether a state explains the reply
    abbrev pub explained_here : KnownState → Result Explanation Open
    explained_here state = and_then (taken_by_state known state sent)
        (λ taken. Ok (explanation_of odd observed taken reply))

    refused : (next : NextStates) (reason : Reason) (found : Result (Option Taken) Open)
        → Ok (Not reason) ≡ and_then found (λ taken. Ok (explanation_of odd observed taken reply))
        → and_then found (λ taken. explained_into next (explanation_of odd observed taken reply))
        ≡ Ok (record next { reason = later next.reason reason })
    refused next reason (Err why) h = cc
    refused next reason (Ok taken) h =
        let e : explanation_of odd observed taken reply ≡ Not reason = cc in
        ap (explained_into next) e

    -- it doesn't, by the call that tried it
    module _ (state left : KnownState) (heard : Heard) (reason : Reason)
        (same : heard ≡ Refused reason)
        (explains : explained_as (Ok heard) left ≡ explained_here state)
      where
        not_by : Ok (Not reason) ≡ explained_here state
        not_by = ap (λ (h : Heard). explained_as (Ok h) left) (sym same) ∙ explains

        -- its reason is added
        pub refused_part : (next : NextStates) (part : KnownState) → state ≡ part
            → (added : Reason) → added ≡ later next.reason reason
            → Ok (record next { reason = added })
            ≡ replied_part known odd observed sent reply next part
        refused_part next part is added adds =
            ap (λ (r : Reason). Ok (record next { reason = r })) adds
            ∙ sym (refused next reason (taken_by_state known state sent) not_by)
            ∙ ap (replied_part known odd observed sent reply next) is

        refused_alone : parts state sent ≡ state ∷ []
            → each_in_turn (replied_into known odd observed sent reply) no_next (state ∷ [])
            ≡ Ok (record no_next { reason = later NotTaken reason })
        refused_alone whole =
            let one : replied_part known odd observed sent reply no_next state
            ≡ Ok (record no_next { reason = later NotTaken reason }) =
            refused no_next reason (taken_by_state known state sent) not_by in
            let each : each_in_turn (replied_part known odd observed sent reply) no_next
            (state ∷ [])
            ≡ Ok (record no_next { reason = later NotTaken reason }) =
            ap (λ (r : Result NextStates Open). and_then r (λ more. Ok more)) one in
            let all : replied_into known odd observed sent reply no_next state
            ≡ Ok (record no_next { reason = later NotTaken reason }) =
            ap (each_in_turn (replied_part known odd observed sent reply) no_next) whole ∙ each in
            ap (λ (r : Result NextStates Open). and_then r (λ more. Ok more)) all

-- the judge of whom the one state doesn't explain the reply
pub alone_refused : (inside judged : JudgeState) → inside ≡ judged → (sent reply : List ℕ)
    → (known : Result Layouts Open) → known ≡ layouts_observed inside.observed
    → (state left : KnownState) → inside.states ≡ state ∷ [] → parts state sent ≡ state ∷ []
    → (heard : Heard) (reason : Reason) → heard ≡ Refused reason
    → explained_as (Ok heard) left ≡ explained_here known inside.odd inside.observed sent reply
    state
    → (added : Reason) → added ≡ later NotTaken reason
    → record inside { states = []; verdict = NotHonest inside.exchanges added }
    ≡ judge_after_reply judged sent reply
alone_refused inside judged is sent reply known layouts state left alone whole heard reason same
    explains added adds =
    let all = refused_alone known inside.odd inside.observed sent reply state left heard reason same
    explains whole in
    let replied : each_in_turn (replied_into (layouts_observed inside.observed) inside.odd
    inside.observed sent
    reply) no_next inside.states ≡ Ok (record no_next { reason = later NotTaken reason }) =
    rw (← layouts) (rw alone all) in
    ap (λ (r : Reason). record inside {
      states = [];
      verdict = NotHonest inside.exchanges r;
    }) adds
    ∙ ap (concluded_replied inside sent reply) (sym replied)
    ∙ ap (λ (j : JudgeState). judge_after_reply j sent reply) is
