-- A judge that is told the mode of a device behind what it didn't hear, for
-- `resumed_judges_are_fair`.
-- For the clauses of `laws::resumed_judges_are_fair`.
use Rattle.std.proofs.Common.{◌≡◌, inl, inr, ℕ, Bool, List, true, refl, arith, sym, subst}
use Rattle.std.specs.Prelude.{if◌then◌else◌, None}
use Rattle.iol_far.specs.Far.{Far}
use Rattle.iol_far.specs.Level.{link_of}
use Rattle.iol_far.specs.declared.mode.DeviceMode.{DeviceMode}
use Rattle.iol_judge.specs.declared.events.ShownEvents.{ShownEvents}
use Rattle.iol_judge.specs.declared.events.ShownEvents.TheVariants.{Any, Held, Fresh}
use Rattle.iol_judge.specs.declared.transfer.Transfer.TheVariants.{Free, Quiet}
use Rattle.iol_judge.specs.declared.verdict.Verdict.{Verdict}
use Rattle.iol_judge.specs.declared.verdict.Verdict.TheVariants.{Unjudged, Honest, NotHonest, CantSay}
use Rattle.iol_judge.specs.Octets.{Agrees}
use Rattle.iol_judge.specs.Admitted.{Admits, AreAsKnown, IsFair, IsHoldKnown, IsPossible, One, ResumedIsFair}
use Rattle.iol_judge.specs.Judged.{JudgeState, resumed_from, resumed_states}
use Rattle.iol_judge.specs.State.{resumed_state}
use Rattle.iol_judge.specs.UnderWay.{HasUnderWay}

module _ (judged : JudgeState) (before far : Far) (fair : IsFair judged before)
    (page : far.page ≡ before.page) (awake : far.awake ≡ true) (mode : DeviceMode)
    (link : link_of far ≡ record { mode = mode; waits = None }) where
  admits : (events : ShownEvents) → AreAsKnown events far.events
      → Admits (resumed_state mode events) far
  admits events known = record {
    kind = grind arith;
    link = link;
    cycle = tt;
    events = subst (λ (b : Bool). AreAsKnown (if b then events else Fresh) far.events) (sym awake)
        known;
    isdu = subst (λ (b : Bool). HasUnderWay far (if b then Free else Quiet)) (sym awake) tt;
  }

  possible : IsHoldKnown far.events → One (λ state. Admits state far) (resumed_states mode)
  possible (inl held) = inr (inl (admits Held held))
  possible (inr any) = inl (admits Any any)

  agrees : Agrees judged.observed far.page
  agrees = subst (λ (page : List ℕ). Agrees judged.observed page) (sym page) fair.page

  from : IsHoldKnown far.events → (verdict : Verdict) → judged.verdict ≡ verdict
      → IsFair (resumed_from verdict judged mode) far
  from hold Unjudged is = record { page = agrees; state = possible hold; odd = fair.odd }
  from hold Honest is = record { page = agrees; state = possible hold; odd = fair.odd }
  from hold (NotHonest exchange reason) is =
      absurd (subst (λ (v : Verdict). IsPossible v judged.states before) is fair.state)
  from hold (CantSay exchange why) is = record {
    page = agrees;
    state = subst (λ (v : Verdict). IsPossible v judged.states far) (sym is) tt;
    odd = fair.odd;
  }

pub resumed_is_fair : ResumedIsFair
resumed_is_fair judged before far fair page awake hold mode link =
    from judged before far fair page awake mode link hold judged.verdict refl
