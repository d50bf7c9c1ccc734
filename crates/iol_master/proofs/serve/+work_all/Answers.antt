-- What the search can't prove of `work_all` and what it calls, which call it.
use Rattle.std.proofs.Common.{◌≡◌, ◌+◌, ◌<◌, ◌≤◌, inl, inr, ℕ, arith, length-take, length-drop}
use Rattle.std.proofs.lemmas.Bool.{cases_lt}
use Rattle.std.specs.Prelude.{Result, Ok, Err}
use Rattle.std.specs.Result.{IsErr}
use Rattle.iol_master.specs.declared.fault.MasterFault.{MasterFault}
use Rattle.iol_master.specs.Ports.{PortFacts}
use Rattle.iol_master.specs.Served.{GateFacts, IsWorked, AreWorked, Works}
use Rattle.iol_master.proofs.serve.+work_all.Goals as goal

same : (number first : ℕ) → first ≤ number → number < first + 1 → number ≡ first
same number first a b = omega arith

nowhere : (first number : ℕ) → first ≤ number → number < first → ⊥
nowhere first number low high = omega arith

module _ {P G : Type 0} (facts : PortFacts P) (pass_gives : GateFacts G) (gate : G)
    (first turns made : ℕ)
    (worked : IsWorked facts pass_gives gate first turns made) where
  both : (end : ℕ) → AreWorked facts pass_gives gate (first + 1) end turns
      → AreWorked facts pass_gives gate first end turns
  both end others number low high = elim (cases_lt number (first + 1)) [
    | inl less ↦ rw (same number first low less) (made, worked)
    | inr more ↦ others number more high
  ]

  with_others : (end rest : ℕ) (all : Result (Unit {0}) MasterFault) → rest ≡ end
      → Works facts pass_gives gate (first + 1) rest turns all
      → Works facts pass_gives gate first end turns all
  with_others end rest (Ok _) e others = both end (rw (← e) others)
  with_others end rest (Err _) e others =
      (others.0, omega (arith, others.1), rw (← e) others.2, both others.0 others.3)

module _ {P G : Type 0} (facts : PortFacts P) (pass_gives : GateFacts G) (gate : G) (turns : ℕ)
  where
    none_started : (first end : ℕ) (all : Result (Unit {0}) MasterFault) → IsErr all → first < end
        → Works facts pass_gives gate first end turns all
    none_started first end (Ok _) is_err some = grind (arith, is_err)
    none_started first end (Err _) is_err some =
        (first, omega arith, some, λ number low high. elim (nowhere first number low high) [ ])

pub returns-in_err-worker-clause-works : goal.returns-in_err-worker-clause-works
returns-in_err-worker-clause-works g t c =
    none_started g.P.MasterPort.facts g.G.Gate.pass_gives _ _ _ _ _ c.from_residual.ensures.0
    (omega (arith, c.in-len1-up.len_at_least))

pub returns-clause-works : goal.returns-clause-works
returns-clause-works g t c =
    let shift = c.in_ok-worker.ensures.shift in
    with_others g.P.MasterPort.facts g.G.Gate.pass_gives c.args.gate.now c.args.first c.args.turns
    c.join.result
    (rw (← shift.0, ← shift.1, ← shift.2) c.join.ensures) _ _ _
    (simp (length-take, length-drop) (omega (arith, c.in-len1-up.len_at_least)))
    c.work_all-all.ensures.works
