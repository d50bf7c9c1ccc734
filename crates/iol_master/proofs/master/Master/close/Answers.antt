-- What the search can't prove of the body of `Master::close`.
use Rattle.std.proofs.Common.{◌≡◌, ℕ, ◌+◌, List, [], ◌∷◌, refl, sym, ◌∙◌, arith}
use Rattle.iol_master.specs.Ports.{PortFacts}
use Rattle.iol_master.specs.Entered.{HaveAccepted}
use Rattle.iol_master.proofs.master.Master.close.Goals as goal

plus_none : (accepted : ℕ) → accepted ≡ accepted + 0
plus_none accepted = omega arith

swapped : (one others : ℕ) → others + one ≡ one + others
swapped one others = omega arith

module _ {P : Type 0} (facts : PortFacts P) (p : P) (accepted : ℕ) (has : facts.holds p accepted)
  where
    first : HaveAccepted facts (p ∷ []) accepted
    first = (accepted, 0, has, refl, plus_none accepted)

    also : (ports : List P) (others : ℕ) → HaveAccepted facts ports others
        → HaveAccepted facts (p ∷ ports) (others + accepted)
    also ports others have = (accepted, others, has, have, swapped accepted others)

pub loop-held-init : goal.loop-held-init
loop-held-init g c =
    let share = c.close-whole.ensures in
    record {
      parts = omega (arith, share.parts);
      amount = share.amount;
      ports = c.into_inner.result ∷ [];
      all = sym share.parts;
      accepted = first g.P.MasterPort.facts c.into_inner.result _ share.accepted;
    }

pub loop-held-preserved : goal.loop-held-preserved
loop-held-preserved g c =
    let before = c.loop-held.invariant in
    let share = c.close-share.ensures in
    let gathered = c.gather.ensures in
    let steps = c.in-Some-held.ensures.steps in
    record {
      parts = omega (arith, before.parts, gathered.parts, share.parts, steps.1);
      amount = omega (arith, before.amount, gathered.amount, share.amount);
      ports = c.into_inner-in-loop-held.result ∷ before.ports;
      all = omega (arith, before.all, gathered.parts, share.parts);
      accepted = also g.P.MasterPort.facts c.into_inner-in-loop-held.result _ share.accepted _ _
          before.accepted;
    }

pub returns-clause-gathered : goal.returns-clause-gathered
returns-clause-gathered g c =
    let loop = c.loop-held.invariant in
    let closed = c.close.ensures in
    let steps = c.in-None.ensures.steps in
    let iter = c.into_iter-held-iterator.ensures.into_iter_gives in
    let pop = c.in-Some.ensures in
    record {
      ports = loop.ports;
      all = omega (arith, loop.all, loop.parts, steps.0, iter.1, pop.len, c.self.view_is);
      accepted = rw closed.tickets.0 loop.accepted;
      accounts = c.loop-held.accounts;
      desks = closed.desks;
      settled = closed.settled;
      total = closed.tickets.0 ∙ closed.tickets.1;
    }
