-- The clauses of `Sim::make_wake` that the search can't prove.
use Rattle.std.proofs.Common.{true, false}
use Rattle.iol_sim.specs.Beside.{Stand}
use Rattle.iol_sim.specs.Sim.{with_here}
use Rattle.iol_sim.proofs.Calls.{by_branch}
use Rattle.iol_sim.proofs.sim.Sim.make_wake.Goals as goal

pub returns-then-misses_pulse-clause-rate : goal.returns-then-misses_pulse-clause-rate
returns-then-misses_pulse-clause-rate g c before orderly =
    by_branch (λ rate. rate) true _ _ _ _ _ (c.misses_pulse.ensures before orderly)
    c.if-misses_pulse.true c.miss_pulse.ensures.rate

pub returns-then-misses_pulse-clause-device : goal.returns-then-misses_pulse-clause-device
returns-then-misses_pulse-clause-device g c before orderly =
    by_branch (λ (h : Stand _ _). with_here c.args.self.now h) true _ _ _ _ _
    (c.misses_pulse.ensures before orderly) c.if-misses_pulse.true c.miss_pulse.ensures.device

pub returns-else-misses_pulse-clause-rate : goal.returns-else-misses_pulse-clause-rate
returns-else-misses_pulse-clause-rate g c before orderly =
    by_branch (λ rate. rate) false _ _ _ _ _ (c.misses_pulse.ensures before orderly)
    c.if-misses_pulse.false c.reach.ensures.rate

pub returns-else-misses_pulse-clause-device : goal.returns-else-misses_pulse-clause-device
returns-else-misses_pulse-clause-device g c before orderly =
    by_branch (λ (h : Stand _ _). with_here c.args.self.now h) false _ _ _ _ _
    (c.misses_pulse.ensures before orderly) c.if-misses_pulse.false c.reach.ensures.device
