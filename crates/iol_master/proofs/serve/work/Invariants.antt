-- What each round of a loop of `serve::work` keeps.
use Rattle.std.proofs.Common.{◌≡◌, ◌+◌, ◌<◌, ℕ, true, List, length}
use Rattle.iol_master.specs.Served.{PortTurn}
use Rattle.iol_master.proofs.serve.work.Given as goal

-- as many turns as the gate let pass
abbrev pub invariant-loop-turn : goal.invariant-loop-turn
invariant-loop-turn g l = record {
  counted : l.worker ≡ l.turn;
  list : List (PortTurn g.P.MasterPort.facts);
  count : length list ≡ l.turn;
  yes : (turn : ℕ) → turn < l.turn → g.G.Gate.pass_gives l.gate l.number (turn + 1) true;
}
