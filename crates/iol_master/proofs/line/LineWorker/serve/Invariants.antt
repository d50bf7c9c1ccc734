-- What each round of a loop of `LineWorker::serve` keeps.
use Rattle.std.proofs.Common.{◌≡◌, ◌+◌, ◌<◌, ℕ, true, List, length}
use Rattle.iol_app.specs.declared.transmission.Transmission.{Transmission}
use Rattle.iol_port.specs.WireCalls.{AreCalls}
use Rattle.iol_master.specs.Line.{AreLineTurns}
use Rattle.iol_master.proofs.line.LineWorker.serve.Given as goal

-- calls that are still to come make one list with those that were made
abbrev pub invariant-loop-turn : goal.invariant-loop-turn
invariant-loop-turn g l = record {
  called : (more : List Transmission) (last : _) → AreCalls g.W.Wire.facts more l.self.wire last
      → (calls : List Transmission) × AreCalls g.W.Wire.facts calls l.fn.self.wire last
      × (length calls ≡ length more + l.turn);
  all : AreLineTurns g.W.Wire.facts g.P.LineCore.facts l.turn l.fn.self l.self;
  yes : (turn : ℕ) → turn < l.turn → g.G.Gate.pass_gives l.gate l.number (turn + 1) true;
}
