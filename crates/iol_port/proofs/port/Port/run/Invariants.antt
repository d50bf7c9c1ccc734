-- What each round of a loop of `Port::run` keeps.
use Rattle.std.proofs.Common.{◌≡◌, length, take, vec_len, vec_capacity}
use Rattle.iol_port.specs.View.{Runs, over}
use Rattle.iol_port.specs.EveryWire.{RunGives}
use Rattle.iol_port.proofs.Served.{SoFar}
use Rattle.iol_port.proofs.port.Port.run.Given as goal

abbrev pub invariant-loop-call : goal.invariant-loop-call
invariant-loop-call g l = record {
  runs : Runs g.W.Wire.facts (over l.fn.self) (take l.call-index l.calls) l.replies.items
      (over l.self);
  gives : RunGives g.W.Wire.facts (over l.fn.self) (take l.call-index l.calls) l.replies.items
      (over l.self);
  clean : SoFar g.W.Wire.facts (over l.fn.self) (take l.call-index l.calls) (over l.self);
  rest : l.self ≡ record l.fn.self { parts = l.self.parts; wire = l.self.wire };
  one_each : vec_len l.replies ≡ l.call-index;
  room : vec_capacity l.replies ≡ length l.calls;
}
