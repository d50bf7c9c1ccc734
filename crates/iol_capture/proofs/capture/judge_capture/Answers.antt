-- What the search can't prove of the body of `capture::judge_capture`.
use Rattle.std.proofs.Common.{take}
use Rattle.iol_capture.proofs.ReadLemmas.{read_more}
use Rattle.iol_capture.proofs.capture.judge_capture.Goals as goal

pub loop-preserved : goal.loop-preserved
loop-preserved g c =
    read_more _ _ _ _ _ c.loop.opened c.take.new.self (take c.in-Ok.count c.read.new.buf)
    c.loop.invariant c.in-Ok.ensures.bytes.0 c.in_ok-take.ensures
