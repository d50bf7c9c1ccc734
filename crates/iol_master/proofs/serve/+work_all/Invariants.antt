-- What makes the functions of `serve` that call one another (`work_all`) end.
use Rattle.std.proofs.Common.{length}
use Rattle.iol_master.proofs.serve.+work_all.Given as goal

abbrev pub decreases-work_all : goal.decreases-work_all
decreases-work_all g l = length l.ports.now
