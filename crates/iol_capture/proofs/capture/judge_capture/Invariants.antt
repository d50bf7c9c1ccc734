-- What each round of a loop of `capture::judge_capture` keeps.
use Rattle.iol_capture.proofs.ReadLemmas.{IsReadOf}
use Rattle.iol_capture.proofs.capture.judge_capture.Given as goal

abbrev pub invariant-loop : goal.invariant-loop
invariant-loop g l =
    IsReadOf l.fn.form l.fn.odd (g.R.Read.remaining l.initial.reader)
    (g.R.Read.remaining l.reader) l.opened
