-- The clauses of `CaptureReader::end_line` that the search can't prove.
use Rattle.iol_capture.proofs.ReadLemmas.{ended}
use Rattle.iol_capture.proofs.CallLemmas.{ended_calls}
use Rattle.iol_capture.proofs.opened.CaptureReader.end_line.Goals as goal

pub returns-clause-judged : goal.returns-clause-judged
returns-clause-judged c =
    ended c.end_stored.result c.args.self.now c.store.new.self c.end_stored.new.self c.args.end.now
    c.in_ok-store.ensures.ended c.in_ok-store.ensures.line c.end_stored.ensures.no_feed
    c.end_stored.ensures.line c.end_stored.ensures.empty

pub returns-clause-emitted : goal.returns-clause-emitted
returns-clause-emitted c =
    ended_calls c.end_stored.result c.args.self.now c.store.new.self c.end_stored.new.self
    c.args.end.now c.in_ok-store.ensures.ended c.in_ok-store.ensures.line
    c.end_stored.ensures.no_feed c.end_stored.ensures.line c.end_stored.ensures.emitted
    c.end_stored.ensures.empty
