-- The clauses of `CaptureReader::judge_line` that the search can't prove.
use Rattle.std.proofs.Common.{refl}
use Rattle.iol_capture.specs.contracts.opened.CaptureReader.{the_view}
use Rattle.iol_capture.proofs.ReadLemmas.{ended_whole}
use Rattle.iol_capture.proofs.opened.CaptureReader.judge_line.Goals as goal

pub returns-then-lies_whole : goal.returns-then-lies_whole
returns-then-lies_whole c =
    ended_whole c.judge_line.result (the_view c.self.inside) c.args.self.now
    (the_view (record { ended = c.judge_line.new.self; line = c.self.inside.line }))
    c.is_empty-lies_whole.result c.args.end.now c.self.view_is c.is_empty-lies_whole.ensures
    c.if-lies_whole.true c.requires c.judge_line.ensures refl
