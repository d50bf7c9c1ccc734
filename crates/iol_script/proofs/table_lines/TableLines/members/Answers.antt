-- What the search can't prove of the body of `TableLines::members`.
use Rattle.iol_script.specs.Tables.{IsMember}
use Rattle.iol_script.proofs.TableLemmas.{zip_more}
use Rattle.iol_script.proofs.table_lines.TableLines.members.Goals as goal

pub loop-param-preserved : goal.loop-param-preserved
loop-param-preserved g c = rw c.in_ok-push.ensures.items
    (zip_more (IsMember c.args.self.now) c.args.params.now c.loop-param.members.items
    c.loop-param.param-index c.param-item.result c.member.result c.loop-param-test.true
    c.loop-param.invariant (rw (← c.param-item.is) c.member.ensures))
