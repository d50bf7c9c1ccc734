-- The clauses of `joiner::grow` that the search can't prove.
use Rattle.std.proofs.Common.{◌++◌, ap, sym, ◌∙◌, arith}
use Rattle.iol_isdu.specs.Frame.{total_at}
use Rattle.iol_segment.proofs.Growing.{grown-whole, grown-more}
use Rattle.iol_segment.proofs.joiner.grow.Goals as goal

pub returns-in-Ok-clause-grown : goal.returns-in-Ok-clause-grown
returns-in-Ok-clause-grown c = rw c.truncate.ensures.items
    (grown-whole 238 c.in-Ok.total (c.args.text.now.items ++ c.args.octets.now)
    c.append.new.into.items (omega arith)
    (ap total_at (sym c.deref.ensures.0) ∙ sym c.total_of.ensures ∙ c.in-Ok.is) c.append.ensures
    (omega (arith, c.if-total-len.true, c.len.ensures.value)))

pub returns-in-Ok-2-clause-grown : goal.returns-in-Ok-2-clause-grown
returns-in-Ok-2-clause-grown c =
    grown-more 238 c.in-Ok.total (c.args.text.now.items ++ c.args.octets.now)
    c.append.new.into.items (omega arith)
    (ap total_at (sym c.deref.ensures.0) ∙ sym c.total_of.ensures ∙ c.in-Ok.is) c.append.ensures
    (omega (arith, c.if-total-len.false, c.len.ensures.value))
