-- The clauses of `check_line::parse_layout` that the search can't prove.
use Rattle.std.proofs.Common.{rules, codes}
use Rattle.std.proofs.lemmas.Slice.Eq.{text_from_reads}
use Rattle.iol_script.proofs.check_line.parse_layout.Goals as goal

pub returns-in-preoperate : goal.returns-in-preoperate
returns-in-preoperate c = rw (
  c.in_ok-next.ensures.steps,
  text_from_reads c.in_ok-next.field-0.now (codes "preoperate") (search rules) (search rules),
) c.parse_preoperate.ensures
