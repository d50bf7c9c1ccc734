-- The clauses of `Mc::from_octet` that the search can't prove.
use Rattle.std.proofs.Common.{arith, sym, ◌∙◌}
use Rattle.std.proofs.lemmas.Grind.{common_steps}
use Rattle.iol_octets.proofs.ControlLemmas.{same_from_octet, control_octet-of}
use Rattle.iol_octets.proofs.control.Mc.from_octet.Goals as goal

pub returns-clause-only : goal.returns-clause-only
returns-clause-only c = λ mc e. same_from_octet _ mc (sym (e ∙ grind (arith, common_steps)))

pub returns-clause-read : goal.returns-clause-read
returns-clause-read c = same_from_octet _ _
    (sym (control_octet-of c.args.octet (omega arith) ∙ grind (arith, common_steps)))
