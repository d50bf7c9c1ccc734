-- The clauses of `isdu::take` that the search can't prove.
use Rattle.std.proofs.Common.{◌≡◌, ◌∙◌, ℕ, List, sym, ap, arith}
use Rattle.std.specs.Prelude.{Ok}
use Rattle.std.proofs.lemmas.Grind.{common_steps}
use Rattle.iol_octets.specs.declared.flow_control.Flow.{Flow}
use Rattle.iol_segment.specs.Join.{Joining, join_step}
use Rattle.iol_segment.specs.declared.took.Took.TheVariants.{More}
use Rattle.iol_far.specs.Isdu.{Receiving, isdu_written}
use Rattle.iol_device.specs.Inside.{GoesOn}
use Rattle.iol_device.proofs.isdu.take.Goals as goal

-- a segment that goes on with a text leaves it being received
went_on : (j : Joining) (flow : Flow) (octets : List ℕ) → GoesOn flow j
    → (join_step j flow octets).took ≡ Ok More
    → Receiving (join_step j flow octets).joining.text (join_step j flow octets).joining.count
    ≡ isdu_written (Receiving j.text j.count) flow octets
went_on j flow octets goes more = grind (arith, common_steps)

pub returns-in-Ok-More-clause-state : goal.returns-in-Ok-More-clause-state
returns-in-Ok-More-clause-state c =
    let up = c.take.ensures in
    rw up.joining (went_on c.args.joiner.now c.args.flow c.args.octets.now c.requires.goes_on
    (sym up.took ∙ c.in-Ok-More.is ∙ ap Ok c.in-Ok-More.field-0-is))
