-- What the search can't prove of the body of `status::marked_places`.
use Rattle.std.proofs.Common.{arith}
use Rattle.std.proofs.lemmas.Grind.{common_steps}
use Rattle.std.proofs.lemmas.List.Elements.{filter_more}
use Rattle.std.proofs.lemmas.List.{take_all}
use Rattle.iol_event.specs.Reading.{marks}
use Rattle.iol_event.proofs.Places.{six, marked_places-range}
use Rattle.iol_event.proofs.status.marked_places.Goals as goal
use Rattle.iol_event.proofs.status.marked_places.Goals.{then-has_bit, else-has_bit}

pub loop-place-preserved : goal.loop-place-preserved
loop-place-preserved c =
    let i = c.loop-place.place-index in
    let more = filter_more (marks c.args.status) six i 0 c.loop-place-test.true in
    elim c.if-has_bit.branch [
      | then-has_bit w ↦ grind (arith, common_steps, more)
      | else-has_bit w ↦ grind (arith, common_steps, more)
    ]

pub returns-clause-range : goal.returns-clause-range
returns-clause-range c = λ k. grind (
  arith,
  common_steps,
  marked_places-range c.args.status k,
  take_all c.loop-place.place-index six c.loop-place-test.false,
)
