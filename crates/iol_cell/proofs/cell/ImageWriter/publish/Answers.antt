-- What the search can't prove of the body of `ImageWriter::publish`.
use Rattle.std.proofs.Common.{rules}
use Rattle.iol_cell.proofs.Room.{has_room}
use Rattle.iol_cell.proofs.Rule.{publishes}
use Rattle.iol_cell.proofs.cell.ImageWriter.publish.Goals as goal

pub swap_as-requires : goal.swap_as-requires
swap_as-requires g c = (
  has_room _ _ g.met.A.Handle.is_small,
  (search rules, (search rules, publishes _ _ _ c.self.invariant.1)),
)
