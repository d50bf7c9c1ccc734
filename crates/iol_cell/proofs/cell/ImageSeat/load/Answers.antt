-- What the search can't prove of the body of `ImageSeat::load`.
use Rattle.std.proofs.Common.{rules}
use Rattle.iol_cell.proofs.Room.{has_room}
use Rattle.iol_cell.proofs.Rule.{reads}
use Rattle.iol_cell.proofs.cell.ImageSeat.load.Goals as goal

pub load_as-requires : goal.load_as-requires
load_as-requires g c = (
  has_room _ _ g.met.A.Handle.is_small,
  (search rules, (search rules, reads _ _)),
)
