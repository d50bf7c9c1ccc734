-- What the search can't prove of the body of `cell::seats_of`.
use Rattle.std.proofs.Common.{rules}
use Rattle.iol_cell.proofs.Room.{has_room}
use Rattle.iol_cell.proofs.Rule.{splits}
use Rattle.iol_cell.proofs.cell.seats_of.Goals as goal

pub split_pass-pass-requires : goal.split_pass-pass-requires
split_pass-pass-requires g c = (
  has_room _ _ g.met.A.Handle.is_small,
  (search rules, (search rules, splits _ _)),
)
