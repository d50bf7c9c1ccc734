-- What the search can't prove of the body of `cell::new_writer`.
use Rattle.iol_cell.proofs.Room.{has_room}
use Rattle.iol_cell.proofs.cell.new_writer.Goals as goal

pub from_residual-requires-in_err-cell-2-room-F-From :
    goal.from_residual-requires-in_err-cell-2-room-F-From
from_residual-requires-in_err-cell-2-room-F-From g c κs within =
    has_room _ _ g.met.A.Handle.is_small
