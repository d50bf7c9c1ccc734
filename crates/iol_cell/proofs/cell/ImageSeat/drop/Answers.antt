-- What the search can't prove of the body of `ImageSeat::drop`.
use Rattle.iol_cell.proofs.Room.{has_room}
use Rattle.iol_cell.proofs.cell.ImageSeat.drop.Goals as goal

pub drop-self-inside-requires-room-T-Destruct : goal.drop-self-inside-requires-room-T-Destruct
drop-self-inside-requires-room-T-Destruct g c κs within = has_room _ _ g.met.A.Handle.is_small
