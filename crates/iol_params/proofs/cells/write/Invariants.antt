-- What each round of a loop of `cells::write` keeps.
use Rattle.std.proofs.Common.{◌≡◌, ◌+◌, ◌++◌, length, take, drop}
use Rattle.iol_params.specs.Values.{overlay, room_for, values_in}
use Rattle.iol_params.proofs.cells.write.Given as goal

abbrev pub invariant-loop-member : goal.invariant-loop-member
invariant-loop-member l = record {
  room : l.at + room_for (drop l.member-index l.members) ≡ length l.cells;
  front : l.at ≡ room_for (take l.member-index l.members);
  so_far : values_in (take l.member-index l.members) l.cells
      ++ overlay (drop l.member-index l.members)
      (values_in (drop l.member-index l.members) (drop l.at l.cells)) l.place l.octets
      ≡ overlay l.members (values_in l.members l.initial.cells) l.place l.initial.octets;
}
