-- What each round of a loop of `cells::reset` keeps.
use Rattle.std.proofs.Common.{◌≡◌, ◌+◌, ◌++◌, true, length, take, drop}
use Rattle.iol_params.specs.Values.{all_fit, reset_values, room_for, values_in}
use Rattle.iol_params.specs.Values.{defaults}
use Rattle.iol_params.proofs.cells.reset.Given as goal

abbrev pub invariant-loop-member : goal.invariant-loop-member
invariant-loop-member l = record {
  room : l.at + room_for (drop l.member-index l.members) ≡ length l.cells;
  front : l.at ≡ room_for (take l.member-index l.members);
  fit : all_fit (drop l.member-index l.members) (defaults (drop l.member-index l.members)) ≡ true;
  so_far : values_in (take l.member-index l.members) l.cells
      ++ reset_values (drop l.member-index l.members)
      (values_in (drop l.member-index l.members) (drop l.at l.cells))
      ≡ reset_values l.members (values_in l.members l.initial.cells);
}
