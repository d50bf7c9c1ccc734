-- What each round of a loop of `cells::set_defaults` keeps.
use Rattle.std.proofs.Common.{◌≡◌, ◌+◌, ◌++◌, true, length, take, drop}
use Rattle.iol_params.specs.Values.{all_fit, room_for, values_in, defaults}
use Rattle.iol_params.proofs.cells.set_defaults.Given as goal

abbrev pub invariant-loop-member : goal.invariant-loop-member
invariant-loop-member l = record {
  room : l.at + room_for (drop l.member-index l.members) ≡ length l.cells;
  front : l.at ≡ room_for (take l.member-index l.members);
  fit : all_fit (drop l.member-index l.members) (defaults (drop l.member-index l.members)) ≡ true;
  so_far : values_in (take l.member-index l.members) l.cells
      ++ defaults (drop l.member-index l.members)
      ≡ defaults l.members;
}
