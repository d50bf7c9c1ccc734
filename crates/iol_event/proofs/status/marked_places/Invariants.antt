-- What each round of a loop of `status::marked_places` keeps.
use Rattle.std.proofs.Common.{◌≡◌, ◌≤◌, length, take}
use Rattle.std.specs.Prelude.{filter}
use Rattle.iol_event.specs.Reading.{marks}
use Rattle.iol_event.proofs.status.marked_places.Given as goal

abbrev pub invariant-loop-place : goal.invariant-loop-place
invariant-loop-place l = record {
  places : l.places.items ≡ filter (marks l.status) (take l.place-index l.place-items);
  room : length l.places.items ≤ l.place-index;
}
