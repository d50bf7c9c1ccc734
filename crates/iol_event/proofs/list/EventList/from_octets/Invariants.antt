-- What each round of a loop of `EventList::from_octets` keeps.
use Rattle.std.proofs.Common.{◌≡◌, ◌+◌, ◌*◌, ◌++◌, length}
use Rattle.iol_event.specs.Reading.{events_of}
use Rattle.iol_event.proofs.list.EventList.from_octets.Given as goal

abbrev pub invariant-loop-rest : goal.invariant-loop-rest
invariant-loop-rest l = record {
  events : events_of l.octets ≡ l.events.items ++ events_of l.rest;
  size : 3 * length l.events.items + length l.rest ≡ length l.octets;
}

abbrev pub decreases-loop-rest : goal.decreases-loop-rest
decreases-loop-rest l = length l.rest
