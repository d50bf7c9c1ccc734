-- The clauses of `laws::reading_gives_the_marked_places` that the search can't prove.
use Rattle.std.proofs.Common.{add-one, arith}
use Rattle.iol_event.specs.Reading.{places_size}
use Rattle.iol_event.proofs.Steps.{answers-so_far}
use Rattle.iol_event.proofs.laws.reading_gives_the_marked_places.Goals as goal

pub returns : goal.returns
returns c =
    λ device readable. rw add-one (answers-so_far device readable (places_size (device 0)) 0
    (omega arith))
