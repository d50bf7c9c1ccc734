-- The clauses of `laws::reading_gives_the_frozen_list` that the search can't prove.
use Rattle.iol_event.proofs.Frozen.{next_address-reading, taken-more, taken-last, answers-frozen}
use Rattle.iol_event.proofs.laws.reading_gives_the_frozen_list.Goals as goal

pub returns : goal.returns
returns c = record {
  addresses = next_address-reading;
  waits = taken-more;
  gives = taken-last;
  whole = answers-frozen;
}
