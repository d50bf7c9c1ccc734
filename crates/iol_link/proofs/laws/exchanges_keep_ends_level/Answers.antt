-- The clauses of `laws::exchanges_keep_ends_level` that the search can't prove.
use Rattle.iol_link.proofs.Meetings.{device_stays}
use Rattle.iol_link.proofs.laws.exchanges_keep_ends_level.Goals as goal

pub returns-clause-device : goal.returns-clause-device
returns-clause-device c = device_stays c.page_and_room_stay.ensures.much
