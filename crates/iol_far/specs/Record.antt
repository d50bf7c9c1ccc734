-- Whether the record of what was carried out takes one more pair.
use Rattle.std.specs.Prelude.{ℕ, Bool, true, nat_lt, List, length, Option, Some, None}
use Rattle.iol_far.specs.declared.carried.Carried.{Carried}

-- whether a record takes one more pair: where it has a bound, as long as it is below it
abbrev pub takes_more : Option ℕ → List Carried → Bool
takes_more None carried = true
takes_more (Some room) carried = nat_lt (length carried) room
