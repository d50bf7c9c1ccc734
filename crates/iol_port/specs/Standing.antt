-- Where a line stands: the device at its far end, and the silence up to now.
use Rattle.std.specs.Prelude.{ℕ}
use Rattle.iol_far.specs.Far.{Far}

pub record LinePosition : Type 0 where
  pub far : Far
  -- how many exchanges in a row, up to now, brought no unaltered reply, counted up to 3
  pub silence : ℕ
