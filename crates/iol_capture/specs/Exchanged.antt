-- An exchange.
use Rattle.std.specs.Prelude.{ℕ, List, Option}

pub record ExchangeOctets : Type 0 where
  pub sent : List ℕ
  pub answer : Option (List ℕ)
