-- The record of what was carried out, in memory, and what clauses alone know.
use Rattle.std.specs.Prelude.{ℕ, List, []}
use Rattle.iol_far.specs.declared.carried.Carried.{Carried}
use Rattle.iol_far.specs.History.{HistoryEntry}

-- a record in memory: its pairs, and the most that they may be
pub record RecordValue : Type 0 where
  pub carried : List Carried
  pub room : ℕ

-- what clauses alone know of a device: its record, where that isn't kept, or its history
pub record Noted : Type 0 where
  pub carried : List Carried
  pub history : List HistoryEntry

abbrev pub nothing_noted : Noted
nothing_noted = record { carried = []; history = [] }
