-- A device's history: what happened at it by itself, but for the requests that it carried out,
-- which are in its record. It only grows.
use Rattle.std.specs.Prelude.{ℕ, if◌then◌else◌, List, [], ◌∷◌, ◌++◌, Option}
use Rattle.iol_event.specs.declared.event.Event.{Event}
use Rattle.iol_event.specs.Memory.{Events, is_full}

pub data HistoryEntry : Type 0 where
  -- an event was raised, and its memory took it
  Raised : Event → HistoryEntry
  -- the input became this, or none
  InputSet : Option (List ℕ) → HistoryEntry
  PowerCycled : HistoryEntry

-- an event that finds no room isn't raised
-- EVT-1
abbrev pub history_after_raise : Events → Event → List HistoryEntry → List HistoryEntry
history_after_raise memory event history =
    if is_full memory then history else history ++ Raised event ∷ []

abbrev pub history_after_input : Option (List ℕ) → List HistoryEntry → List HistoryEntry
history_after_input input history = history ++ InputSet input ∷ []

abbrev pub history_after_power_cycle : List HistoryEntry → List HistoryEntry
history_after_power_cycle history = history ++ PowerCycled ∷ []
