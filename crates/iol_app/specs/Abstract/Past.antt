-- What happened at the device by itself, and the events that wait at it: where each step is
-- allowed, and what it does.
use Rattle.std.specs.Prelude.{◌≡◌, List, [], ◌∷◌, ◌++◌, length, drop, ⊤}
use Rattle.iol_event.specs.declared.event.Event.{Event}
use Rattle.iol_far.specs.History.{HistoryEntry, Raised, history_after_input, history_after_power_cycle}
use Rattle.iol_app.specs.Abstract.Steps.{PortStep, Raise, Freeze, Input, PowerLoss}

pub record Past : Type 0 where
  pub history : List HistoryEntry
  -- events that were raised and are not frozen yet, in the order raised
  pub waiting : List Event

-- what is frozen are the events that wait longest
abbrev pub MayPast : PortStep → Past → Type 0
MayPast (Freeze events) p = (others : List Event) × (p.waiting ≡ events ++ others)
MayPast step p = ⊤

abbrev pub past_after : PortStep → Past → Past
past_after (Raise event) p = record {
  history = p.history ++ Raised event ∷ [];
  waiting = p.waiting ++ event ∷ [];
}
past_after (Freeze events) p = record p { waiting = drop (length events) p.waiting }
past_after (Input input) p = record p { history = history_after_input input p.history }
past_after PowerLoss p =
    record { history = history_after_power_cycle p.history; waiting = [] }
past_after step p = p
