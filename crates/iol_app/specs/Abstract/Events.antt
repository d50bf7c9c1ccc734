-- The events that the device has frozen: where each step is allowed, and what it does.
use Rattle.std.specs.Prelude.{◌≡◌, ◌≤◌, Bool, true, false, if◌then◌else◌, List, [], length, Option, Some, None, IsSomeAnd, ⊤}
use Rattle.iol_event.specs.declared.event.Event.{Event}
use Rattle.iol_app.specs.Abstract.Steps.{PortStep, Freeze, Report, Confirm, Unreport, PowerLoss, Start, Reset}

-- the frozen list, and whether it counts as reported: since the last wake, or missed confirm
pub record Frozen : Type 0 where
  pub events : List Event
  pub reported : Bool

-- the events that are frozen, and those of them that were not reported
abbrev pub frozen_events : Option Frozen → List Event
frozen_events None = []
frozen_events (Some frozen) = frozen.events

abbrev pub unreported_events : Option Frozen → List Event
unreported_events None = []
unreported_events (Some frozen) = if frozen.reported then [] else frozen.events

abbrev pub MayFrozen : PortStep → Option Frozen → Type 0
MayFrozen (Freeze events) f = (f ≡ None) × (1 ≤ length events) × (length events ≤ 6)
MayFrozen (Report events) f = f ≡ Some (record { events = events; reported = false })
MayFrozen Confirm f = IsSomeAnd f (λ frozen. frozen.reported ≡ true)
MayFrozen step f = ⊤

-- EVT-9
abbrev pub marked_unreported : Option Frozen → Option Frozen
marked_unreported None = None
marked_unreported (Some frozen) = Some (record frozen { reported = false })

abbrev pub frozen_after : PortStep → Option Frozen → Option Frozen
frozen_after (Freeze events) f = Some (record { events = events; reported = false })
frozen_after (Report events) f = Some (record { events = events; reported = true })
frozen_after Confirm f = None
frozen_after Unreport f = marked_unreported f
frozen_after PowerLoss f = None
frozen_after Start f = marked_unreported f
frozen_after Reset f = marked_unreported f
frozen_after step f = f
