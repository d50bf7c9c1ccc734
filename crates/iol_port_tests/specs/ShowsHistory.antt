-- What a client concludes of a port's image and events from the claim alone.
use Rattle.std.specs.Prelude.{◌≡◌, List, ◌++◌, IfSome}
use Rattle.iol_event.specs.declared.event.Event.{Event}
use Rattle.iol_far.specs.History.{HistoryEntry}
use Rattle.iol_link.specs.WireFacts.{WireFacts}
use Rattle.iol_port.specs.Owners.{IsOneOf}
use Rattle.iol_port.specs.History.{WasInput, raised_in}
use Rattle.iol_port.specs.View.{PortValue}

-- since the opening the device's history went on by some entries: the image that is shown was the
-- input at a moment of them, and each event that is kept was raised in them, or was in the device's
-- memory at the opening
pub record ShowsHistory {W : Type 0} (facts : WireFacts W) (v : PortValue W) : Type 0 where
  pub entries : List HistoryEntry
  pub history_is : (facts.far v.wire).history ≡ v.opening.far.history ++ entries
  pub image : IfSome v.parts.core.session.image (WasInput entries v.opening.far.input)
  pub events : (event : Event) → IsOneOf event v.parts.queued
      → IsOneOf event
      ((v.opening.far.events.frozen ++ v.opening.far.events.waiting) ++ raised_in entries)
