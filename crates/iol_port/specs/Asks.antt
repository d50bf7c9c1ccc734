-- What the next turn of a port asks of its wire, and which of its calls makes a call of the wire.
use Rattle.std.specs.Prelude.{◌≡◌, Bool, false, not, nat_le, if◌then◌else◌, List, length, Option, Some, None}
use Rattle.std.specs.Option.{option_map}
use Rattle.iol_isdu.specs.declared.values.Request.{Request}
use Rattle.iol_event.specs.declared.event.Event.{Event}
use Rattle.iol_link.specs.WireFacts.{WireFacts}
use Rattle.iol_book.specs.declared.entries.Ticket.{Ticket}
use Rattle.iol_book.specs.BookModel.{next_taken}
use Rattle.iol_app.specs.declared.transmission.Transmission.{Transmission}
use Rattle.iol_app.specs.declared.event_work.EventRoom.{EventRoom}
use Rattle.iol_app.specs.declared.event_work.EventRoom.TheVariants.{Left, Full}
use Rattle.iol_app.specs.Asking.{asked_by, core_with_request, IsCall}
use Rattle.iol_port.specs.View.{PortParts}
use Rattle.iol_port.specs.declared.call.Call.{Call}
use Rattle.iol_port.specs.declared.call.Call.TheVariants.{Turn}

-- events are read only where at most 58 are kept
-- EVT-5
abbrev pub event_room : List Event → EventRoom
event_room queued = if nat_le (length queued) 58 then Left else Full

-- a start-up told that the device has no ISDU
abbrev pub lacks_isdu : Option Bool → Bool
lacks_isdu None = false
lacks_isdu (Some has) = not has

-- of the request that is next, the one that a turn may begin: none where the device has no ISDU
abbrev pub to_begin : Bool → Option (Ticket × Request) → Option Request
to_begin lacks next = if lacks then None else option_map (λ t. t.1) next

-- that of a port
abbrev pub begun_next : PortParts → Option Request
begun_next p = to_begin (lacks_isdu p.core.session.isdu) (next_taken p.book.state)

-- the one call of the wire in the next turn: that request is begun first, where
-- nothing else is due
-- PORT-2
abbrev pub asks_of : PortParts → Transmission
asks_of p = asked_by (core_with_request (begun_next p) p.core (event_room p.queued))
    (event_room p.queued)

-- a turn makes the call of the wire that was asked, and no other call of the port
-- touches the wire
-- PORT-2
abbrev pub IsWireCall : {W : Type 0} → WireFacts W → Call → Transmission → W → W → Type 0
IsWireCall facts Turn asked old new = IsCall facts asked old new
IsWireCall facts other asked old new = new ≡ old
