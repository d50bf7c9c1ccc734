-- What a client may conclude of a request that was denied: the device has no ISDU,
-- and carries out nothing.
use Rattle.std.specs.Prelude.{◌≡◌, ℕ, false, List}
use Rattle.iol_page.specs.Page.{knows_isdu}
use Rattle.iol_far.specs.Far.{Far}
use Rattle.iol_far.specs.Isdu.{handed_request}
use Rattle.iol_book.specs.declared.limits.Limits.{Limits}
use Rattle.iol_book.specs.declared.entries.Outcome.TheVariants.{NoIsdu}
use Rattle.iol_book.specs.declared.entries.Ticket.{Ticket}
use Rattle.iol_port.specs.declared.call.Call.TheVariants as call
use Rattle.iol_port.specs.declared.call.Answered.{Answered}
use Rattle.iol_port.specs.declared.call.Answered.TheVariants as answered
use Rattle.iol_port.specs.Run.{PortState, Piece, Whole, Pieces, port_at_opening}
use Rattle.iol_port.specs.CarriesOut.{Happens, GrewBy}
use Rattle.iol_mode.specs.declared.configuration.Devices.{Devices}

-- in no run of a port that is opened, across losses, restarts, drains and archives, does a device
-- without ISDU carry anything out but, once, what it was handed before the opening
abbrev pub CarriesNone : Type 0
CarriesNone =
    (devices : Devices) (limits : Limits) (far : Far) (silence : ℕ) (pieces : List Piece)
    (replies : List Answered)
    (b : PortState) → Pieces (port_at_opening devices limits far silence) pieces replies b
    → knows_isdu far.page ≡ false
    → GrewBy (handed_request far.isdu) far.carried b.session.carried

-- and each outcome NoIsdu that was collected is that of such a device
abbrev pub IsDeniedWithoutIsdu : Type 0
IsDeniedWithoutIsdu =
    (devices : Devices) (limits : Limits) (far : Far) (silence : ℕ) (pieces : List Piece)
    (replies : List Answered)
    (b : PortState) → Pieces (port_at_opening devices limits far silence) pieces replies b
    → (ticket : Ticket)
    → Happens pieces replies (Whole (call.Collect ticket)) (answered.Outcome NoIsdu)
    → knows_isdu far.page ≡ false
