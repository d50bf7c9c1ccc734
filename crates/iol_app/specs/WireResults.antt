-- What the one call of the wire in a turn brought.
use Rattle.std.specs.Prelude.{ℕ, Bool, ◌==◌, not, if◌then◌else◌, List, length, Option, Some, None}
use Rattle.iol_mseq.specs.Replies.{is_checked}
use Rattle.iol_link.specs.declared.handler.Attempt.{Attempt}
use Rattle.iol_link.specs.declared.handler.Attempt.TheVariants.{Got}
use Rattle.iol_mode.specs.declared.states.State.{State}
use Rattle.iol_mode.specs.Exchanges.{text_out, layout_out, tries_in}
use Rattle.iol_app.specs.declared.transmission.Outgoing.{Outgoing}
use Rattle.iol_app.specs.declared.wire_result.WireResult.{WireResult}
use Rattle.iol_app.specs.declared.wire_result.WireResult.TheVariants.{NoDevice, Woken, Exchanged}
use Rattle.iol_app.specs.declared.wire_result.ReplyVerdict.{ReplyVerdict}
use Rattle.iol_app.specs.declared.wire_result.ReplyVerdict.TheVariants.{Good, NoReply, WrongLength, WrongChecksum}
use Rattle.iol_app.specs.Asking.{outgoing_of}

-- what came back to a message, by the first part of being well-formed that fails
abbrev pub verdict_on : Outgoing → Option (List ℕ) → ReplyVerdict
verdict_on out None = NoReply
verdict_on out (Some octets) =
    if not (length octets == out.reply) then WrongLength else
    if not (is_checked octets) then WrongChecksum else Good

-- the same, where that is known of it which made the attempt end so
abbrev pub verdict_by : Attempt → ℕ → Option (List ℕ) → ReplyVerdict
verdict_by (Got reply) size received = Good
verdict_by missed size None = NoReply
verdict_by missed size (Some octets) =
    if length octets == size then WrongChecksum else WrongLength

-- what a wake brought
abbrev pub woken_by : Bool → WireResult
woken_by answered = if answered then Woken else NoDevice

-- what an exchange of the message that is out brought
abbrev pub wire_result_in : State → Option (List ℕ) → WireResult
wire_result_in state received =
    Exchanged (tries_in state) (verdict_on (outgoing_of (layout_out state) (text_out state))
    received)
