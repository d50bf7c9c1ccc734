-- Which call of the wire a turn makes, as a function of the station before it.
use Rattle.std.specs.Prelude.{◌≡◌, ℕ, ◌+◌, ◌*◌, Bool, true, ◌&&◌, if◌then◌else◌, List, ◌∷◌, ◌++◌, slice_index, nat_le, Option, Some, None, unwrap_or}
use Rattle.arrayvec.specs.ArrayVec.{ArrayVec}
use Rattle.iol_octets.specs.CheckOctets.{type_bits}
use Rattle.iol_octets.specs.Checksum.{with_checksum}
use Rattle.iol_octets.specs.Control.{channel_code}
use Rattle.iol_mseq.specs.Shape.{Shape, startup_shape}
use Rattle.iol_mseq.specs.Texts.{master_text}
use Rattle.iol_mseq.specs.declared.master.MasterMsg.{MasterMsg}
use Rattle.iol_isdu.specs.declared.values.Request.{Request}
use Rattle.iol_link.specs.declared.wire.Rate.{Rate}
use Rattle.iol_link.specs.WireFacts.{WireFacts}
use Rattle.iol_mode.specs.Next.{message_out}
use Rattle.iol_app.specs.declared.transmission.Transmission.{Transmission}
use Rattle.iol_app.specs.declared.transmission.Outgoing.{Outgoing}
use Rattle.iol_app.specs.declared.transmission.Transmission.TheVariants.{Wake, Exchange}
use Rattle.iol_app.specs.declared.event_work.EventRoom.{EventRoom}
use Rattle.iol_app.specs.declared.session.Purpose as purpose
use Rattle.iol_mode.specs.declared.states.State.{State}
use Rattle.iol_mode.specs.declared.states.State.TheVariants.{Down as AtDown, Startup as AtStartup, Preoperate as AtPreoperate, Operate as AtOperate}
use Rattle.iol_app.specs.Outputs.{output_to_carry}
use Rattle.iol_app.specs.Messages.{Head, head_of, head_for, data_for}
use Rattle.iol_app.specs.State.{SessionState, od_size, session_after_begin}
use Rattle.iol_app.specs.Due.{due_of, is_ready}
use Rattle.iol_app.specs.StationState.{operates}
use Rattle.iol_app.specs.Core.{CoreState}

-- the octets of a message of these parts
abbrev pub text_by : Shape → Head → List ℕ → List ℕ → List ℕ
text_by layout head out od =
    with_checksum 1
    (((if head.read then 128 else 0) + 32 * channel_code head.channel + head.address)
    ∷ (64 * type_bits layout.kind) ∷ out ++ od)

-- those of a new message for this
abbrev pub text_for : Shape → purpose.Purpose → SessionState → List ℕ
text_for layout exchange s =
    text_by layout (head_for exchange s.events.reading s.current) (output_to_carry s.output)
    (data_for exchange (od_size s.layout) s.current)

-- and of one for what is due
abbrev pub text_due : Shape → SessionState → EventRoom → List ℕ
text_due layout s room = text_for layout (due_of s room) s

-- a new message for what is due
pub record IsDue (s : SessionState) (room : EventRoom) (message : MasterMsg) : Type 0 where
  pub head : head_of message.mc ≡ head_for (due_of s room) s.events.reading s.current
  pub out : message.out.items ≡ output_to_carry s.output
  pub od : message.od.items ≡ data_for (due_of s room) (od_size s.layout) s.current

-- the message out, again, else a new one for what is due
abbrev pub text_to_send : Shape → Option MasterMsg → SessionState → EventRoom → List ℕ
text_to_send layout None s room = text_due layout s room
text_to_send layout (Some message) s room = master_text layout message

-- where no message is out and nothing is due, the next request is begun, unless the
-- device has no ISDU
abbrev pub begin_where : Bool → Option Request → SessionState → SessionState
begin_where ready None s = s
begin_where ready (Some request) s = if ready then session_after_begin request s else s

-- no start-up has told that the device has no ISDU
abbrev pub takes_requests : SessionState → Bool
takes_requests s = unwrap_or s.isdu true

abbrev pub session_with_next : Option Request → SessionState → EventRoom → SessionState
session_with_next next s room = begin_where (is_ready s room && takes_requests s) next s

-- in OPERATE
abbrev pub beginning_in : Option Request → State → SessionState → EventRoom → SessionState
beginning_in next state s room =
    begin_where (operates state && is_ready s room && takes_requests s) next s

-- how many octets a good reply has: a read, bit 7 of MC, brings on-request data
abbrev pub reply_size : Shape → List ℕ → ℕ
reply_size layout octets =
    (if nat_le 128 (slice_index octets 0) then layout.od else 0) + layout.pd_in + 1

-- these octets go out in this layout
abbrev pub outgoing_of : Shape → List ℕ → Outgoing
outgoing_of layout octets = record {
  octets = record { items = octets };
  layout = layout;
  reply = reply_size layout octets;
}

abbrev pub asked_in : State → SessionState → EventRoom → Transmission
asked_in (AtDown state) s room = Wake
asked_in (AtStartup state) s room =
    Exchange (outgoing_of startup_shape (master_text startup_shape state.sent.message))
asked_in (AtPreoperate state) s room =
    Exchange (outgoing_of state.pre (master_text state.pre state.sent.message))
asked_in (AtOperate state) s room =
    Exchange
    (outgoing_of state.layouts.run (text_to_send state.layouts.run (message_out state.out) s room))

abbrev pub core_with_request : Option Request → CoreState → EventRoom → CoreState
core_with_request next c room =
    record c { session = beginning_in next c.state c.session room }

-- the call that the next turn makes, where there is room for events or not
abbrev pub asked_by : CoreState → EventRoom → Transmission
asked_by c room = asked_in c.state c.session room

-- one call of the wire is the one that was asked
module _ {W : Type 0} (facts : WireFacts W) where
  open facts use {wake_gives, exchange_gives}

  abbrev pub IsCall : Transmission → W → W → Type 0
  IsCall Wake old new = (answer : Option Rate) × wake_gives old answer new
  IsCall (Exchange out) old new = (answer : Option (ArrayVec ℕ))
      × exchange_gives old out.octets.items answer new
