-- Which replies a device in a kept state may have sent.
use Rattle.std.specs.Prelude.{ℕ, Bool, true, false, ◌&&◌, ◌||◌, ◌==◌, if◌then◌else◌, List, drop, slice_index, Option, Some, None, is_some, Result, Ok, Err}
use Rattle.std.specs.Option.{option_or}
use Rattle.iol_octets.specs.Zeros.{are_zeros}
use Rattle.iol_octets.specs.declared.control.Channel.{Channel}
use Rattle.iol_octets.specs.declared.control.Channel.TheVariants.{Process, Page, Diagnosis, Isdu}
use Rattle.iol_octets.specs.declared.control.Mc.{Mc}
use Rattle.iol_mseq.specs.Shape.{Shape}
use Rattle.iol_mseq.specs.Replies.{reply_in}
use Rattle.iol_mseq.specs.declared.master.MasterMsg.{MasterMsg}
use Rattle.iol_mseq.specs.declared.reply.Reply.{Reply}
use Rattle.iol_page.specs.declared.page.Layouts.{Layouts}
use Rattle.iol_far.specs.declared.mode.DeviceMode.TheVariants.{Startup, Preoperate, Operate}
use Rattle.iol_far.specs.Codec.{message_in}
use Rattle.iol_judge.specs.declared.open.Open.{Open}
use Rattle.iol_judge.specs.declared.reason.Reason.{Reason}
use Rattle.iol_judge.specs.declared.reason.Reason.TheVariants.{NotTaken, ReplyLength, StatusWithoutData, InvalidNotZero, PageChanged, PageZero, CycleTime, ProcessNotZero, RestNotZero}
use Rattle.iol_judge.specs.declared.verdict.Odd.{Odd}
use Rattle.iol_judge.specs.declared.verdict.Odd.TheVariants.{Blamed, PassedOver}
use Rattle.iol_judge.specs.Numbers.{earlier}
use Rattle.iol_judge.specs.declared.taken.Heard.{Heard}
use Rattle.iol_judge.specs.declared.taken.Heard.TheVariants.{Explained, Refused}
use Rattle.iol_judge.specs.declared.events.ShownEvents.{ShownEvents}
use Rattle.iol_judge.specs.Octets.{is_other}
use Rattle.iol_judge.specs.Transfers.{transfer_fault, transfer_updated}
use Rattle.iol_judge.specs.Events.{flag_fault, flag_updated, events_fault, events_updated}
use Rattle.iol_judge.specs.Observed.{is_of_page, octet_observed}
use Rattle.iol_judge.specs.State.{KnownState}
use Rattle.iol_judge.specs.Taking.{Taken, mode_layout}

-- Which can be read

-- what was sent is a message in this layout, where that is known, and the reply a good one to it
abbrev pub is_read_in : Result Shape Open → List ℕ → List ℕ → Bool
is_read_in (Err why) sent reply = false
is_read_in (Ok layout) sent reply = elim (message_in layout sent) [
  | None ↦ false
  | Some message ↦ is_some (reply_in layout message.mc.read reply)
]

-- in the layout of some mode of the device
abbrev pub can_be_read : Result Layouts Open → List ℕ → List ℕ → Bool
can_be_read known sent reply = is_read_in (mode_layout known Startup) sent reply
    || is_read_in (mode_layout known Preoperate) sent reply
    || is_read_in (mode_layout known Operate) sent reply

-- Why a device can't have sent a reply

abbrev pub other_than : Option ℕ → ℕ → Reason → Option Reason
other_than known octet reason = if is_other known octet then Some reason else None

abbrev pub no_zeros : List ℕ → Reason → Option Reason
no_zeros octets reason = if are_zeros octets then None else Some reason

-- an octet of the page is another than was read
abbrev pub page_fault : List (Option ℕ) → ℕ → ℕ → Option Reason
page_fault observed address octet = other_than (octet_observed observed address) octet PageChanged

-- the on-request data of the reply to a read, once its Event flag was had
abbrev pub data_fault : List (Option ℕ) → KnownState → Bool → Channel → ℕ → List ℕ → Option Reason
data_fault observed state flag Process address od = None
data_fault observed state flag Page address od =
    if is_of_page address then page_fault observed address (slice_index od 0) else None
data_fault observed state flag Diagnosis address od =
    events_fault (flag_updated state.events flag) address (slice_index od 0)
data_fault observed state flag Isdu address od = transfer_fault state.transfer od

abbrev pub fault_in_reply : List (Option ℕ) → KnownState → Shape → Mc → Reply → Option Reason
fault_in_reply observed state layout mc reply =
    if reply.invalid && (layout.pd_in == 0) then Some StatusWithoutData else
    option_or (flag_fault state.events reply.event)
    (if mc.read
    then data_fault observed state reply.event mc.channel mc.address reply.od.items
    else None)

-- What is odd in a reply: no device by the rules sends it, and no promise to a client rests on it

abbrev pub page_oddity : Option ℕ → ℕ → ℕ → Option Reason
page_oddity cycle address octet =
    if address == 1 then other_than cycle octet CycleTime else
    if is_of_page address then None else other_than (Some 0) octet PageZero

abbrev pub data_oddity : Option ℕ → Channel → ℕ → List ℕ → Option Reason
data_oddity cycle Process address od = no_zeros od ProcessNotZero
data_oddity cycle Page address od = option_or (page_oddity cycle address (slice_index od 0))
    (no_zeros (drop 1 od) RestNotZero)
data_oddity cycle Diagnosis address od = no_zeros (drop 1 od) RestNotZero
data_oddity cycle Isdu address od = None

abbrev pub reply_oddity : Option ℕ → Mc → Reply → Option Reason
reply_oddity cycle mc reply =
    option_or (if reply.invalid then no_zeros reply.input.items InvalidNotZero else None)
    (if mc.read then data_oddity cycle mc.channel mc.address reply.od.items else None)

-- What a reply tells

-- page address 0x01, where it was read as this octet: what was known stays, though it was passed
-- over that another came
abbrev pub cycle_updated : Option ℕ → Bool → Channel → ℕ → ℕ → Option ℕ
cycle_updated old true Page address octet =
    if address == 1 then option_or old (Some octet) else old
cycle_updated old read channel address octet = old

abbrev pub shown_updated : ShownEvents → Bool → Channel → ℕ → ℕ → ShownEvents
shown_updated events true Diagnosis address octet = events_updated events address octet
shown_updated events read channel address octet = events

-- the state, once its reply to that message was had
abbrev pub state_after_reply : KnownState → Mc → Reply → KnownState
state_after_reply state mc reply = record state {
  cycle =
      cycle_updated state.cycle mc.read mc.channel mc.address (slice_index reply.od.items 0);
  events =
      shown_updated (flag_updated state.events reply.event) mc.read mc.channel mc.address
      (slice_index reply.od.items 0);
  transfer = transfer_updated state.transfer mc.read mc.channel reply.od.items;
}

-- Whether a state explains a reply

-- it does, with the state afterwards and what is odd then; or it doesn't, with why
pub data Explanation : Type 0 where
  By : KnownState → Option Reason → Explanation
  Not : Reason → Explanation

-- what a call says that changes a state in its place, with what the state is then
abbrev pub explanation_with : Heard → KnownState → Explanation
explanation_with (Explained oddity) state = By state oddity
explanation_with (Refused reason) state = Not reason

abbrev pub explained_as : Result Heard Open → KnownState → Result Explanation Open
explained_as (Err why) state = Err why
explained_as (Ok heard) state = Ok (explanation_with heard state)

abbrev pub earlier_reason : Option Reason → Option Reason → Option Reason
earlier_reason None b = b
earlier_reason (Some a) None = Some a
earlier_reason (Some a) (Some b) = Some (earlier a b)

-- what speaks against it, of its fault and what is odd
abbrev pub held_against : Odd → Option Reason → Option Reason → Option Reason
held_against Blamed fault oddity = earlier_reason fault oddity
held_against PassedOver fault oddity = fault

abbrev pub explained_by : Odd → List (Option ℕ) → KnownState → Shape → MasterMsg → Option Reply
    → Explanation
explained_by odd observed state layout message None = Not ReplyLength
explained_by odd observed state layout message (Some reply) =
    let oddity = reply_oddity state.cycle message.mc reply in
    elim (held_against odd (fault_in_reply observed state layout message.mc reply) oddity) [
      | None ↦ By (state_after_reply state message.mc reply) oddity
      | Some reason ↦ Not reason
    ]

-- whether a state explains the reply that came, by what it makes of the message
abbrev pub explanation_of : Odd → List (Option ℕ) → Option Taken → List ℕ → Explanation
explanation_of odd observed None reply = Not NotTaken
explanation_of odd observed (Some taken) reply =
    explained_by odd observed taken.state taken.layout taken.message
    (reply_in taken.layout taken.message.mc.read reply)
