-- The far end of the line: what it holds, and what it does on hearing octets.
use Rattle.std.specs.Prelude.{ℕ, Bool, true, false, not, ◌&&◌, ◌==◌, nat_lt, if◌then◌else◌, List, [], length, replicate, slice_index, bytes_eq, Option, Some, None, is_some, option_map, unwrap_or}
use Rattle.iol_octets.specs.declared.control.Channel.{Channel}
use Rattle.iol_octets.specs.declared.control.Channel.TheVariants.{Process, Page, Diagnosis, Isdu}
use Rattle.iol_octets.specs.declared.flow_control.Flow.{Flow}
use Rattle.iol_mseq.specs.Shape.{Shape}
use Rattle.iol_mseq.specs.Parts.{first_of_zeros}
use Rattle.iol_mseq.specs.declared.master.MasterMsg.{MasterMsg}
use Rattle.iol_mseq.specs.declared.reply.Reply.{Reply}
use Rattle.iol_page.specs.Page as sheet
use Rattle.iol_page.specs.Commands.{command_of}
use Rattle.iol_page.specs.declared.master_command.MasterCommand.{MasterCommand}
use Rattle.iol_page.specs.declared.master_command.MasterCommand.TheVariants.{DeviceStartup, ProcessDataOutputOperate, DeviceOperate, DevicePreoperate}
use Rattle.iol_event.specs.Memory.{Events, no_events, is_empty, events_after_confirm, events_after_release, event_octet}
use Rattle.iol_far.specs.declared.mode.DeviceMode.{DeviceMode}
use Rattle.iol_far.specs.declared.mode.DeviceMode.TheVariants.{Startup, Preoperate, Operate}
use Rattle.iol_far.specs.declared.carried.Carried.{Carried}
use Rattle.iol_far.specs.declared.kind.Kind.{Kind}
use Rattle.iol_far.specs.declared.kind.HandsOver.{HandsOver}
use Rattle.iol_far.specs.History.{HistoryEntry}
use Rattle.iol_far.specs.Isdu.{IsduState, Empty, isdu_read, isdu_data, own, remaining_isdu, written_by, counted_by}
use Rattle.iol_far.specs.Codec.{layout_in, message_in, reply_octets, flow_of}

-- a mode command that waits, with its octets
pub record WaitingCommand : Type 0 where
  pub into : DeviceMode
  pub octets : List ℕ

pub record Far : Type 0 where
  pub awake : Bool
  -- the mode whose layout it speaks, and the command into another one that it has heard
  pub mode : DeviceMode
  pub waits : Option WaitingCommand
  pub isdu : IsduState
  -- what it is of the kinds of device, and the COUNT of the last write on the ISDU channel,
  -- which some keep
  pub kind : Kind
  pub counted : Option ℕ
  -- whether it may miss the pulse of a wake-up request, and hear the test read behind it alone;
  -- fixed for its life
  pub misses_pulses : Bool
  pub events : Events
  -- process data: the input, the last output octets heard, whether they are valid
  pub input : Option (List ℕ)
  pub out : List ℕ
  pub valid : Bool
  -- direct parameter page 1: the octets of 0x02 to 0x0B, which nothing changes, and
  -- the octet of 0x01
  pub page : List ℕ
  pub cycle_time : ℕ
  -- what was carried out, and the most that this may be, where there is a most
  pub carried : List Carried
  pub room : Option ℕ
  -- what else happened at it by itself
  pub history : List HistoryEntry

-- the layout that it speaks
abbrev pub layout_of : Far → Shape
layout_of far = layout_in far.page far.mode

-- a far end of this kind, page and room that was never awake
abbrev pub opened_as : Kind → List ℕ → Option ℕ → Far
opened_as kind page room = record {
  awake = false;
  mode = Startup;
  waits = None;
  isdu = Empty;
  kind = kind;
  counted = None;
  misses_pulses = false;
  events = no_events;
  input = None;
  out = [];
  valid = false;
  page = page;
  cycle_time = 0;
  carried = [];
  room = room;
  history = [];
}

-- the same of our own kind
abbrev pub new_far : List ℕ → Option ℕ → Far
new_far page room = opened_as own page room

-- Accepted

-- the far end in its new layout
-- DEV-3
abbrev pub far_in_mode : Far → DeviceMode → Far
far_in_mode far into = record far { mode = into; waits = None; isdu = Empty; valid = false }

-- a message in the present layout
abbrev pub accepted_now : Far → List ℕ → Option (Far × MasterMsg)
accepted_now far octets = option_map (λ message. (far, message)) (message_in (layout_of far) octets)

-- while a command waits: its very octets, in the old layout, or a message in the new one
-- DEV-4
abbrev pub accepted_by : Option WaitingCommand → Far → List ℕ → Option (Far × MasterMsg)
accepted_by None far octets = accepted_now far octets
accepted_by (Some command) far octets =
    if bytes_eq octets command.octets then accepted_now far octets
    else accepted_now (far_in_mode far command.into) octets

-- the far end in the layout in which it accepts the octets, and the message that
-- they are there; none where they are not accepted
-- DEV-2
abbrev pub accepted_message : Far → List ℕ → Option (Far × MasterMsg)
accepted_message far octets = if far.awake then accepted_by far.waits far octets else None

-- Worked: one function for each part

-- the master command that a message is: a write to address 0x00
abbrev pub command_at : Bool → Channel → ℕ → ℕ → Option MasterCommand
command_at false Page address octet = if address == 0 then command_of octet else None
command_at read channel address octet = None

abbrev pub command_in : MasterMsg → Option MasterCommand
command_in message =
    command_at message.mc.read message.mc.channel message.mc.address
    (slice_index message.od.items 0)

-- the mode that a command asks for
-- DEV-5
abbrev pub mode_asked : Option MasterCommand → Option DeviceMode
mode_asked (Some DeviceStartup) = Some Startup
mode_asked (Some DevicePreoperate) = Some Preoperate
mode_asked (Some DeviceOperate) = Some Operate
mode_asked command = None

abbrev pub is_mode : DeviceMode → DeviceMode → Bool
is_mode Startup Startup = true
is_mode Preoperate Preoperate = true
is_mode Operate Operate = true
is_mode mode other = false

-- the mode asked for, where a device of this page has it: one of V1.0 has no PREOPERATE
-- DEV-5
abbrev pub known_mode : List ℕ → Option DeviceMode → Option DeviceMode
known_mode page (Some Preoperate) = if sheet.is_old page then None else Some Preoperate
known_mode page asked = asked

-- a command for another mode waits
-- DEV-3
abbrev pub waits_after : DeviceMode → Option WaitingCommand → List ℕ → Option DeviceMode
    → Option WaitingCommand
waits_after mode waits octets None = waits
waits_after mode waits octets (Some into) =
    if is_mode mode into then waits else Some (record { into = into; octets = octets })

-- in OPERATE two commands say whether the output is valid
-- DEV-6
abbrev pub valid_after : DeviceMode → Bool → Option MasterCommand → Bool
valid_after Operate valid (Some ProcessDataOutputOperate) = true
valid_after Operate valid (Some DeviceOperate) = false
valid_after mode valid command = valid

-- in OPERATE each message brings output octets
-- DEV-6
abbrev pub out_after : DeviceMode → List ℕ → List ℕ → List ℕ
out_after Operate out heard = heard
out_after mode out heard = out

-- a read or a write, at what the device still knows
abbrev pub isdu_moved : Kind → Option ℕ → ℕ → IsduState → Bool → Flow → List ℕ → IsduState
isdu_moved kind counted size state true flow octets =
    isdu_read size (remaining_isdu kind.recalls size state) flow
isdu_moved kind counted size state false flow octets =
    written_by kind.hands_over counted (remaining_isdu kind.recalls size state) flow octets

-- where the device has no ISDU, the state stays empty
-- DEV-10
abbrev pub isdu_after : Kind → Option ℕ → Bool → ℕ → IsduState → Channel → Bool → Flow → List ℕ
    → IsduState
isdu_after kind counted known size state Isdu read flow octets =
    if known then isdu_moved kind counted size state read flow octets else Empty
isdu_after kind counted known size state channel read flow octets = state

abbrev pub counted_after : HandsOver → Option ℕ → Bool → Channel → Bool → Flow → Option ℕ
counted_after hands_over counted known Isdu false flow =
    if known then counted_by hands_over counted flow else counted
counted_after hands_over counted known channel read flow = counted

-- a write to diagnosis address 0x00
-- EVT-2
abbrev pub is_confirm : Channel → Bool → ℕ → Bool
is_confirm Diagnosis false address = address == 0
is_confirm channel read address = false

abbrev pub events_after : Events → Bool → Events
events_after events true = events_after_confirm events
events_after events false = events_after_release events

-- a write to page address 0x01; every other page write is ignored
-- DEV-9
abbrev pub cycle_time_after : ℕ → Channel → Bool → ℕ → ℕ → ℕ
cycle_time_after old Page false address octet = if address == 1 then octet else old
cycle_time_after old channel read address octet = old

-- the far end once it has worked a message that it accepts in its present layout
abbrev pub far_after_message : Far → List ℕ → MasterMsg → Far
far_after_message far octets message = record far {
  waits = waits_after far.mode far.waits octets
      (known_mode far.page (mode_asked (command_in message)));
  isdu = isdu_after far.kind far.counted (sheet.knows_isdu far.page)
      (layout_of far).od far.isdu message.mc.channel message.mc.read
      (flow_of message.mc.address) message.od.items;
  counted = counted_after far.kind.hands_over far.counted (sheet.knows_isdu far.page)
      message.mc.channel message.mc.read (flow_of message.mc.address);
  events =
      events_after far.events (is_confirm message.mc.channel message.mc.read message.mc.address);
  out = out_after far.mode far.out message.out.items;
  valid = valid_after far.mode far.valid (command_in message);
  cycle_time =
      cycle_time_after far.cycle_time message.mc.channel message.mc.read message.mc.address
      (slice_index message.od.items 0);
}

-- The reply, read off the far end once it has worked the message

-- the octet at a page address
abbrev pub page_octet_of : Far → ℕ → ℕ
page_octet_of far address =
    if address == 1 then far.cycle_time else sheet.page_octet far.page address

-- the on-request data of the reply to a read
-- DEV-7
abbrev pub data_of : Far → ℕ → Channel → ℕ → List ℕ
data_of far size Process address = replicate size 0
data_of far size Page address = first_of_zeros size (page_octet_of far address)
data_of far size Diagnosis address = first_of_zeros size (event_octet far.events.frozen address)
data_of far size Isdu address = isdu_data size far.isdu

-- the process data in, zeros where there is none
-- DEV-8
abbrev pub input_of : Far → ℕ → List ℕ
input_of far size = if size == 0 then [] else unwrap_or far.input (replicate size 0)

-- DEV-8
abbrev pub reply_to : Far → Shape → MasterMsg → Reply
reply_to far layout message = record {
  od = record {
    items = if message.mc.read
        then data_of far layout.od message.mc.channel message.mc.address else [];
  };
  input = record { items = input_of far layout.pd_in };
  event = not (is_empty far.events.frozen);
  invalid = not (layout.pd_in == 0) && not (is_some far.input);
}

pub record HearResult : Type 0 where
  pub far : Far
  pub reply : Option (List ℕ)

abbrev pub with_reply : Far → MasterMsg → HearResult
with_reply far message =
    record { far = far; reply = Some (reply_octets (reply_to far (layout_of far) message)) }

abbrev pub heard_as : Far → List ℕ → Option (Far × MasterMsg) → HearResult
heard_as far octets None = record { far = far; reply = None }
heard_as far octets (Some (there, message)) =
    with_reply (far_after_message there octets message) message

-- what the far end is after these octets came, and what it answers
-- DEV-2
abbrev pub hear : Far → List ℕ → HearResult
hear far octets = heard_as far octets (accepted_message far octets)

-- the process data that it has for its outputs
abbrev pub output_of : Far → Option (List ℕ)
output_of far = if far.valid && nat_lt 0 (length far.out) then Some far.out else None
