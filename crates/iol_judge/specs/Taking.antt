-- What a message makes of a kept state.
use Rattle.std.specs.Prelude.{ℕ, Bool, false, ◌==◌, if◌then◌else◌, List, slice_index, Option, Some, None, is_some, unwrap_or, Result, Ok, Err}
use Rattle.iol_octets.specs.declared.control.Channel.{Channel}
use Rattle.iol_octets.specs.declared.control.Channel.TheVariants.{Page}
use Rattle.iol_mseq.specs.Shape.{Shape, startup_shape}
use Rattle.iol_mseq.specs.declared.master.MasterMsg.{MasterMsg}
use Rattle.iol_page.specs.declared.page.Layouts.{Layouts}
use Rattle.iol_far.specs.declared.mode.DeviceMode.{DeviceMode}
use Rattle.iol_far.specs.declared.mode.DeviceMode.TheVariants.{Startup, Preoperate, Operate}
use Rattle.iol_far.specs.Codec.{flow_of, message_in}
use Rattle.iol_far.specs.Far.{command_in, is_confirm, mode_asked, waits_after}
use Rattle.iol_far.specs.Level.{FarLink, accepting_link}
use Rattle.iol_judge.specs.declared.open.Open.{Open}
use Rattle.iol_judge.specs.declared.taken.TakenMessage.{TakenMessage}
use Rattle.iol_judge.specs.Events.{shown_after}
use Rattle.iol_judge.specs.Family.{kind_in}
use Rattle.iol_judge.specs.Transfers.{isdu_known, transfer_after, transfer_in}
use Rattle.iol_judge.specs.State.{KnownState}

-- a message that a state took, with the state once it worked it, and the layout
pub record Taken : Type 0 where
  pub state : KnownState
  pub layout : Shape
  pub message : MasterMsg

-- what goes on with a result, where there is one
abbrev pub and_then : {A B : Type 0} → Result A Open → (A → Result B Open) → Result B Open
and_then (Ok found) go = go found
and_then (Err why) go = Err why

-- the layout of a mode, where it is known
abbrev pub mode_layout : Result Layouts Open → DeviceMode → Result Shape Open
mode_layout known Startup = Ok startup_shape
mode_layout (Ok layouts) Preoperate = Ok (unwrap_or layouts.pre startup_shape)
mode_layout (Ok layouts) Operate = Ok layouts.run
mode_layout (Err why) mode = Err why

-- the mode asked for, where the device has it, and where that is known
abbrev pub mode_known : Result Layouts Open → Option DeviceMode → Result (Option DeviceMode) Open
mode_known known None = Ok None
mode_known known (Some Startup) = Ok (Some Startup)
mode_known (Ok layouts) (Some Preoperate) =
    Ok (if is_some layouts.pre then Some Preoperate else None)
mode_known (Ok layouts) (Some Operate) = Ok (Some Operate)
mode_known (Err why) (Some mode) = Err why

-- the octet of page address 0x01 once a message was worked
abbrev pub cycle_after : Option ℕ → Channel → Bool → ℕ → ℕ → Option ℕ
cycle_after old Page false address octet = if address == 1 then Some octet else old
cycle_after old channel read address octet = old

-- the state once the message was worked, by the link in which it was taken and the mode asked for
abbrev pub state_after : Result Layouts Open → FarLink → KnownState → List ℕ → Shape → MasterMsg
    → Option DeviceMode → KnownState
state_after known link state octets layout message asked = record {
  kinds = state.kinds;
  link = record { mode = link.mode; waits = waits_after link.mode link.waits octets asked };
  cycle = cycle_after state.cycle message.mc.channel message.mc.read message.mc.address
      (slice_index message.od.items 0);
  events = shown_after state.events
      (is_confirm message.mc.channel message.mc.read message.mc.address);
  transfer = transfer_after (kind_in state.kinds) (isdu_known known) layout.od
      (transfer_in state.link.waits octets state.transfer) message.mc.channel message.mc.read
      (flow_of message.mc.address) message.od.items;
}

abbrev pub taken_message : Result Layouts Open → FarLink → KnownState → List ℕ → Shape
    → Option MasterMsg → Result (Option Taken) Open
taken_message known link state octets layout None = Ok None
taken_message known link state octets layout (Some message) =
    and_then (mode_known known (mode_asked (command_in message))) (λ asked. Ok (Some (record {
      state = state_after known link state octets layout message asked;
      layout = layout;
      message = message;
    })))

-- what a state makes of octets, none where it doesn't take them; open where the page's layouts
-- would have to be known
abbrev pub taken_by_state : Result Layouts Open → KnownState → List ℕ
    → Result (Option Taken) Open
taken_by_state known state octets =
    let link = accepting_link state.link octets in
    and_then (mode_layout known link.mode)
    (λ layout. taken_message known link state octets layout (message_in layout octets))

-- a call that changes a state in its place says what it took, with what the state is then
abbrev pub worked_by : Result (Option TakenMessage) Open → KnownState → Result (Option Taken) Open
worked_by (Err why) state = Err why
worked_by (Ok None) state = Ok None
worked_by (Ok (Some taken)) state =
    Ok (Some (record { state = state; layout = taken.layout; message = taken.message }))
