-- A port in OPERATE, and the watch that is told its messages: how the two stand.
-- For the clauses of `laws::ports_are_by_the_rules`.
use Rattle.std.proofs.Common.{◌≡◌, ◌≤◌, Bool, true, false}
use Rattle.std.specs.Prelude.{Option, Some, None, IfSome}
use Rattle.iol_mseq.specs.Master.{HasMasterParts}
use Rattle.iol_mseq.specs.Texts.{master_text}
use Rattle.iol_page.specs.Page.{AreLayouts}
use Rattle.iol_page.specs.declared.page.Layouts.{Layouts}
use Rattle.iol_link.specs.Attempts.{Sending}
use Rattle.iol_mode.specs.declared.configuration.Devices.TheVariants.{Own}
use Rattle.iol_judge.specs.declared.master_phase.MasterPhase.TheVariants.{Operate}
use Rattle.iol_judge.specs.declared.master.MasterState.{MasterState}
use Rattle.iol_judge.specs.declared.master_output.Output.{Output}
use Rattle.iol_judge.specs.declared.master_reading.Reading.{Reading}
use Rattle.iol_judge.specs.declared.master_reading.Reading.TheVariants as readings
use Rattle.iol_judge.specs.declared.master_transfer.MasterTransfer.{MasterTransfer}
use Rattle.iol_judge.specs.declared.master_transfer.MasterTransfer.TheVariants.{Quiet}
use Rattle.iol_judge.specs.MasterOutputs.{allows_octets, aged_output}
use Rattle.iol_app.specs.declared.output.OutputState.{OutputState}
use Rattle.iol_app.specs.declared.event_work.ReadingProgress.{ReadingProgress}
use Rattle.iol_app.specs.declared.event_work.ReadingProgress.TheVariants.{Resting, UnderWay, ConfirmDue, Refused}
use Rattle.iol_app.specs.declared.request.Current.{Current}
use Rattle.iol_app.specs.declared.session.Purpose.{Purpose}
use Rattle.iol_app.specs.declared.session.Purpose.TheVariants.{EnableOutput, DropOutput, Abort, ReadEvent, ConfirmEvents, CheckEvents, Request, Idle}
use Rattle.iol_app.specs.Messages.{head_of, head_for}
use Rattle.iol_app.specs.Requests.{is_doubting}
use Rattle.iol_app.specs.State.{SessionState}
use Rattle.iol_by_the_rules.proofs.Accepted.{missed_of}
use Rattle.iol_by_the_rules.proofs.Requests.{RequestStands, RequestOut}

-- By part

-- the output: what was carried last may go out again
pub record OutputStands (valid : Bool) (output : Output) (s : OutputState) : Type 0 where
  pub allowed : allows_octets output.carried s.carried.items ≡ true
  pub valid_is : output.valid ≡ valid

-- also behind a wake-up request
abbrev pub MayCarry : Output → OutputState → Type 0
MayCarry output s = allows_octets (aged_output output.carried) s.carried.items ≡ true

-- whether it is valid once a message for this was sent
abbrev pub valid_out : Purpose → Bool → Bool
valid_out EnableOutput acknowledged = true
valid_out DropOutput acknowledged = false
valid_out exchange acknowledged = acknowledged

-- the reading of events
abbrev pub watched_reading : ReadingProgress → Reading
watched_reading Resting = readings.Resting
watched_reading (UnderWay reader) = readings.UnderWay reader
watched_reading ConfirmDue = readings.ConfirmDue
watched_reading Refused = readings.Refused

abbrev pub reading_out : Purpose → ReadingProgress → Reading
reading_out CheckEvents so_far = readings.ConfirmDue
reading_out exchange so_far = watched_reading so_far

-- a message for this fits the reading
abbrev pub reads_well : Purpose → ReadingProgress → Bool
reads_well ReadEvent Resting = true
reads_well ReadEvent (UnderWay reader) = true
reads_well ReadEvent _ = false
reads_well ConfirmEvents ConfirmDue = true
reads_well ConfirmEvents _ = false
reads_well CheckEvents Resting = true
reads_well CheckEvents _ = false
reads_well exchange _ = true

-- the request, while a message for this is out
abbrev pub TransferOut : Purpose → Option Current → MasterTransfer → Type 0
TransferOut Abort current transfer = transfer ≡ Quiet
TransferOut Idle current transfer = (transfer ≡ Quiet) × (current ≡ None)
TransferOut Request None transfer = ⊥
TransferOut Request (Some current) transfer = RequestOut current transfer
TransferOut exchange current transfer = RequestStands current transfer

-- the page that was read
pub record PageStands (layouts : Layouts) (s : SessionState) : Type 0 where
  pub are : AreLayouts layouts
  pub layout : s.layout ≡ Some layouts.run
  pub isdu : s.isdu ≡ Some layouts.isdu
  pub knows : IfSome s.current (λ current. layouts.isdu ≡ true)

-- Whole

-- no message is out
pub record OperateRests (layouts : Layouts) (s : SessionState) (m : MasterState) : Type 0 where
  pub page : PageStands layouts s
  pub phase : m.phase ≡ Operate layouts
  pub out : m.out ≡ None
  pub free : s.exchange ≡ None
  pub output : OutputStands s.output.acknowledged m.output s.output
  pub flag : m.events.flag ≡ s.events.flag
  pub reading : m.events.reading ≡ watched_reading s.events.reading
  pub request : RequestStands s.current m.transfer

-- this one is, which the watch was told
pub record OperateOut (layouts : Layouts) (sent : Sending) (exchange : Purpose) (s : SessionState)
    (m : MasterState) : Type 0 where
  pub page : PageStands layouts s
  pub phase : m.phase ≡ Operate layouts
  pub few : sent.tries ≤ 2
  pub out : m.out ≡ missed_of sent.tries (master_text layouts.run sent.message)
  pub busy : s.exchange ≡ Some exchange
  pub parts : HasMasterParts layouts.run sent.message
  pub head : head_of sent.message.mc ≡ head_for exchange s.events.reading s.current
  pub carries : sent.message.out.items ≡ s.output.carried.items
  pub output : OutputStands (valid_out exchange s.output.acknowledged) m.output s.output
  pub reading : m.events.reading ≡ reading_out exchange s.events.reading
  pub reads : reads_well exchange s.events.reading ≡ true
  pub request : TransferOut exchange s.current m.transfer
  -- at a port for our own devices nothing of a request is in doubt
  pub sure : s.configuration.devices ≡ Own
      → IfSome s.current (λ current. is_doubting current.progress ≡ false)
