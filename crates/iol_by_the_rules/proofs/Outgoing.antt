-- A new message of OPERATE, by what it is for: the watch has nothing against it.
-- For the clauses of `laws::ports_are_by_the_rules`.
use Rattle.std.proofs.Common.{◌≡◌, ℕ, ◌≤◌, Bool, true, false, ◌||◌, List, [], ◌∷◌, refl, sym, ap, ◌∙◌, arith}
use Rattle.std.proofs.lemmas.Bool.Decides.{nat_tests}
use Rattle.std.proofs.lemmas.Grind.{common_steps}
use Rattle.std.specs.Prelude.{Option, Some, None, IfSome, is_some, is_none, bytes_eq, Result, Ok, Err}
use Rattle.iol_octets.specs.declared.control.Channel.TheVariants.{Page, Diagnosis, Isdu}
use Rattle.iol_mseq.specs.Master.{HasMasterParts}
use Rattle.iol_mseq.specs.Texts.{master_text}
use Rattle.iol_mseq.specs.declared.master.MasterMsg.{MasterMsg}
use Rattle.iol_page.specs.declared.page.Layouts.{Layouts}
use Rattle.iol_page.specs.declared.master_command.MasterCommand.{MasterCommand}
use Rattle.iol_page.specs.declared.master_command.MasterCommand.TheVariants.{ProcessDataOutputOperate, DeviceOperate}
use Rattle.iol_segment.specs.TextLaws.{TextLaws}
use Rattle.iol_event.specs.Reading.{next_address}
use Rattle.iol_far.specs.Codec.{flow_of}
use Rattle.iol_far.specs.Far.{command_in}
use Rattle.iol_far.specs.Linked.{TextsAreHeard}
use Rattle.iol_mode.specs.Messages.{new_sending}
use Rattle.iol_judge.specs.declared.blame.Blame.{Blame}
use Rattle.iol_judge.specs.declared.master_phase.MasterPhase.{MasterPhase}
use Rattle.iol_judge.specs.declared.master_phase.MasterPhase.TheVariants.{Operate}
use Rattle.iol_judge.specs.declared.master.MasterState.{MasterState}
use Rattle.iol_judge.specs.declared.master_output.CarriedOutput.TheVariants.{Last}
use Rattle.iol_judge.specs.declared.master_output.Output.{Output}
use Rattle.iol_judge.specs.declared.master_transfer.MasterTransfer.{MasterTransfer}
use Rattle.iol_judge.specs.declared.master_transfer.MasterTransfer.TheVariants.{Quiet}
use Rattle.iol_judge.specs.MasterOutputs.{output_after_message}
use Rattle.iol_judge.specs.MasterPhases.{phase_layout}
use Rattle.iol_judge.specs.MasterReadings.{is_due}
use Rattle.iol_judge.specs.MasterTransfers.{transfer_after_message}
use Rattle.iol_judge.specs.Watched.{master_after_sending, sent_at, sent_on}
use Rattle.iol_app.specs.declared.event_work.EventRoom.{EventRoom}
use Rattle.iol_app.specs.declared.event_work.ReadingProgress.{ReadingProgress}
use Rattle.iol_app.specs.declared.event_work.ReadingProgress.TheVariants as app
use Rattle.iol_app.specs.declared.output.OutputState.{OutputState}
use Rattle.iol_app.specs.declared.request.Current.{Current}
use Rattle.iol_app.specs.declared.request.RequestProgress.{RequestProgress}
use Rattle.iol_app.specs.declared.request.RequestProgress.TheVariants.{Sending, Doubting, Asking, Receiving, Refused}
use Rattle.iol_app.specs.declared.session.Purpose.{Purpose}
use Rattle.iol_app.specs.declared.session.Purpose.TheVariants as for
use Rattle.iol_app.specs.Due.{due_of, first_due}
use Rattle.iol_app.specs.EventReading.{reader_of}
use Rattle.iol_app.specs.Messages.{head_of, head_for, data_for, progress_head, progress_data}
use Rattle.iol_app.specs.Outputs.{output_to_carry}
use Rattle.iol_app.specs.Requests.{aborts, is_doubting}
use Rattle.iol_app.specs.State.{SessionState, IsMessageFor, od_size, session_sending}
use Rattle.iol_by_the_rules.proofs.Accepted.{is_down, bytes_themselves, new_accepted}
use Rattle.iol_by_the_rules.proofs.Segments.{is_free, is_silent}
use Rattle.iol_by_the_rules.proofs.Requests.{ProgressGoes, RequestGoes, RequestStands, IsDueNext, next_due}
use Rattle.iol_by_the_rules.proofs.Ties.{OperateOut, OutputStands, PageStands, valid_out, watched_reading, reading_out, reads_well, TransferOut}

-- What is due, and what that says of each part

abbrev pub TransferDue : Purpose → Option Current → MasterTransfer → Type 0
TransferDue for.Abort current transfer = is_silent transfer ≡ false
TransferDue for.Idle current transfer = (is_free transfer ≡ true) × (current ≡ None)
TransferDue for.Request None transfer = ⊥
TransferDue for.Request (Some current) transfer =
    RequestGoes current transfer × IsDueNext current.progress
TransferDue exchange current transfer = RequestStands current transfer

abbrev pub reading_due : Purpose → ReadingProgress → Bool → Bool
reading_due for.ReadEvent app.Resting flag = flag
reading_due for.ReadEvent (app.UnderWay reader) flag = true
reading_due for.ReadEvent _ flag = false
reading_due for.ConfirmEvents app.ConfirmDue flag = true
reading_due for.ConfirmEvents _ flag = false
reading_due for.CheckEvents _ flag = false
reading_due exchange _ flag = true

-- the output may be carried
abbrev pub output_due : Purpose → Option (List ℕ) → Bool → Bool
output_due for.EnableOutput wanted acknowledged = true
output_due for.DropOutput wanted acknowledged = is_none wanted
output_due exchange wanted acknowledged = is_none wanted || acknowledged

goes_next : (current : Current) (transfer : MasterTransfer) → RequestGoes current transfer
    → aborts (Some current) ≡ false → IsDueNext current.progress
goes_next current transfer goes none = by_progress current.progress goes.at
  where
    by_progress : (progress : RequestProgress)
        → ProgressGoes current.cutter current.abort progress transfer → IsDueNext progress
    by_progress (Sending flow piece) at = tt
    by_progress Doubting at = tt
    by_progress (Asking busies) at = tt
    by_progress (Receiving joining received) at = tt
    by_progress Refused at = grind (arith, at, none)

due_transfer_by : (enable drop abort under confirm flag some : Bool) (current : Option Current)
    (transfer : MasterTransfer) → aborts current ≡ abort → is_some current ≡ some
    → RequestStands current transfer
    → TransferDue (first_due (
    (enable, for.EnableOutput) ∷ (drop, for.DropOutput) ∷ (abort, for.Abort) ∷
    (under, for.ReadEvent) ∷ (confirm, for.ConfirmEvents) ∷ (flag, for.ReadEvent) ∷
    (some, for.Request) ∷ [])) current transfer
due_transfer_by true drop abort under confirm flag some current transfer is has stands = stands
due_transfer_by false true abort under confirm flag some current transfer is has stands = stands
due_transfer_by false false true under confirm flag some None transfer is has stands = grind arith
due_transfer_by false false true under confirm flag some (Some current) transfer is has stands =
    stands.1
due_transfer_by false false false true confirm flag some current transfer is has stands = stands
due_transfer_by false false false false true flag some current transfer is has stands = stands
due_transfer_by false false false false false true some current transfer is has stands = stands
due_transfer_by false false false false false false some None transfer is has stands =
    rw (← has) (stands, refl)
due_transfer_by false false false false false false some (Some current) transfer is has stands =
    rw (← has) (stands.0, goes_next current transfer stands.0 is)

pub due_transfer : (s : SessionState) (room : EventRoom) (transfer : MasterTransfer)
    → RequestStands s.current transfer → TransferDue (due_of s room) s.current transfer
due_transfer s room transfer stands =
    due_transfer_by _ _ (aborts s.current) _ _ _ (is_some s.current) s.current transfer refl refl
    stands

pub due_reading : (s : SessionState) (room : EventRoom)
    → reading_due (due_of s room) s.events.reading s.events.flag ≡ true
due_reading s room = grind (arith, common_steps)

pub due_output : (s : SessionState) (room : EventRoom)
    → output_due (due_of s room) s.output.wanted s.output.acknowledged ≡ true
due_output s room = grind (arith, common_steps)

-- What the watch makes of it

abbrev pub command_for : Purpose → Option MasterCommand
command_for for.EnableOutput = Some ProcessDataOutputOperate
command_for for.DropOutput = Some DeviceOperate
command_for exchange = None

pub command_is : (exchange : Purpose) (reading : ReadingProgress) (current : Option Current)
    (size : ℕ) (message : MasterMsg) → head_of message.mc ≡ head_for exchange reading current
    → message.od.items ≡ data_for exchange size current
    → command_in message ≡ command_for exchange
command_is exchange so_far current size message head od = grind (arith, common_steps)

pub output_sent : (exchange : Purpose) (output : Output) (s : OutputState) (octets : List ℕ)
    → OutputStands s.acknowledged output s → output_due exchange s.wanted s.acknowledged ≡ true
    → octets ≡ output_to_carry s
    → output_after_message output (command_for exchange) octets
    ≡ Ok (record {
      carried = Last (record { items = octets });
      valid = valid_out exchange s.acknowledged;
    })
output_sent exchange output s octets stands due is =
    grind (arith, common_steps, stands.allowed, stands.valid_is)

module _ (m : MasterState) (layouts : Layouts) (message : MasterMsg)
    (phase : m.phase ≡ Operate layouts)
  where
    page_sent : (exchange : Purpose) → message.mc.channel ≡ Page → message.mc.read ≡ false
        → message.mc.address ≡ 0 → command_in message ≡ command_for exchange
        → is_some (command_for exchange) ≡ true → sent_on m layouts message ≡ Ok m
    page_sent exchange channel read address is some = grind (arith, phase)

    pub diagnosis_sent : message.mc.channel ≡ Diagnosis
        → is_due m.events message.mc.read message.mc.address ≡ true
        → sent_on m layouts message ≡ Ok m
    diagnosis_sent channel due = grind arith

    pub isdu_sent : (read : Bool) (address : ℕ) (od : List ℕ) (transfer : MasterTransfer)
        → message.mc.channel ≡ Isdu → message.mc.read ≡ read → message.mc.address ≡ address
        → message.od.items ≡ od
        → transfer_after_message layouts.isdu m.transfer read (flow_of address) od ≡ Ok transfer
        → sent_on m layouts message ≡ Ok (record m { transfer = transfer })
    isdu_sent read address od transfer channel reads at same sent =
        grind (arith, channel, reads, at, same, sent)

    pub sent_there : (output : Output) (after : Result MasterState Blame)
        → output_after_message m.output (command_in message) message.out.items ≡ Ok output
        → sent_on (record m { output = output }) layouts message ≡ after
        → sent_at m.phase m message ≡ after
    sent_there output after carried sent =
        ap (λ (p : MasterPhase). sent_at p m message) phase
        ∙ ap (λ (r : Result Output Blame). elim r [
          | Ok out ↦ sent_on (record m { output = out }) layouts message
          | Err fault ↦ Err fault
        ]) carried
        ∙ sent

-- a read of events is due
event_due : (m : MasterState) (reading : ReadingProgress) (flag : Bool)
    → m.events.reading ≡ watched_reading reading → m.events.flag ≡ flag
    → reading_due for.ReadEvent reading flag ≡ true
    → is_due m.events true (next_address (reader_of reading)) ≡ true
event_due m so_far flag is same due = grind (arith, nat_tests, is, same, due)

confirm_due : (m : MasterState) (reading : ReadingProgress) (flag : Bool)
    → m.events.reading ≡ watched_reading reading → reading_due for.ConfirmEvents reading flag ≡ true
    → is_due m.events false 0 ≡ true
confirm_due m so_far flag is due = grind (arith, nat_tests, is, due)

abort_sent_on : (isdu : Bool) (transfer : MasterTransfer) → is_silent transfer ≡ false
    → transfer_after_message isdu transfer true (flow_of 0x1F) [] ≡ Ok Quiet
unfolding flow_of
abort_sent_on isdu transfer known = grind arith

idle_sent_on : (isdu : Bool) (transfer : MasterTransfer) → is_free transfer ≡ true
    → transfer_after_message isdu transfer true (flow_of 0x11) [] ≡ Ok Quiet
unfolding flow_of
idle_sent_on isdu transfer free = grind arith

-- What the watch has of each part once it was told

module _ (laws : (size : ℕ) → 1 ≤ size → TextLaws size) (layouts : Layouts) (message : MasterMsg)
    (reading : ReadingProgress) (flag : Bool) (size : ℕ)
  where
    abbrev SentFor : Purpose → Option Current → MasterState → Type 0
    SentFor exchange current m = (transfer : MasterTransfer)
        × (sent_on m layouts message ≡ Ok (record m { transfer = transfer }))
        × TransferOut exchange current transfer

    sent_for : (exchange : Purpose) (current : Option Current) (m : MasterState)
        → m.phase ≡ Operate layouts → m.events.reading ≡ watched_reading reading
        → m.events.flag ≡ flag → IfSome current (λ c. layouts.isdu ≡ true)
        → head_of message.mc ≡ head_for exchange reading current
        → message.od.items ≡ data_for exchange size current
        → command_in message ≡ command_for exchange
        → reading_due exchange reading flag ≡ true → TransferDue exchange current m.transfer
        → SentFor exchange current m
    sent_for for.EnableOutput current m phase is same knows head od command reads due = (
      m.transfer,
      page_sent m layouts message phase for.EnableOutput (ap (λ h. h.channel) head)
          (ap (λ h. h.read) head) (ap (λ h. h.address) head) command refl,
      due,
    )
    sent_for for.DropOutput current m phase is same knows head od command reads due = (
      m.transfer,
      page_sent m layouts message phase for.DropOutput (ap (λ h. h.channel) head)
          (ap (λ h. h.read) head) (ap (λ h. h.address) head) command refl,
      due,
    )
    sent_for for.Abort current m phase is same knows head od command reads due = (
      Quiet,
      isdu_sent m layouts message phase true 0x1F [] Quiet (ap (λ h. h.channel) head)
          (ap (λ h. h.read) head) (ap (λ h. h.address) head) od
          (abort_sent_on layouts.isdu m.transfer due),
      refl,
    )
    sent_for for.ReadEvent current m phase is same knows head od command reads due = (
      m.transfer,
      diagnosis_sent m layouts message phase (ap (λ h. h.channel) head)
          (rw (ap (λ h. h.read) head, ap (λ h. h.address) head)
          (event_due m reading flag is same reads)),
      due,
    )
    sent_for for.ConfirmEvents current m phase is same knows head od command reads due = (
      m.transfer,
      diagnosis_sent m layouts message phase (ap (λ h. h.channel) head)
          (rw (ap (λ h. h.read) head, ap (λ h. h.address) head)
          (confirm_due m reading flag is reads)),
      due,
    )
    sent_for for.CheckEvents current m phase is same knows head od command reads due =
        grind (arith, reads)
    sent_for for.Request None m phase is same knows head od command reads due = absurd due
    sent_for for.Request (Some current) m phase is same knows head od command reads due =
        let next = next_due laws current m.transfer due.0 due.1 in (
          next.0,
          isdu_sent m layouts message phase (progress_head current.progress).read
              (progress_head current.progress).address (progress_data current.progress) next.0
              (ap (λ h. h.channel) head ∙ isdu_head current.progress)
              (ap (λ h. h.read) head) (ap (λ h. h.address) head) od
              (rw knows next.1.0),
          next.1.1,
        )
      where
        isdu_head : (progress : RequestProgress) → (progress_head progress).channel ≡ Isdu
        isdu_head progress = grind arith
    sent_for for.Idle current m phase is same knows head od command reads due = (
      Quiet,
      isdu_sent m layouts message phase true 0x11 [] Quiet (ap (λ h. h.channel) head)
          (ap (λ h. h.read) head) (ap (λ h. h.address) head) od
          (idle_sent_on layouts.isdu m.transfer due.0),
      (refl, due.1),
    )

-- A whole message

reads_due : (exchange : Purpose) (reading : ReadingProgress) (flag : Bool)
    → reading_due exchange reading flag ≡ true
    → (reads_well exchange reading ≡ true)
    × (reading_out exchange reading ≡ watched_reading reading)
reads_due exchange so_far flag due = (grind (arith, due), grind (arith, due))

module _ (heard : TextsAreHeard) (laws : (size : ℕ) → 1 ≤ size → TextLaws size)
    (layouts : Layouts) (s : SessionState) (room : EventRoom) (m : MasterState)
    (message : MasterMsg)
  where
    abbrev due : Purpose
    due = due_of s room

    abbrev out_session : SessionState
    out_session = session_sending due s

    -- the watch has nothing against it
    abbrev pub NewFair : Type 0
    NewFair = (next : MasterState)
        × (master_after_sending m (master_text layouts.run message) ≡ Ok next)
        × OperateOut layouts (new_sending message) due out_session next

    pub new_fair : PageStands layouts s → m.phase ≡ Operate layouts → m.out ≡ None
        → OutputStands s.output.acknowledged m.output s.output → m.events.flag ≡ s.events.flag
        → m.events.reading ≡ watched_reading s.events.reading
        → TransferDue due s.current m.transfer
        → IfSome s.current (λ c. is_doubting c.progress ≡ false)
        → IsMessageFor due out_session message → HasMasterParts layouts.run message
        → message.out.items ≡ output_to_carry s.output → NewFair
    new_fair page phase out output flag is transfer sure says parts carries =
        let command : command_in message ≡ command_for due =
        command_is due s.events.reading s.current (od_size s.layout) message says.head
        says.octets in
        let carried : Output = record {
          carried = Last (record { items = message.out.items });
          valid = valid_out due s.output.acknowledged;
        } in
        let carrying : MasterState = record m { output = carried } in
        let sent = sent_for laws layouts message s.events.reading s.events.flag
        (od_size s.layout) due s.current carrying phase is flag page.knows says.head says.octets
        command (due_reading s room) transfer in
        let reads = reads_due due s.events.reading s.events.flag (due_reading s room) in (
          record carrying { transfer = sent.0 },
          new_accepted heard layouts.run m (ap phase_layout phase) message parts
              (ap is_down phase) out
              ∙ sent_there m layouts message phase carried _
              (ap (λ c. output_after_message m.output c message.out.items) command
              ∙ output_sent due m.output s.output message.out.items output (due_output s room)
              carries)
              sent.1,
          record {
            page = record {
              are = page.are;
              layout = page.layout;
              isdu = page.isdu;
              knows = page.knows;
            };
            phase = phase;
            few = omega arith;
            out = out;
            busy = refl;
            parts = parts;
            head = says.head;
            carries = carries;
            output = record {
              allowed = ap (λ (o : List ℕ). bytes_eq (output_to_carry s.output) o) carries
                  ∙ bytes_themselves (output_to_carry s.output);
              valid_is = refl;
            };
            reading = is ∙ sym reads.1;
            reads = reads.0;
            request = sent.2;
            sure = λ own. sure;
          },
        )
