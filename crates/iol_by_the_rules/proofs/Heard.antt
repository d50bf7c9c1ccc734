-- A good reply in OPERATE, by what its message was for.
-- For the clauses of `laws::ports_are_by_the_rules`.
use Rattle.std.proofs.Common.{◌≡◌, ℕ, Bool, true, false, List, [], refl, sym, ap, subst, ◌∙◌, arith}
use Rattle.std.proofs.lemmas.Grind.{common_steps}
use Rattle.std.specs.Prelude.{Option, Some, None, IfSome, slice_index, Result, Ok, Err}
use Rattle.iol_octets.specs.declared.control.Channel.TheVariants.{Page, Diagnosis, Isdu}
use Rattle.iol_mseq.specs.declared.master.MasterMsg.{MasterMsg}
use Rattle.iol_mseq.specs.declared.reply.Reply.{Reply}
use Rattle.iol_page.specs.declared.page.Layouts.{Layouts}
use Rattle.iol_page.specs.declared.master_command.MasterCommand.{MasterCommand}
use Rattle.iol_event.specs.declared.event.Event.{Event}
use Rattle.iol_event.specs.declared.faults.EventForm.{EventForm}
use Rattle.iol_event.specs.Reading.{reader_step}
use Rattle.iol_link.specs.Attempts.{Sending}
use Rattle.iol_judge.specs.declared.master_phase.MasterPhase.TheVariants.{Operate}
use Rattle.iol_judge.specs.declared.master.MasterState.{MasterState}
use Rattle.iol_judge.specs.declared.master_reading.Reading.{Reading}
use Rattle.iol_judge.specs.declared.master_reading.Reading.TheVariants as readings
use Rattle.iol_judge.specs.declared.master_transfer.MasterTransfer.{MasterTransfer}
use Rattle.iol_judge.specs.MasterReadings.{read_on, reading_after_reply}
use Rattle.iol_judge.specs.MasterTransfers.{transfer_after_reply}
use Rattle.iol_judge.specs.Watched.{master_after_reply, mode_entered}
use Rattle.iol_app.specs.declared.event_work.ReadingProgress.{ReadingProgress}
use Rattle.iol_app.specs.declared.event_work.ReadingProgress.TheVariants as app
use Rattle.iol_app.specs.declared.request.Current.{Current}
use Rattle.iol_app.specs.declared.request.RequestProgress.{RequestProgress}
use Rattle.iol_app.specs.declared.request.RequestProgress.TheVariants.{Sending as SendingPiece, Doubting, Asking, Receiving, Refused}
use Rattle.iol_app.specs.declared.session.Purpose.{Purpose}
use Rattle.iol_app.specs.declared.session.Purpose.TheVariants as for
use Rattle.iol_app.specs.EventReading.{reading_by, reading_after_exchange}
use Rattle.iol_app.specs.Messages.{Head, head_of, head_for, progress_head}
use Rattle.iol_app.specs.Outputs.{output_after}
use Rattle.iol_app.specs.Requests.{ReplyEffect, GoesOn, HasText, current_after, current_of_effect, effect_of_reply}
use Rattle.iol_app.specs.State.{SessionState, session_after_exchange}
use Rattle.iol_by_the_rules.proofs.Requests.{EffectStands, RequestStands, request_heard, reply_stands}
use Rattle.iol_by_the_rules.proofs.Ties.{OperateOut, OperateRests, valid_out, watched_reading, reading_out, reads_well, TransferOut}

-- What the watch makes of it

abbrev pub heard_with : MasterState → Reply → Reading → MasterTransfer → MasterState
heard_with m reply reads transfer = record m {
  out = None;
  events = record { flag = reply.event; reading = reads };
  transfer = transfer;
}

mode_stays : (m : MasterState) (layouts : Layouts) (command : Option MasterCommand)
    → m.phase ≡ Operate layouts → mode_entered m command ≡ m
mode_stays m layouts command phase = grind (arith, common_steps, phase)

module _ (m : MasterState) (message : MasterMsg) (reply : Reply) where
  abbrev Hears : Reading → MasterTransfer → Type 0
  Hears reads transfer =
      master_after_reply m message reply ≡ heard_with m reply reads transfer

  page_heard : (layouts : Layouts) → m.phase ≡ Operate layouts → message.mc.read ≡ false
      → message.mc.channel ≡ Page → Hears m.events.reading m.transfer
  page_heard layouts phase read channel =
      rw (read, channel) (mode_stays (heard_with m reply m.events.reading m.transfer) layouts _
      phase)

  event_heard : message.mc.read ≡ true → message.mc.channel ≡ Diagnosis
      → Hears (reading_after_reply true (slice_index reply.od.items 0) m.events.reading) m.transfer
  event_heard read channel = rw (read, channel) refl

  confirm_heard : message.mc.read ≡ false → message.mc.channel ≡ Diagnosis
      → Hears readings.Resting m.transfer
  confirm_heard read channel = rw (read, channel) refl

  answer_heard : message.mc.read ≡ true → message.mc.channel ≡ Isdu
      → Hears m.events.reading (transfer_after_reply m.transfer reply.od.items)
  answer_heard read channel = rw (read, channel) refl

  segment_heard : message.mc.read ≡ false → message.mc.channel ≡ Isdu
      → Hears m.events.reading m.transfer
  segment_heard read channel = rw (read, channel) refl

  request_heard_is : (progress : RequestProgress) → head_of message.mc ≡ progress_head progress
      → Hears m.events.reading (request_heard progress m.transfer reply.od.items)
  request_heard_is (SendingPiece flow piece) head =
      segment_heard (ap (λ (h : Head). h.read) head) (ap (λ (h : Head). h.channel) head)
  request_heard_is Doubting head =
      answer_heard (ap (λ (h : Head). h.read) head) (ap (λ (h : Head). h.channel) head)
  request_heard_is (Asking busy) head =
      answer_heard (ap (λ (h : Head). h.read) head) (ap (λ (h : Head). h.channel) head)
  request_heard_is (Receiving joining received) head =
      answer_heard (ap (λ (h : Head). h.read) head) (ap (λ (h : Head). h.channel) head)
  request_heard_is Refused head =
      answer_heard (ap (λ (h : Head). h.read) head) (ap (λ (h : Head). h.channel) head)

-- The reading of events

read_by : (answer : Result (Option (List Event)) EventForm) (reader : List ℕ)
    → elim answer [
      | Ok None ↦ readings.UnderWay reader
      | Ok (Some list) ↦ readings.ConfirmDue
      | Err form ↦ readings.Refused
    ] ≡ watched_reading (reading_by answer reader)
read_by (Ok None) reader = refl
read_by (Ok (Some list)) reader = refl
read_by (Err form) reader = refl

read_is : (reader : List ℕ) (octet : ℕ)
    → read_on reader octet
    ≡ watched_reading (reading_by (reader_step reader octet).answer
    (reader_step reader octet).reader)
read_is reader octet = read_by (reader_step reader octet).answer (reader_step reader octet).reader

reading_is : (so_far : ReadingProgress) (od : List ℕ) → reads_well for.ReadEvent so_far ≡ true
    → reading_after_reply true (slice_index od 0) (watched_reading so_far)
    ≡ watched_reading (reading_after_exchange for.ReadEvent od so_far)
reading_is app.Resting od well = read_is [] (slice_index od 0)
reading_is (app.UnderWay reader) od well = read_is reader (slice_index od 0)
reading_is app.ConfirmDue od well = grind (arith, well)
reading_is app.Refused od well = grind (arith, well)

check_is : (so_far : ReadingProgress) (octet : ℕ) → reads_well for.CheckEvents so_far ≡ true
    → reading_after_reply true octet readings.ConfirmDue ≡ watched_reading so_far
check_is so_far octet well = grind (arith, well)

-- The request

effect_heard : (effect : ReplyEffect) (transfer : MasterTransfer) → EffectStands effect transfer
    → RequestStands (current_of_effect effect) transfer
effect_heard (GoesOn next) transfer stands = stands
effect_heard (HasText text) transfer stands = stands

module _ (limit : ℕ) (od : List ℕ) where
  abbrev Preserved : Purpose → Type 0
  Preserved exchange = (current : Option Current) (transfer : MasterTransfer)
      → RequestStands current transfer
      → RequestStands (current_after exchange limit od current) transfer

  enable_preserved : Preserved for.EnableOutput
  enable_preserved None transfer stands = stands
  enable_preserved (Some current) transfer stands = stands

  drop_preserved : Preserved for.DropOutput
  drop_preserved None transfer stands = stands
  drop_preserved (Some current) transfer stands = stands

  read_preserved : Preserved for.ReadEvent
  read_preserved None transfer stands = stands
  read_preserved (Some current) transfer stands = stands

  confirm_preserved : Preserved for.ConfirmEvents
  confirm_preserved None transfer stands = stands
  confirm_preserved (Some current) transfer stands = stands

  check_preserved : Preserved for.CheckEvents
  check_preserved None transfer stands = stands
  check_preserved (Some current) transfer stands = stands

  abort_left : (current : Option Current) → current_after for.Abort limit od current ≡ None
  abort_left None = refl
  abort_left (Some current) = refl

-- Both

module _ (layouts : Layouts) (limit : ℕ) (m : MasterState) (message : MasterMsg) (reply : Reply)
    (so_far : ReadingProgress)
  where
    abbrev HeardFor : Purpose → Option Current → Type 0
    HeardFor exchange current = (reads : Reading) × (transfer : MasterTransfer)
        × Hears m message reply reads transfer
        × (reads ≡ watched_reading (reading_after_exchange exchange reply.od.items so_far))
        × RequestStands (current_after exchange limit reply.od.items current) transfer

    heard_for : (exchange : Purpose) (current : Option Current) → m.phase ≡ Operate layouts
        → m.events.reading ≡ reading_out exchange so_far → reads_well exchange so_far ≡ true
        → head_of message.mc ≡ head_for exchange so_far current
        → TransferOut exchange current m.transfer → HeardFor exchange current
    heard_for for.EnableOutput current phase is well head out = (
      m.events.reading,
      m.transfer,
      page_heard m message reply layouts phase (ap (λ (h : Head). h.read) head)
          (ap (λ (h : Head). h.channel) head),
      is,
      enable_preserved limit reply.od.items current m.transfer out,
    )
    heard_for for.DropOutput current phase is well head out = (
      m.events.reading,
      m.transfer,
      page_heard m message reply layouts phase (ap (λ (h : Head). h.read) head)
          (ap (λ (h : Head). h.channel) head),
      is,
      drop_preserved limit reply.od.items current m.transfer out,
    )
    heard_for for.Abort current phase is well head out = (
      m.events.reading,
      transfer_after_reply m.transfer reply.od.items,
      answer_heard m message reply (ap (λ (h : Head). h.read) head)
          (ap (λ (h : Head). h.channel) head),
      is,
      rw (abort_left limit reply.od.items current, out) refl,
    )
    heard_for for.ReadEvent current phase is well head out = (
      reading_after_reply true (slice_index reply.od.items 0) m.events.reading,
      m.transfer,
      event_heard m message reply (ap (λ (h : Head). h.read) head)
          (ap (λ (h : Head). h.channel) head),
      ap (reading_after_reply true (slice_index reply.od.items 0)) is
          ∙ reading_is so_far reply.od.items well,
      read_preserved limit reply.od.items current m.transfer out,
    )
    heard_for for.ConfirmEvents current phase is well head out = (
      readings.Resting,
      m.transfer,
      confirm_heard m message reply (ap (λ (h : Head). h.read) head)
          (ap (λ (h : Head). h.channel) head),
      refl,
      confirm_preserved limit reply.od.items current m.transfer out,
    )
    heard_for for.CheckEvents current phase is well head out = (
      reading_after_reply true (slice_index reply.od.items 0) m.events.reading,
      m.transfer,
      event_heard m message reply (ap (λ (h : Head). h.read) head)
          (ap (λ (h : Head). h.channel) head),
      ap (reading_after_reply true (slice_index reply.od.items 0)) is
          ∙ check_is so_far (slice_index reply.od.items 0) well,
      check_preserved limit reply.od.items current m.transfer out,
    )
    heard_for for.Request None phase is well head out = absurd out
    heard_for for.Request (Some current) phase is well head out = (
      m.events.reading,
      request_heard current.progress m.transfer reply.od.items,
      request_heard_is m message reply current.progress head,
      is,
      effect_heard (effect_of_reply limit reply.od.items current)
          (request_heard current.progress m.transfer reply.od.items)
          (reply_stands current m.transfer limit reply.od.items out),
    )
    heard_for for.Idle current phase is well head out = (
      m.events.reading,
      transfer_after_reply m.transfer reply.od.items,
      answer_heard m message reply (ap (λ (h : Head). h.read) head)
          (ap (λ (h : Head). h.channel) head),
      is,
      rw (out.1, out.0) refl,
    )

-- The whole reply

acknowledged_after : (exchange : Purpose) (acknowledged : Bool) (s : SessionState)
    → s.output.acknowledged ≡ acknowledged
    → (output_after exchange s.output).acknowledged ≡ valid_out exchange acknowledged
acknowledged_after exchange acknowledged s is = grind (arith, is)

carried_after : (exchange : Purpose) (s : SessionState)
    → (output_after exchange s.output).carried ≡ s.output.carried
carried_after exchange s = grind arith

knows_after : (layouts : Layouts) (exchange : Purpose) (limit : ℕ) (od : List ℕ)
    (current : Option Current) → IfSome current (λ c. layouts.isdu ≡ true)
    → IfSome (current_after exchange limit od current) (λ c. layouts.isdu ≡ true)
knows_after layouts exchange limit od None knows = tt
knows_after layouts exchange limit od (Some current) knows = by (current_after exchange limit od
    (Some current))
  where
    by : (after : Option Current) → IfSome after (λ c. layouts.isdu ≡ true)
    by None = tt
    by (Some after) = knows

pub reply_rests : (layouts : Layouts) (sent : Sending) (exchange : Purpose) (s : SessionState)
    (m : MasterState) (reply : Reply) → OperateOut layouts sent exchange s m
    → OperateRests layouts (session_after_exchange exchange reply s)
    (master_after_reply m sent.message reply)
reply_rests layouts sent exchange s m reply out =
    let heard = heard_for layouts s.limit m sent.message reply s.events.reading exchange s.current
    out.phase out.reading out.reads out.head out.request in
    subst (OperateRests layouts (session_after_exchange exchange reply s)) (sym heard.2) (record {
      page = record {
        are = out.page.are;
        layout = out.page.layout;
        isdu = out.page.isdu;
        knows = knows_after layouts exchange s.limit reply.od.items s.current out.page.knows;
      };
      phase = out.phase;
      out = refl;
      free = refl;
      output = record {
        allowed = rw (carried_after exchange s) out.output.allowed;
        valid_is = out.output.valid_is
            ∙ sym (acknowledged_after exchange s.output.acknowledged s refl);
      };
      flag = refl;
      reading = heard.3;
      request = heard.4;
    })
