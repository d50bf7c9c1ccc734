-- No good reply in OPERATE: the message goes out again, or a question in its place.
-- For the clauses of `laws::ports_are_by_the_rules`.
use Rattle.std.proofs.Common.{◌≡◌, ℕ, zero, suc, ◌+◌, ◌*◌, ◌<◌, Bool, true, false, ◌&&◌, ◌==◌, if◌then◌else◌, List, length, refl, sym, ap, subst, add-one, ◌∙◌, arith}
use Rattle.std.proofs.lemmas.Bool.Decides.{nat_tests}
use Rattle.std.proofs.lemmas.Grind.{common_steps}
use Rattle.std.proofs.lemmas.Slice.Eq.{bytes_eq-Decides}
use Rattle.std.specs.Prelude.{Option, Some, None, IfSome, bytes_eq, slice_index, Ok}
use Rattle.iol_octets.specs.Control.{control_octet, control_of, channel_code}
use Rattle.iol_octets.specs.declared.control.Channel.TheVariants.{Isdu}
use Rattle.iol_mseq.specs.Master.{HasMasterParts}
use Rattle.iol_mseq.specs.Shape.{Shape}
use Rattle.iol_mseq.specs.Texts.{master_text}
use Rattle.iol_mseq.specs.declared.master.MasterMsg.{MasterMsg}
use Rattle.iol_page.specs.declared.page.Layouts.{Layouts}
use Rattle.iol_isdu.specs.declared.values.Request.{Request}
use Rattle.iol_isdu.specs.Answers.{is_read}
use Rattle.iol_segment.specs.Cut.{Cutting}
use Rattle.iol_far.specs.Codec.{flow_of}
use Rattle.iol_far.specs.Linked.{TextsAreHeard}
use Rattle.iol_link.specs.Attempts.{Sending}
use Rattle.iol_mode.specs.declared.configuration.Devices.{Devices}
use Rattle.iol_mode.specs.declared.configuration.Devices.TheVariants.{Own, Any}
use Rattle.iol_judge.specs.declared.master_phase.MasterPhase.TheVariants.{Operate}
use Rattle.iol_judge.specs.declared.master.MasterState.{MasterState}
use Rattle.iol_judge.specs.declared.master_output.CarriedOutput.TheVariants.{Last}
use Rattle.iol_judge.specs.declared.master_output.Output.{Output}
use Rattle.iol_judge.specs.declared.master_reading.Reading.TheVariants as readings
use Rattle.iol_judge.specs.declared.master_reading.MasterEvents.{MasterEvents}
use Rattle.iol_judge.specs.declared.master_transfer.MasterTransfer.{MasterTransfer}
use Rattle.iol_judge.specs.declared.master_transfer.MasterTransfer.TheVariants.{Asked, Doubted}
use Rattle.iol_judge.specs.MasterOutputs.{output_after_message}
use Rattle.iol_judge.specs.MasterReadings.{checks_instead, flagged_events}
use Rattle.iol_judge.specs.MasterTransfers.{asks_instead, transfer_after_repeat, transfer_in_doubt}
use Rattle.iol_judge.specs.Watched.{master_after_sending, master_after_repeat, master_without_reply, sent_new, sent_at, checking, left_out}
use Rattle.iol_app.specs.declared.event_work.ReadingProgress.{ReadingProgress}
use Rattle.iol_app.specs.declared.output.OutputState.{OutputState}
use Rattle.iol_app.specs.declared.request.Current.{Current}
use Rattle.iol_app.specs.declared.request.RequestProgress.{RequestProgress}
use Rattle.iol_app.specs.declared.request.RequestProgress.TheVariants.{Doubting}
use Rattle.iol_app.specs.declared.session.Purpose.{Purpose}
use Rattle.iol_app.specs.declared.session.Purpose.TheVariants as for
use Rattle.iol_app.specs.Messages.{Head, head_for, progress_head, write_of, question, check}
use Rattle.iol_app.specs.Requests.{is_doubting, is_whole_out}
use Rattle.iol_app.specs.State.{SessionState, checks_by, doubts_by, message_repeated, missed_by, missed_in, checking_in}
use Rattle.iol_by_the_rules.proofs.Accepted.{missed_of, is_down, bytes_themselves, repeat_accepted, left_out_of}
use Rattle.iol_by_the_rules.proofs.Requests.{RequestOut, repeat_stands, noted_out, still_out, doubted_out}
use Rattle.iol_by_the_rules.proofs.Outgoing.{sent_there}
use Rattle.iol_by_the_rules.proofs.Ties.{OperateOut, OutputStands, MayCarry, valid_out, watched_reading, reading_out, reads_well, TransferOut}

-- The octets of two messages differ where their first ones do

first_octet : (layout : Shape) (message : MasterMsg)
    → slice_index (master_text layout message) 0 ≡ control_octet message.mc
first_octet layout message = refl

other_octets : (a b : List ℕ) (x y : ℕ) → slice_index a 0 ≡ x → slice_index b 0 ≡ y
    → (x == y) ≡ false → bytes_eq a b ≡ false
other_octets a b x y first second differ =
    grind (arith, nat_tests, common_steps, bytes_eq-Decides a b)

-- how often it went out
abbrev twice_of : ℕ → Bool
twice_of zero = false
twice_of (suc tries) = true

missed_is : (tries : ℕ) (text : List ℕ)
    → missed_of (suc tries) text
    ≡ Some (record { octets = record { items = text }; twice = twice_of tries })
missed_is zero text = refl
missed_is (suc tries) text = refl

-- The same output goes out again

repeat_carried : (valid : Bool) (output : Output) (s : OutputState) → OutputStands valid output s
    → output_after_message output None s.carried.items
    ≡ Ok (record { carried = Last (record { items = s.carried.items }); valid = valid })
repeat_carried valid output s stands = grind (arith, stands.allowed, stands.valid_is)

pub may_carry : (valid : Bool) (output : Output) (s : OutputState) → OutputStands valid output s
    → MayCarry output s
may_carry valid output s stands = grind (arith, common_steps, stands.allowed)

-- Another message in its place

module _ (left after : MasterState) (text octets : List ℕ) (twice : Bool)
    (up : is_down left.phase ≡ false)
    (out : left.out ≡ Some (record { octets = record { items = text }; twice = twice }))
    (other : bytes_eq text octets ≡ false)
  where
    asked_after : asks_instead left.transfer text octets ≡ true → sent_new left octets ≡ Ok after
        → master_after_sending left octets
        ≡ Ok (record (left_out after octets twice) { transfer = transfer_in_doubt after.transfer })
    asked_after asks sent = grind (arith, up, out, other, asks, sent)

    checked_after : asks_instead left.transfer text octets ≡ false
        → checks_instead left.events text octets ≡ true
        → sent_new (checking left) octets ≡ Ok after
        → master_after_sending left octets ≡ Ok (record (left_out after octets twice) {
          events = record after.events { reading = readings.ConfirmDue };
        })
    checked_after asks instead sent = grind (arith, up, out, other, asks, instead, sent)

module _ (heard : TextsAreHeard) (layouts : Layouts) (m : MasterState)
    (phase : m.phase ≡ Operate layouts) (items : List ℕ)
    (size : length items ≡ layouts.run.pd_out) (valid : Bool) (s : OutputState)
    (is : s.carried.items ≡ items) (stands : OutputStands valid m.output s)
  where
    abbrev carried_repeat : Output
    carried_repeat = record { carried = Last (record { items = items }); valid = valid }

    may_carry_repeat : output_after_message m.output None items ≡ Ok carried_repeat
    may_carry_repeat = subst (λ (o : List ℕ). output_after_message m.output None o
        ≡ Ok (record { carried = Last (record { items = o }); valid = valid })) is
        (repeat_carried valid m.output s stands)

    new_of : (message : MasterMsg) → HasMasterParts layouts.run message
        → sent_new m (master_text layouts.run message) ≡ sent_at m.phase m message
    new_of message parts = grind (arith, heard layouts.run message parts, phase)

    question_new : (read : Bool) → m.transfer ≡ Asked read
        → sent_new m (master_text layouts.run (question items))
        ≡ Ok (record m { output = carried_repeat })
    unfolding control_of flow_of
    question_new read asked =
        new_of (question items) (record { out = size; od = refl })
        ∙ sent_there m layouts (question items) phase carried_repeat
        (Ok (record m { output = carried_repeat })) may_carry_repeat
        (rw asked refl)

    check_new : m.events ≡ flagged_events
        → sent_new m (master_text layouts.run (check items))
        ≡ Ok (record m { output = carried_repeat })
    unfolding control_of
    check_new due =
        new_of (check items) (record { out = size; od = refl })
        ∙ sent_there m layouts (check items) phase carried_repeat
        (Ok (record m { output = carried_repeat })) may_carry_repeat
        (rw due refl)

-- Which message goes out in its place

abbrev octet_of : Head → ℕ
octet_of h = (if h.read then 128 else 0) + 32 * channel_code h.channel + h.address

start_write : (cutter : Cutting Request) (progress : RequestProgress)
    → is_whole_out cutter progress ≡ true → progress_head progress ≡ write_of Isdu 0x10
start_write cutter progress whole = grind (arith, whole)

not_asked : (transfer : MasterTransfer) (text octets : List ℕ) (first : ℕ)
    → slice_index text 0 ≡ first → (first == 0x70) ≡ false
    → asks_instead transfer text octets ≡ false
not_asked transfer text octets first is other = grind (arith, nat_tests, is, other)

checks_due : (events : MasterEvents) (text octets : List ℕ) → events.reading ≡ readings.ConfirmDue
    → slice_index text 0 ≡ 0x40 → slice_index octets 0 ≡ 0xC0
    → checks_instead events text octets ≡ true
checks_due events text octets due first second = grind (arith, nat_tests, due, first, second)

confirm_is : (so_far : ReadingProgress) → reads_well for.ConfirmEvents so_far ≡ true
    → watched_reading so_far ≡ readings.ConfirmDue
confirm_is so_far well = grind (arith, well)

checks_for : (devices : Devices) (exchange : Purpose) → checks_by devices (Some exchange) ≡ true
    → exchange ≡ for.ConfirmEvents
checks_for devices exchange is = grind (arith, is)

doubts_for : (devices : Devices) (exchange : Purpose) (current : Option Current)
    → doubts_by devices (Some exchange) current ≡ true
    → (c : Current) × (current ≡ Some c) × (exchange ≡ for.Request)
    × ((is_whole_out c.cutter c.progress ≡ true) × (devices ≡ Any))
    × (missed_by devices (Some exchange) current
    ≡ Some (record c { progress = Doubting; repeat = false }))
doubts_for Any for.Request (Some c) is = (c, refl, refl, (is, refl), rw is refl)
doubts_for devices exchange current is = absurd (grind (arith, is))

-- The message that is out is told once more, or what stands in its place

abbrev text_of_out : Layouts → Sending → List ℕ
text_of_out layouts sent = master_text layouts.run sent.message

-- it was sent once more
abbrev pub retried : Sending → MasterMsg → Sending
retried sent message = record { message = message; tries = sent.tries + 1 }

abbrev pub MissedFair : Layouts → Sending → SessionState → MasterState → Type 0
MissedFair layouts sent s m = (exchange : Purpose) × (next : MasterState)
    × (master_after_sending m (text_of_out layouts sent) ≡ Ok next)
    × OperateOut layouts sent exchange s next

abbrev request_of_purpose : Purpose → Bool
request_of_purpose for.Request = true
request_of_purpose exchange = false

missed_other : (devices : Devices) (exchange : Purpose) (current : Option Current)
    → request_of_purpose exchange ≡ false → missed_by devices (Some exchange) current ≡ current
missed_other devices exchange current none = grind (arith, none)

missed_own : (exchange : Purpose) (current : Option Current)
    → missed_by Own (Some exchange) current ≡ current
missed_own exchange current = grind arith

-- the request's part
missed_transfer : (devices : Devices) (exchange : Purpose) (current : Option Current)
    (transfer : MasterTransfer)
    → (devices ≡ Own → IfSome current (λ c. is_doubting c.progress ≡ false))
    → doubts_by devices (Some exchange) current ≡ false → TransferOut exchange current transfer
    → TransferOut exchange (missed_by devices (Some exchange) current)
    (transfer_after_repeat transfer)
missed_transfer devices for.EnableOutput current transfer sure whole out =
    rw (missed_other devices for.EnableOutput current refl)
    (repeat_stands current transfer out)
missed_transfer devices for.DropOutput current transfer sure whole out =
    rw (missed_other devices for.DropOutput current refl)
    (repeat_stands current transfer out)
missed_transfer devices for.Abort current transfer sure whole out = rw out refl
missed_transfer devices for.ReadEvent current transfer sure whole out =
    rw (missed_other devices for.ReadEvent current refl)
    (repeat_stands current transfer out)
missed_transfer devices for.ConfirmEvents current transfer sure whole out =
    rw (missed_other devices for.ConfirmEvents current refl)
    (repeat_stands current transfer out)
missed_transfer devices for.CheckEvents current transfer sure whole out =
    rw (missed_other devices for.CheckEvents current refl)
    (repeat_stands current transfer out)
missed_transfer devices for.Request None transfer sure whole out = absurd out
missed_transfer Own for.Request (Some current) transfer sure whole out =
    still_out current transfer (sure refl) out
missed_transfer Any for.Request (Some current) transfer sure whole out =
    rw whole (noted_out current transfer out)
missed_transfer devices for.Idle current transfer sure whole out =
    rw (missed_other devices for.Idle current refl, out.0) (refl, out.1)

missed_head : (devices : Devices) (exchange : Purpose) (so_far : ReadingProgress)
    (current : Option Current) → doubts_by devices (Some exchange) current ≡ false
    → head_for exchange so_far (missed_by devices (Some exchange) current)
    ≡ head_for exchange so_far current
missed_head devices for.Request so_far None whole = grind arith
missed_head Own for.Request so_far (Some current) whole = refl
missed_head Any for.Request so_far (Some current) whole = rw whole refl
missed_head devices exchange so_far current whole = grind arith

missed_knows : (layouts : Layouts) (devices : Devices) (exchange : Purpose)
    (current : Option Current) → IfSome current (λ c. layouts.isdu ≡ true)
    → IfSome (missed_by devices (Some exchange) current) (λ c. layouts.isdu ≡ true)
missed_knows layouts devices exchange None knows = grind arith
missed_knows layouts devices exchange (Some current) knows =
    by (missed_by devices (Some exchange) (Some current))
  where
    by : (after : Option Current) → IfSome after (λ c. layouts.isdu ≡ true)
    by None = tt
    by (Some after) = knows

missed_sure : (devices : Devices) (exchange : Purpose) (current : Option Current)
    → (devices ≡ Own → IfSome current (λ c. is_doubting c.progress ≡ false))
    → devices ≡ Own
    → IfSome (missed_by devices (Some exchange) current) (λ c. is_doubting c.progress ≡ false)
missed_sure Own exchange current sure own =
    subst (λ (c : Option Current). IfSome c (λ x. is_doubting x.progress ≡ false))
    (sym (missed_own exchange current)) (sure refl)
missed_sure Any exchange current sure own = grind (arith, own)

module _ (layouts : Layouts) (sent : Sending) (exchange : Purpose) (s : SessionState)
    (m : MasterState) (out : OperateOut layouts sent exchange s m) (few : sent.tries < 2)
  where
    abbrev left : MasterState
    left = record m { out = missed_of (suc sent.tries) (text_of_out layouts sent) }

    left_is : master_without_reply m (text_of_out layouts sent) ≡ left
    left_is = left_out_of m (text_of_out layouts sent) sent.tries few out.out

    -- it goes out as it was
    same_repeated : doubts_by s.configuration.devices (Some exchange) s.current ≡ false
        → MissedFair layouts (retried sent sent.message)
        (record s { current = missed_by s.configuration.devices (Some exchange) s.current }) left
    same_repeated whole = (
      exchange,
      master_after_repeat left,
      repeat_accepted left sent.tries (text_of_out layouts sent) (ap is_down out.phase) refl,
      record {
        page = record {
          are = out.page.are;
          layout = out.page.layout;
          isdu = out.page.isdu;
          knows = missed_knows layouts s.configuration.devices exchange s.current out.page.knows;
        };
        phase = out.phase;
        few = omega arith;
        out = ap (λ n. missed_of n (text_of_out layouts sent)) (sym (add-one sent.tries));
        busy = out.busy;
        parts = out.parts;
        head = out.head
            ∙ sym (missed_head s.configuration.devices exchange s.events.reading s.current whole);
        carries = out.carries;
        output = out.output;
        reading = out.reading;
        reads = out.reads;
        request = missed_transfer s.configuration.devices exchange s.current m.transfer out.sure
            whole out.request;
        sure = missed_sure s.configuration.devices exchange s.current out.sure;
      },
    )

    size : length s.output.carried.items ≡ layouts.run.pd_out
    size = ap length (sym out.carries) ∙ out.parts.out

    octet_out : control_octet sent.message.mc
        ≡ octet_of (head_for exchange s.events.reading s.current)
    octet_out = ap octet_of out.head

    abbrev carried_output : Output
    carried_output = record {
      carried = Last (record { items = s.output.carried.items });
      valid = valid_out exchange s.output.acknowledged;
    }

    -- a question in place of the whole request
    doubt_repeated : TextsAreHeard → (current : Current) → s.current ≡ Some current
        → exchange ≡ for.Request → is_whole_out current.cutter current.progress ≡ true
        → s.configuration.devices ≡ Any
        → MissedFair layouts (retried sent (question s.output.carried.items))
        (record s { current = Some (record current { progress = Doubting; repeat = false }) }) left
    unfolding control_of
    doubt_repeated heard current is for_it whole any =
        let request : RequestOut current m.transfer =
        subst (λ (c : Option Current). TransferOut for.Request c m.transfer) is
        (subst (λ (x : Purpose). TransferOut x s.current m.transfer) for_it out.request) in
        let doubted = doubted_out current m.transfer whole request in
        let octets : List ℕ = master_text layouts.run (question s.output.carried.items) in
        let text : List ℕ = text_of_out layouts sent in
        let first : slice_index text 0 ≡ 0x70 =
        octet_out ∙ ap (λ (x : Purpose). octet_of (head_for x s.events.reading s.current)) for_it
        ∙ ap (λ (c : Option Current). octet_of (head_for for.Request s.events.reading c)) is
        ∙ ap octet_of (start_write current.cutter current.progress whole) in
        let other : bytes_eq text octets ≡ false =
        other_octets text octets 0x70 0xF0 first refl refl in
        let asks : asks_instead left.transfer text octets ≡ true =
        ap (λ (t : MasterTransfer). asks_instead t text octets) doubted.0
        ∙ ap (λ n. (n == 0x70) && true) first in
        let after : MasterState = record left { output = carried_output } in
        let resent : sent_new left octets ≡ Ok after =
        question_new heard layouts left out.phase s.output.carried.items size
        (valid_out exchange s.output.acknowledged) s.output refl out.output
        (is_read current.cutter.source) doubted.0 in
        let next : MasterState = record (left_out after octets (twice_of sent.tries)) {
          transfer = Doubted (is_read current.cutter.source);
        } in (
          for.Request,
          next,
          asked_after left after text octets (twice_of sent.tries) (ap is_down out.phase)
              (missed_is sent.tries text) other asks resent
              ∙ ap (λ (t : MasterTransfer). Ok (record (left_out after octets
              (twice_of sent.tries)) { transfer = transfer_in_doubt t })) doubted.0,
          record {
            page = record {
              are = out.page.are;
              layout = out.page.layout;
              isdu = out.page.isdu;
              knows = subst (λ (c : Option Current). IfSome c (λ x. layouts.isdu ≡ true)) is
                  out.page.knows;
            };
            phase = out.phase;
            few = omega arith;
            out = sym (missed_is sent.tries octets)
                ∙ ap (λ n. missed_of n octets) (sym (add-one sent.tries));
            busy = out.busy ∙ ap Some for_it;
            parts = record { out = size; od = refl };
            head = refl;
            carries = refl;
            output = record {
              allowed = bytes_themselves s.output.carried.items;
              valid_is = ap (λ (x : Purpose). valid_out x s.output.acknowledged) for_it;
            };
            reading = out.reading
                ∙ ap (λ (x : Purpose). reading_out x s.events.reading) for_it;
            reads = refl;
            request = doubted.1;
            sure = λ own. grind (arith, own, any);
          },
        )

    -- a read of the StatusCode in place of a confirm
    check_repeated : TextsAreHeard → exchange ≡ for.ConfirmEvents
        → MissedFair layouts (retried sent (check s.output.carried.items)) (checking_in s) left
    unfolding control_of
    check_repeated heard for_it =
        let octets : List ℕ = master_text layouts.run (check s.output.carried.items) in
        let text : List ℕ = text_of_out layouts sent in
        let first : slice_index text 0 ≡ 0x40 =
        octet_out
        ∙ ap (λ (x : Purpose). octet_of (head_for x s.events.reading s.current)) for_it in
        let other : bytes_eq text octets ≡ false =
        other_octets text octets 0x40 0xC0 first refl refl in
        let due : m.events.reading ≡ readings.ConfirmDue =
        out.reading ∙ ap (λ (x : Purpose). reading_out x s.events.reading) for_it
        ∙ confirm_is s.events.reading
        (sym (ap (λ (x : Purpose). reads_well x s.events.reading) for_it) ∙ out.reads) in
        let asks : asks_instead left.transfer text octets ≡ false =
        not_asked left.transfer text octets 0x40 first refl in
        let instead : checks_instead left.events text octets ≡ true =
        checks_due left.events text octets due first refl in
        let after : MasterState = record (checking left) { output = carried_output } in
        let resent : sent_new (checking left) octets ≡ Ok after =
        check_new heard layouts (checking left) out.phase s.output.carried.items size
        (valid_out exchange s.output.acknowledged) s.output refl out.output refl in
        let request : TransferOut for.ConfirmEvents s.current m.transfer =
        subst (λ (x : Purpose). TransferOut x s.current m.transfer) for_it out.request in (
          for.CheckEvents,
          record (left_out after octets (twice_of sent.tries)) {
            events = record after.events { reading = readings.ConfirmDue };
          },
          checked_after left after text octets (twice_of sent.tries) (ap is_down out.phase)
              (missed_is sent.tries text) other asks instead resent,
          record {
            page = record {
              are = out.page.are;
              layout = out.page.layout;
              isdu = out.page.isdu;
              knows = out.page.knows;
            };
            phase = out.phase;
            few = omega arith;
            out = sym (missed_is sent.tries octets)
                ∙ ap (λ n. missed_of n octets) (sym (add-one sent.tries));
            busy = refl;
            parts = record { out = size; od = refl };
            head = refl;
            carries = refl;
            output = record {
              allowed = bytes_themselves s.output.carried.items;
              valid_is = ap (λ (x : Purpose). valid_out x s.output.acknowledged) for_it;
            };
            reading = refl;
            reads = refl;
            request = request;
            sure = out.sure;
          },
        )

    -- each of them
    missed_by_cases : TextsAreHeard → (checking doubting : Bool)
        → checks_by s.configuration.devices (Some exchange) ≡ checking
        → doubts_by s.configuration.devices (Some exchange) s.current ≡ doubting
        → MissedFair layouts (retried sent (if checking then check s.output.carried.items
        else if doubting then question s.output.carried.items else sent.message))
        (if checking then checking_in s else record s {
          current = missed_by s.configuration.devices (Some exchange) s.current;
        }) left
    missed_by_cases heard true doubting checks_it doubts_it =
        check_repeated heard (checks_for s.configuration.devices exchange checks_it)
    missed_by_cases heard false true checks_it doubts_it =
        let it = doubts_for s.configuration.devices exchange s.current doubts_it in
        subst (λ (c : Option Current). MissedFair layouts
        (retried sent (question s.output.carried.items)) (record s { current = c }) left)
        (sym it.4)
        (doubt_repeated heard it.0 it.1 it.2 it.3.0 it.3.1)
    missed_by_cases heard false false checks_it doubts_it = same_repeated doubts_it

    missed_in_is : missed_in s
        ≡ (if checks_by s.configuration.devices (Some exchange) then checking_in s else record s {
          current = missed_by s.configuration.devices (Some exchange) s.current;
        })
    missed_in_is = ap (λ (e : Option Purpose). if checks_by s.configuration.devices e
        then checking_in s
        else record s { current = missed_by s.configuration.devices e s.current }) out.busy

    message_repeated_is : message_repeated s sent.message
        ≡ (if checks_by s.configuration.devices (Some exchange)
        then check s.output.carried.items
        else if doubts_by s.configuration.devices (Some exchange) s.current
        then question s.output.carried.items else sent.message)
    message_repeated_is = ap (λ (e : Option Purpose). if checks_by s.configuration.devices e
        then check s.output.carried.items
        else if doubts_by s.configuration.devices e s.current
        then question s.output.carried.items else sent.message) out.busy

    pub missed_fair : TextsAreHeard
        → MissedFair layouts (retried sent (message_repeated s sent.message)) (missed_in s)
        (master_without_reply m (text_of_out layouts sent))
    missed_fair heard =
        subst (MissedFair layouts (retried sent (message_repeated s sent.message)) (missed_in s))
        (sym left_is)
        (subst (λ (t : SessionState). MissedFair layouts
        (retried sent (message_repeated s sent.message)) t left) (sym missed_in_is)
        (subst (λ (message : MasterMsg). MissedFair layouts (retried sent message)
        (if checks_by s.configuration.devices (Some exchange) then checking_in s else record s {
          current = missed_by s.configuration.devices (Some exchange) s.current;
        }) left) (sym message_repeated_is)
        (missed_by_cases heard (checks_by s.configuration.devices (Some exchange))
        (doubts_by s.configuration.devices (Some exchange) s.current) refl refl)))
