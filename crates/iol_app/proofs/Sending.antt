-- A new message goes out in OPERATE.
-- For the clauses of `laws::send_gives`.
use Rattle.std.proofs.Common.{◌≡◌, ◌≢◌, ◌⊎◌, inl, inr, ⊎_elim, ℕ, ◌≤◌, Bool, true, false, List, refl, sym, ap, ◌∙◌, subst, arith}
use Rattle.std.specs.Prelude.{Option, None, IfSome, IsSome, is_some, bytes_eq, unwrap_or}
use Rattle.std.proofs.lemmas.Grind.{common_steps}
use Rattle.std.proofs.lemmas.Bool.{false_from_ne_true}
use Rattle.std.proofs.lemmas.Slice.Eq.{bytes_eq-Decides}
use Rattle.iol_octets.specs.declared.control.Channel.TheVariants.{Page}
use Rattle.iol_mseq.specs.Texts.{master_text}
use Rattle.iol_mseq.specs.declared.master.MasterMsg.{MasterMsg}
use Rattle.iol_page.specs.Page.{layouts_of}
use Rattle.iol_page.specs.declared.page.Layouts.{Layouts}
use Rattle.iol_page.specs.declared.master_command.MasterCommand.TheVariants.{DeviceOperate}
use Rattle.iol_event.specs.declared.event.Event.{Event}
use Rattle.iol_isdu.specs.declared.values.Request.{Request}
use Rattle.iol_image.specs.Image.{IsImage}
use Rattle.iol_far.specs.declared.mode.DeviceMode.TheVariants.{Operate as FarOperate}
use Rattle.iol_far.specs.Codec.{layout_in, flow_of}
use Rattle.iol_far.specs.Far.{Far}
use Rattle.iol_far.specs.Level.{Progress, Move, Begin, FarLink, accepting_link, turned_link, IsMove, IsIdle, MayBegin, IsSent}
use Rattle.iol_far.specs.Laws.{LevelLaws, ModesHaveLayouts}
use Rattle.iol_mode.specs.declared.configuration.Devices.{Devices}
use Rattle.iol_mode.specs.Messages.{command_message, new_sending}
use Rattle.iol_mode.specs.Stands.{entering_layout, entering_link, operate_link, StateStands, IsOperating, IsAccepted}
use Rattle.iol_mode.specs.States.{StateFits}
use Rattle.iol_app.specs.declared.mode.Mode.TheVariants.{Operate as ModeOperate}
use Rattle.iol_app.specs.Abstract.Steps.{ImageOctets}
use Rattle.iol_app.specs.StationState.{mode_in}
use Rattle.iol_app.specs.Abstract.Images.{image_or}
use Rattle.iol_app.specs.BothEnds.{wants_confirm, wants_octet}
use Rattle.iol_app.specs.Exchange.{output_due, acknowledged_by}
use Rattle.iol_app.specs.declared.event_work.EventRoom.{EventRoom}
use Rattle.iol_app.specs.declared.event_work.EventRoom.TheVariants.{Left}
use Rattle.iol_app.specs.declared.event_work.ReadingProgress as app
use Rattle.iol_app.specs.declared.session.Purpose.{Purpose}
use Rattle.iol_app.specs.declared.session.Purpose.TheVariants.{EnableOutput, DropOutput}
use Rattle.iol_app.specs.Due.{due_of, is_under_way, is_confirm_due, is_resting}
use Rattle.iol_app.specs.Messages.{Head, data_for}
use Rattle.iol_app.specs.declared.request.Current.{Current}
use Rattle.iol_app.specs.Requests.{aborts, is_over, IsCurrent}
use Rattle.iol_app.specs.Moves.{progress_of, move_for, confirms_events, MessagesAreMoves}
use Rattle.iol_app.specs.Outputs.{output_to_carry}
use Rattle.iol_app.specs.Ends.{OperateLink, SentFits, output_for}
use Rattle.iol_app.specs.State.{SessionState, IsSession, IsMessageFor, session_sending}
use Rattle.iol_app.proofs.DueFacts.{IsDue, due_is}
use Rattle.iol_app.proofs.OperateMessages.{enable_differs, page_command}
use Rattle.iol_app.proofs.PageReads.{read_layout}
use Rattle.iol_app.proofs.Shown.{shown_as}
use Rattle.iol_app.specs.Core.{CoreState, Ghost}
use Rattle.iol_app.specs.CoreStands.{BothEndsStand, vain_by, RepeatBy, RequestStands, EventsStand, OutputStands, work_of, reading_at, reading_in}
use Rattle.iol_app.specs.CoreGives.{ordered_output, ordered_by}
use Rattle.iol_app.specs.CoreTurns.{Sends, SendGives, core_out, free_core, made_ghost}
use Rattle.iol_app.proofs.SmallFacts.{operating, keeps_some, events_due, confirms_is, not_operate, begins_request, enables_wanted, drops_acknowledged, some_or, image_some, sent_made, same_carried}

-- which readings a confirm and a read go out for
confirm_due : (r : app.ReadingProgress) (flag : Bool) (due : Event × List Event)
    → is_confirm_due r ≡ true → wants_confirm (reading_at r flag due) ≡ true
confirm_due r flag due k = grind (arith, common_steps)

octet_due : (r : app.ReadingProgress) (flag : Bool) (room : EventRoom) (due : Event × List Event)
    → (is_under_way r ≡ true) ⊎ ((is_resting r ≡ true) × (flag ≡ true) × (room ≡ Left))
    → wants_octet (reading_at r flag due) ≡ true
octet_due r flag room due k = grind (arith, common_steps)

-- what a message asks for is what is wanted, where the command that is due goes with it
asks_wanted : (wanted : Option ImageOctets) (acked : Bool) (carried : List ℕ)
    → IfSome wanted IsImage
    → ordered_by (acknowledged_by (output_due wanted acked) acked) (unwrap_or wanted carried)
    ≡ wanted
asks_wanted wanted acked carried h = grind (arith, common_steps)

-- it was not out before
none_vain : (devices : Devices) (e : Purpose) (current : Option Current)
    → vain_by devices e current 0 ≡ 0
none_vain devices e current = grind (arith, common_steps)

not_repeated : (devices : Devices) (e : Purpose) (current : Option Current)
    → IfSome current (λ c. c.repeat ≡ false) → IfSome current (RepeatBy devices e 0)
not_repeated devices e current h = grind (arith, common_steps)

not_over : (current : Option Current) → IfSome current IsCurrent → aborts current ≡ false
    → IfSome current (λ c. is_over c.progress ≡ false)
not_over current h none = grind (arith, common_steps)

module _ (levels : (size : ℕ) → 1 ≤ size → LevelLaws size) (modes : ModesHaveLayouts)
    (moves : MessagesAreMoves)
    (layouts : Layouts) (t : SessionState) (room : EventRoom) (m : MasterMsg) (g : Ghost)
    (far : Far)
    (n : ℕ)
    (stands : BothEndsStand (free_core layouts t) g far n) (valid : IsSession t)
    (is : IsMessageFor (due_of t room) (session_sending (due_of t room) t) m)
    (carried : m.out.items ≡ output_to_carry t.output)
    (accepts : (link : FarLink) → IsOperating layouts link → IsAccepted layouts far.page link m)
  where
    abbrev e : Purpose
    e = due_of t room

    abbrev o : List ℕ
    o = master_text layouts.run m

    abbrev link : FarLink
    link = stands.request.link

    abbrev devices : Devices
    devices = t.configuration.devices

    abbrev progress : Progress
    progress = progress_of devices t.idle t.current

    due : IsDue t room e
    due = due_is t room

    od : m.od.items ≡ data_for e layouts.run.od t.current
    od = rw stands.joined.has_layouts.0 at is.octets

    at : layout_in g.page FarOperate ≡ layouts.run
    at = read_layout g.page FarOperate layouts
        (ap layouts_of (sym stands.page) ∙ stands.link.read_from)

    accepted : IsAccepted layouts g.page link m
    accepted = subst (λ (p : List ℕ). IsAccepted layouts p link m) stands.page
        (accepts link (operating layouts progress link stands.request.linked))

    -- before the first good reply in OPERATE no output is told
    unacknowledged : link ≡ entering_link layouts → t.output.acknowledged ≡ false
    unacknowledged k =
        let at_entry = rw k at (ap (λ (l : FarLink). l.mode) stands.request.level.link_is) in
        sym (stands.output.1 stands.request.level.awake refl)
        ∙ false_from_ne_true far.valid (λ v. not_operate layouts.pre
        (sym at_entry ∙ (stands.output.0 stands.request.level.awake v).0))

    -- so that no message is DeviceOperate's octets again
    is_other : link ≡ entering_link layouts → m.mc.channel ≡ Page
        → o ≡ master_text (entering_layout layouts)
        (command_message (entering_layout layouts) DeviceOperate) → ⊥
    is_other k page same =
        ⊎_elim
        (λ (tell : e ≡ EnableOutput).
        let some : IsSome t.output.wanted =
        enables_wanted t.output.wanted t.output.acknowledged
        (sym (ap output_for tell) ∙ due.output) in
        enable_differs layouts.run (entering_layout layouts) m layouts.run.od
        (rw carried (image_some t.output.wanted t.output.carried.items some stands.shown.wanted))
        (od ∙ ap (λ (x : Purpose). data_for x layouts.run.od t.current) tell) same)
        (λ (drop : e ≡ DropOutput). let z : true ≡ false =
        sym (drops_acknowledged t.output.wanted t.output.acknowledged
        (sym (ap output_for drop) ∙ due.output))
        ∙ unacknowledged k in cc)
        (page_command e t.events.reading t.current
        (sym (ap (λ (h : Head). h.channel) is.head) ∙ page))

    mode : (accepting_link link o).mode ≡ FarOperate
    mode = by_link stands.request.linked
      where
        entry : link ≡ entering_link layouts → m.mc.channel ≡ Page
            → (accepting_link (entering_link layouts) o).mode ≡ FarOperate
        entry k page =
            let command : List ℕ = master_text (entering_layout layouts)
            (command_message (entering_layout layouts) DeviceOperate) in
            rw (false_from_ne_true (bytes_eq o command)
            (λ b. is_other k page ((bytes_eq-Decides o command).0 b))) refl

        by_link : OperateLink layouts progress link → (accepting_link link o).mode ≡ FarOperate
        by_link (inr k) = rw k refl
        by_link (inl k) =
            ⊎_elim
            (λ (j : (turned_link g.page link o m ≡ entering_link layouts) × (m.mc.channel ≡ Page)).
            rw k.0 (entry k.0 j.1))
            (λ (j : turned_link g.page link o m ≡ operate_link). ap (λ (l : FarLink). l.mode) j)
            accepted.next

    there : layout_in g.page (accepting_link link o).mode ≡ layouts.run
    there = rw mode at

    still : (l : FarLink) → OperateLink layouts progress l
        → IfSome l.waits (λ command. IsIdle progress)
    still l h1 = grind (arith, common_steps)

    abbrev IsMoved : Head → List ℕ → Type 0
    IsMoved h d = IsMove layouts.run.od (move_for e t.current) progress h.channel h.read
        (flow_of h.address) d

    may_begin : (what : Move) → move_for e t.current ≡ what → MayBegin g.page what
    may_begin (Begin request) k = stands.request.known
        (ap (λ (r : Option Request). is_some r) (begins_request e t.current request k))
    may_begin _ k = tt

    goes : IsSent g.page layouts.run.od link progress o m (move_for e t.current)
    goes = record {
      spells = rw there accepted.out.spells;
      size_of = rw there refl;
      move = subst (λ (h : Head). IsMoved h m.od.items) (sym is.head)
          (rw od (moves t layouts.run e valid stands.joined.has_layouts.0));
      begins = may_begin (move_for e t.current) refl;
      idle = still link stands.request.linked;
    }

    first : vain_by devices e t.current 0 ≡ 0
    first = none_vain devices e t.current

    -- the image that it carries is the one sent
    sent : IfSome (image_or t.output.wanted g.sent) (λ image. image ≡ output_to_carry t.output)
    sent = sent_made t.output.wanted g.sent t.output.carried.items
        (rw stands.joined.has_layouts.0 at stands.sent)

    pub sends : let next : CoreState =
        core_out layouts (new_sending m) (session_sending e t) e t.current in
        StateStands next.state n far → StateFits next.state
        → SendGives (free_core layouts t) next g (made_ghost t g) far n
    sends linked fits =
        let next : CoreState = core_out layouts (new_sending m) (session_sending e t) e t.current in
        let after : Ghost = made_ghost t g in
        let request : RequestStands next.state (work_of next.session) next.session.events after
        far =
        record {
          late = stands.request.late;
          opens = stands.request.opens;
          link = link;
          linked = stands.request.linked;
          in_operate = stands.request.in_operate;
          level = rw first (((levels layouts.run.od (rw (at) at (modes g.page FarOperate).1)).stays
              g.page g.kind g.request.base link progress o).begins far stands.request.level);
          out = record {
            mode = mode;
            goes = goes;
            once = λ any k. rw first (omega arith);
            repeat = not_repeated devices e t.current stands.request.out;
            goes_on = λ k. not_over t.current valid.current (due.asks k);
            confirm = λ k. confirm_due t.events.reading t.events.flag g.events.due (due.confirm k);
            reads = λ k. octet_due t.events.reading t.events.flag room g.events.due (due.reads k);
            carries = same_carried (image_or t.output.wanted g.sent) m.out.items
                (output_to_carry t.output) carried sent;
            tells = λ k. some_or t.output.wanted g.sent
                (enables_wanted t.output.wanted t.output.acknowledged (sym k ∙ due.output));
          };
          answer = λ once. stands.request.answer refl;
          busy = stands.request.busy;
          known = stands.request.known;
        } in
        let events : EventsStand next.state next.session.exchange next.session.events after.events
        far = (
          (λ k. events_due (reading_in t.events g.events) (confirms_events e) far.events
              (λ c. confirm_due t.events.reading t.events.flag g.events.due
              (due.confirm (confirms_is e c))) (stands.events.0 k)),
          stands.events.1,
        ) in
        let output : OutputStands next.state next.session.exchange next.session.output.acknowledged
        after.sent far = (
          (λ k v. let here = stands.output.0 k v in
              (here.0, keeps_some t.output.wanted g.sent here.1)),
          (λ k none. stands.output.1 k refl),
          stands.output.2,
        ) in
        let carried_last : SentFits t.layout (output_to_carry t.output) after.sent =
        rw stands.joined.has_layouts.0 sent in
        let asks : ordered_output next.state next.session ≡ t.output.wanted =
        rw (due.output, carried) (asks_wanted t.output.wanted t.output.acknowledged
        t.output.carried.items stands.shown.wanted) in
        let image : mode_in next.state ≢ ModeOperate → t.image ≡ None = λ k. absurd (k refl) in
        let shown = shown_as {next = next} stands.shown image refl stands.shown.present
        stands.shown.no_form in
        assumption (request, events, output, carried_last, asks, is, linked, fits, shown)

pub sends_all : ((size : ℕ) → 1 ≤ size → LevelLaws size) → ModesHaveLayouts → MessagesAreMoves
    → Sends
sends_all levels modes moves = record {
  gives = λ run t room m g far n stands valid is carried linked fits accepts. sends levels
      modes moves run t room m g far n stands valid is carried accepts linked fits;
}
