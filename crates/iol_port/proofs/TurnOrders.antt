-- what comes of the order of a turn's steps
-- For the clauses of `laws::turns_rule_out`.
use Rattle.std.proofs.Common.{◌≡◌, ◌≢◌, ◌⊎◌, inl, inr, ◌∷◌, ◌++◌, [], List, filter, ℕ, length, true, false, Some, None, refl, sym, ◌∙◌, ap, arith, subst, Option}
use Rattle.std.proofs.lemmas.Grind.{common_steps}
use Rattle.std.proofs.lemmas.List.Folds.{list_all-append}
use Rattle.std.specs.Prelude.{Bool, IsTrue, IfSome}
use Rattle.std.specs.List.{list_all}
use Rattle.iol_event.specs.declared.event.Event.{Event}
use Rattle.iol_app.specs.declared.mode.Mode.{Mode}
use Rattle.iol_app.specs.declared.mode.Mode.TheVariants.{Down, Startup, Preoperate, Operate}
use Rattle.iol_app.specs.Abstract.Steps.{PortStep, Redeliver, Confirm, Unreport, PowerLoss, OutputOn, OutputOff, ShowImage, DropImage, Busy, Done, Report, Unknown, Move, Start, Reset, PageRead, WireCall, Woke, Exchanged, Moment, CallFits, silence_by, is_report, input_length, through_steps, MayAll, is_right}
use Rattle.iol_app.specs.Abstract.Session.{Session, session_after}
use Rattle.iol_app.specs.Abstract.Events.{Frozen, MayFrozen, frozen_after}
use Rattle.iol_app.specs.Abstract.Images.{Images, MayImages, images_after, page_after_wire_call}
use Rattle.iol_app.specs.Abstract.Turn.{is_own_step, is_handing, is_output_then, is_hearing, wake_brings, loss_brings, startup_brings, preoperate_brings, operate_brings, may_bring, IsInOrder, IsPageRead}
use Rattle.iol_port.specs.Steps.{queued_after}
use Rattle.iol_port.specs.Run.{PortState, SendOf, ReceiveOf, is_sending_step, moment_by}
use Rattle.iol_port.specs.Promises.{EventsAreRead, NoneIsSwallowed, AsleepAnswersNothing, ImagesHaveLength, StartsByPage, WrongPagesStayUnread}
use Rattle.iol_app.proofs.Parts.{through_steps-append}
use Rattle.iol_port.proofs.PieceLemmas.{sending_mode}

-- The device's part

abbrev is_far_step : PortStep → Bool
is_far_step Redeliver = true
is_far_step Confirm = true
is_far_step OutputOn = true
is_far_step OutputOff = true
is_far_step step = is_own_step step

abbrev AreFar : List PortStep → Type 0
AreFar steps = list_all is_far_step steps ≡ true

own_far : (steps : List PortStep) → IsTrue (list_all is_own_step steps) → AreFar steps
own_far [] h = refl
own_far (step ∷ steps) h = grind (arith, common_steps, own_far steps)

handing_far : (steps : List PortStep) → IsTrue (is_handing steps) → AreFar steps
handing_far [] h = refl
handing_far (Redeliver ∷ []) h = refl
handing_far steps h = absurd (cc)

output_far : (steps : List PortStep) → IsTrue (is_output_then steps) → AreFar steps
output_far (OutputOn ∷ steps) h = handing_far steps h
output_far (OutputOff ∷ steps) h = handing_far steps h
output_far steps h = absurd (cc)

hearing_far : (mode : Mode) (steps : List PortStep) → IsTrue (is_hearing mode steps)
    → AreFar steps
hearing_far mode [] h = refl
hearing_far mode (step ∷ steps) h =
    grind (arith, common_steps, output_far steps, output_far (step ∷ steps))

-- it reports nothing, and leaves the mode and the page that was read
far_queued : (steps : List PortStep) (queued : List Event) → AreFar steps
    → through_steps queued_after steps queued ≡ queued
far_queued [] queued h = refl
far_queued (step ∷ steps) queued h = grind (arith, common_steps, far_queued steps)

far_mode : (steps : List PortStep) (s : Session) → AreFar steps
    → (through_steps session_after steps s).mode ≡ s.mode
far_mode [] s h = refl
far_mode (step ∷ steps) s h =
    grind (arith, common_steps, far_mode steps (session_after step s))

far_page : (m : Moment) (steps : List PortStep) (i : Images) → AreFar steps
    → (through_steps (images_after m) steps i).page ≡ i.page
far_page m [] i h = refl
far_page m (step ∷ steps) i h =
    grind (arith, common_steps, far_page m steps (images_after m step i))

-- and behind it what the answer brings
record InParts (mode : Mode) (call : WireCall) (steps : List PortStep) : Type 0 where
  far : List PortStep
  received : List PortStep
  is : steps ≡ far ++ received
  are_far : AreFar far
  brings : IsTrue (may_bring mode call received)

in_parts : {mode : Mode} {call : WireCall} {steps : List PortStep} → IsInOrder mode call steps
    → InParts mode call steps
in_parts {mode} o = record {
  far = o.own ++ o.heard;
  received = o.received;
  is = o.is;
  are_far = list_all-append is_far_step o.own o.heard
      ∙ (rw (own_far o.own o.by_itself, hearing_far mode o.heard o.hears) refl);
  brings = o.brings;
}

-- What the answer brings

loss_queued : (steps : List PortStep) (queued : List Event) → IsTrue (loss_brings steps)
    → through_steps queued_after steps queued ≡ queued
loss_queued [] queued h = refl
loss_queued (Unreport ∷ []) queued h = refl
loss_queued (Move mode why ∷ []) queued h = refl
loss_queued (DropImage ∷ Move mode why ∷ []) queued h = refl
loss_queued (Unknown cause ∷ DropImage ∷ Move mode why ∷ []) queued h = refl
loss_queued steps queued h = grind (arith, common_steps)

wake_queued : (answered : Bool) (steps : List PortStep) (queued : List Event)
    → IsTrue (wake_brings answered steps) → through_steps queued_after steps queued ≡ queued
wake_queued answered (Move mode why ∷ []) queued h = refl
wake_queued answered (Start ∷ []) queued h = refl
wake_queued answered (Reset ∷ []) queued h = refl
wake_queued answered steps queued h = grind (arith, common_steps)

startup_queued : (steps : List PortStep) (queued : List Event) → IsTrue (startup_brings steps)
    → through_steps queued_after steps queued ≡ queued
startup_queued [] queued h = refl
startup_queued (step ∷ []) queued h = grind (arith, common_steps)
startup_queued steps queued h = grind (arith, common_steps)

preoperate_queued : (steps : List PortStep) (queued : List Event) → IsTrue (preoperate_brings steps)
    → through_steps queued_after steps queued ≡ queued
preoperate_queued [] queued h = refl
preoperate_queued (step ∷ []) queued h = grind (arith, common_steps)
preoperate_queued steps queued h = grind (arith, common_steps)

-- in OPERATE it may report
abbrev ReportedOf : List PortStep → List Event → Type 0
ReportedOf steps queued = (events : List Event) × (filter is_report steps ≡ Report events ∷ [])
    × (through_steps queued_after steps queued ≡ queued ++ events)

operate_queued : (steps : List PortStep) (queued : List Event) → IsTrue (operate_brings steps)
    → (through_steps queued_after steps queued ≡ queued) ⊎ ReportedOf steps queued
operate_queued (ShowImage ∷ []) queued h = inl refl
operate_queued (Busy ∷ ShowImage ∷ []) queued h = inl refl
operate_queued (Done answer ∷ ShowImage ∷ []) queued h = inl refl
operate_queued (Unknown cause ∷ ShowImage ∷ []) queued h = inl refl
operate_queued (Report events ∷ ShowImage ∷ []) queued h = inr (events, refl, refl)
operate_queued (step ∷ ShowImage ∷ []) queued h = absurd (cc)
operate_queued steps queued h = absurd (cc)

received_queued : (mode : Mode) (call : WireCall) (steps : List PortStep) (queued : List Event)
    → IsTrue (may_bring mode call steps) → (through_steps queued_after steps queued ≡ queued)
    ⊎ ((mode ≡ Operate) × (call ≡ Exchanged true) × ReportedOf steps queued)
received_queued Down (Woke answered) steps queued h = inl (wake_queued answered steps queued h)
received_queued Startup (Exchanged true) steps queued h = inl (startup_queued steps queued h)
received_queued Preoperate (Exchanged true) steps queued h = inl (preoperate_queued steps queued h)
received_queued Operate (Exchanged true) steps queued h = elim (operate_queued steps queued h) [
  | inl same ↦ inl same
  | inr more ↦ inr (refl, refl, more)
]
received_queued Down (Exchanged false) steps queued h = inl (loss_queued steps queued h)
received_queued Startup (Exchanged false) steps queued h = inl (loss_queued steps queued h)
received_queued Preoperate (Exchanged false) steps queued h = inl (loss_queued steps queued h)
received_queued Operate (Exchanged false) steps queued h = inl (loss_queued steps queued h)
received_queued mode call steps queued h = absurd (cc)

-- what goes out leaves the mode
sent_mode : {a m : PortState} → SendOf a m → m.session.mode ≡ a.session.mode
sent_mode {a} s = ap (λ (x : Session). x.mode) (sym (s.session (Exchanged true)).1)
    ∙ sending_mode s.steps a.session s.only

-- the device's part reports nothing
far_reports : (steps more : List PortStep) → AreFar steps
    → filter is_report (steps ++ more) ≡ filter is_report more
far_reports [] more h = refl
far_reports (step ∷ steps) more h = grind (arith, common_steps, far_reports steps more)

pub events_are_read : EventsAreRead
events_are_read a b (m, s, r) =
    let o = in_parts r.all.order in
    let same : through_steps queued_after o.received m.queued ≡ b.queued =
    ap (through_steps queued_after o.received) (sym (far_queued o.far m.queued o.are_far))
    ∙ sym (through_steps-append queued_after o.far o.received m.queued)
    ∙ (rw o.is at r.events.queued) in
    elim (received_queued m.session.mode r.turn.call o.received m.queued o.brings) [
      | inl quiet ↦ inl (sym same ∙ quiet ∙ s.queued)
      | inr (up, replied, (events, reports, more)) ↦ inr (
        sym (sent_mode s) ∙ up,
        r.all.silence ∙ ap (λ (c : WireCall). silence_by c m.silence) replied,
        (
          events,
          sym s.frozen ∙ r.events.was_frozen events
              (ap (filter is_report) o.is ∙ far_reports o.far o.received o.are_far ∙ reports),
          sym same ∙ more ∙ ap (λ (queued : List Event). queued ++ events) s.queued,
        ),
      )
    ]

-- Asleep

-- a turn of a port that isn't down has no wake
unwoken : (mode : Mode) (call : WireCall) → mode ≢ Down → CallFits mode call → CallFits Down call
    → ⊥
unwoken mode (Woke answered) up fits woken = up (only_down mode answered fits)
  where
    only_down : (mode : Mode) (answered : Bool) → CallFits mode (Woke answered) → mode ≡ Down
    only_down Down answered fits = refl
    only_down mode answered fits = absurd fits
unwoken mode (Exchanged replied) up fits woken = woken

-- behind a power cycle a device hears no message
asleep_stays : (m : Moment) (steps : List PortStep) (i : Images) → (CallFits Down m.call → ⊥)
    → AreFar steps → MayAll (MayImages m) (images_after m) steps i → i.awake ≡ false
    → (through_steps (images_after m) steps i).awake ≡ false
asleep_stays m [] i no_wake h may off = off
asleep_stays m (OutputOn ∷ steps) i no_wake h may off = absurd (cc (may.0, off))
asleep_stays m (OutputOff ∷ steps) i no_wake h may off = absurd (elim may.0 [
  | inl up ↦ cc (up, off)
  | inr woken ↦ no_wake woken
])
asleep_stays m (step ∷ steps) i no_wake h may off =
    grind (arith, common_steps, asleep_stays m steps (images_after m step i) no_wake)

-- What is frozen, and not reported yet

abbrev unreported : List Event → Option Frozen
unreported events = Some (record { events = events; reported = false })

abbrev reported : List Event → Option Frozen
reported events = Some (record { events = events; reported = true })

abbrev events_of : Option Frozen → List Event
events_of None = []
events_of (Some frozen) = frozen.events

abbrev MayFreeze : List PortStep → Option Frozen → Type 0
MayFreeze steps f = MayAll MayFrozen frozen_after steps f

far_frozen : (m : Moment) (steps : List PortStep) (events : List Event) (i : Images)
    → (CallFits Down m.call → ⊥) → AreFar steps → MayAll (MayImages m) (images_after m) steps i
    → (through_steps (images_after m) steps i).awake ≡ true → MayFreeze steps (unreported events)
    → through_steps frozen_after steps (unreported events) ≡ unreported events
far_frozen m [] events i no_wake h shows up may = refl
far_frozen m (PowerLoss ∷ steps) events i no_wake h shows up may =
    absurd (let off = asleep_stays m steps (images_after m PowerLoss i) no_wake h shows.1
    refl in cc)
far_frozen m (step ∷ steps) events i no_wake h shows up may =
    grind (arith, common_steps, far_frozen m steps events (images_after m step i) no_wake)

freezes_behind : (xs ys : List PortStep) (f : Option Frozen) → MayFreeze (xs ++ ys) f
    → MayFreeze ys (through_steps frozen_after xs f) × MayFreeze xs f
freezes_behind [] ys f may = (may, tt)
freezes_behind (x ∷ xs) ys f may =
    let (behind, first) = freezes_behind xs ys (frozen_after x f) may.1 in
    (behind, (may.0, first))

abbrev Stays : List PortStep → List Event → List Event → Type 0
Stays steps events queued =
    (through_steps frozen_after steps (unreported events) ≡ unreported events)
    ⊎ ((through_steps frozen_after steps (unreported events) ≡ reported events)
    × (through_steps queued_after steps queued ≡ queued ++ events))

received_frozen : (mode : Mode) (steps : List PortStep) (events queued : List Event)
    → IsTrue (may_bring mode (Exchanged true) steps) → MayFreeze steps (unreported events)
    → Stays steps events queued
received_frozen Startup [] events queued h may = inl refl
received_frozen Startup (Reset ∷ []) events queued h may = inl refl
received_frozen Startup (PageRead ∷ []) events queued h may = inl refl
received_frozen Startup (Move mode why ∷ []) events queued h may = inl refl
received_frozen Preoperate [] events queued h may = inl refl
received_frozen Preoperate (Move mode why ∷ []) events queued h may = inl refl
received_frozen Operate (ShowImage ∷ []) events queued h may = inl refl
received_frozen Operate (Busy ∷ ShowImage ∷ []) events queued h may = inl refl
received_frozen Operate (Done answer ∷ ShowImage ∷ []) events queued h may = inl refl
received_frozen Operate (Unknown cause ∷ ShowImage ∷ []) events queued h may = inl refl
received_frozen Operate (Report others ∷ ShowImage ∷ []) events queued h (is, rest) =
    let same : events ≡ others = ap events_of is in inr (rw same refl, rw same refl)
received_frozen Operate (step ∷ ShowImage ∷ []) events queued h may = absurd (cc)
received_frozen mode steps events queued h may = absurd (cc)

replied_brings : (mode : Mode) (call : WireCall) (steps : List PortStep) → call ≡ Exchanged true
    → IsTrue (may_bring mode call steps) → IsTrue (may_bring mode (Exchanged true) steps)
replied_brings mode call steps replied brings = rw replied at brings

replied_call : (mode : Mode) (call : WireCall) (n n' : ℕ) → mode ≢ Down → CallFits mode call
    → n' ≡ silence_by call n → n' ≡ 0 → call ≡ Exchanged true
replied_call Down call n n' up fits is quiet = absurd (up refl)
replied_call mode call n n' up fits is quiet = grind (arith, common_steps)

-- what the answer to an exchange brings leaves the device awake or not
good_awake : (m : Moment) (mode : Mode) (steps : List PortStep) (i : Images)
    → IsTrue (may_bring mode (Exchanged true) steps)
    → (through_steps (images_after m) steps i).awake ≡ i.awake
good_awake m Startup [] i h = refl
good_awake m Startup (Reset ∷ []) i h = refl
good_awake m Startup (PageRead ∷ []) i h = refl
good_awake m Startup (Move mode why ∷ []) i h = refl
good_awake m Preoperate [] i h = refl
good_awake m Preoperate (Move mode why ∷ []) i h = refl
good_awake m Operate (ShowImage ∷ []) i h = refl
good_awake m Operate (Busy ∷ ShowImage ∷ []) i h = refl
good_awake m Operate (Done answer ∷ ShowImage ∷ []) i h = refl
good_awake m Operate (Unknown cause ∷ ShowImage ∷ []) i h = refl
good_awake m Operate (Report events ∷ ShowImage ∷ []) i h = refl
good_awake m Operate (step ∷ ShowImage ∷ []) i h = absurd (cc)
good_awake m mode steps i h = absurd (cc)

bad_awake : (m : Moment) (steps : List PortStep) (i : Images) → IsTrue (loss_brings steps)
    → (through_steps (images_after m) steps i).awake ≡ i.awake
bad_awake m [] i h = refl
bad_awake m (Unreport ∷ []) i h = refl
bad_awake m (Move mode why ∷ []) i h = refl
bad_awake m (DropImage ∷ Move mode why ∷ []) i h = refl
bad_awake m (Unknown cause ∷ DropImage ∷ Move mode why ∷ []) i h = refl
bad_awake m steps i h = grind (arith, common_steps)

received_awake : (m : Moment) (mode : Mode) (call : WireCall) (steps : List PortStep) (i : Images)
    → mode ≢ Down → CallFits mode call → IsTrue (may_bring mode call steps)
    → (through_steps (images_after m) steps i).awake ≡ i.awake
received_awake m mode (Exchanged true) steps i up fits h = good_awake m mode steps i h
received_awake m Startup (Exchanged false) steps i up fits h = bad_awake m steps i h
received_awake m Preoperate (Exchanged false) steps i up fits h = bad_awake m steps i h
received_awake m Operate (Exchanged false) steps i up fits h = bad_awake m steps i h
received_awake m Down call steps i up fits h = absurd (up refl)
received_awake m mode call steps i up fits h = absurd fits

may_before : (m : Moment) (xs ys : List PortStep) (i : Images)
    → MayAll (MayImages m) (images_after m) (xs ++ ys) i
    → MayAll (MayImages m) (images_after m) xs i
may_before m [] ys i may = tt
may_before m (x ∷ xs) ys i may = (may.0, may_before m xs ys (images_after m x i) may.1)

-- so that the device is awake behind a turn as it was behind its own part
awake_behind : {m b : PortState} (r : ReceiveOf m b) → m.session.mode ≢ Down
    → b.images.awake
    ≡ (through_steps (images_after (moment_by m r.turn.call)) (in_parts r.all.order).far
    m.images).awake
awake_behind {m} r up =
    let o = in_parts r.all.order in
    let at : Moment = moment_by m r.turn.call in
    ap (λ (i : Images). i.awake) (sym (rw o.is at r.images.images.1)
    ∙ through_steps-append (images_after at) o.far o.received m.images)
    ∙ received_awake at m.session.mode r.turn.call o.received
    (through_steps (images_after at) o.far m.images) up r.all.fits o.brings

pub none_is_swallowed : NoneIsSwallowed
none_is_swallowed a b (m, s, r) up quiet events frozen =
    let o = in_parts r.all.order in
    let high : m.session.mode ≢ Down = λ down. up (sym (sent_mode s) ∙ down) in
    let call : r.turn.call ≡ Exchanged true = replied_call m.session.mode r.turn.call m.silence
    b.silence high r.all.fits r.all.silence quiet in
    let was : m.frozen ≡ unreported events = s.frozen ∙ frozen in
    let (behind, first) = freezes_behind o.far o.received (unreported events)
    (rw (o.is, was) at r.events.frozen.0) in
    let at : Moment = moment_by m r.turn.call in
    let still : through_steps frozen_after o.far (unreported events) ≡ unreported events =
    far_frozen at o.far events m.images
    (unwoken m.session.mode r.turn.call high r.all.fits) o.are_far
    (may_before at o.far o.received m.images (rw o.is at r.images.images.0))
    (sym (awake_behind r high) ∙ r.images.awake call) first in
    let ends : through_steps frozen_after o.received (unreported events) ≡ b.frozen =
    ap (through_steps frozen_after o.received) (sym still)
    ∙ sym (through_steps-append frozen_after o.far o.received (unreported events))
    ∙ (rw (o.is, was) at r.events.frozen.1) in
    let keeps : through_steps queued_after o.received m.queued ≡ b.queued =
    ap (through_steps queued_after o.received) (sym (far_queued o.far m.queued o.are_far))
    ∙ sym (through_steps-append queued_after o.far o.received m.queued)
    ∙ (rw o.is at r.events.queued) in
    elim (received_frozen m.session.mode o.received events m.queued
    (replied_brings m.session.mode r.turn.call o.received call o.brings)
    (rw still at behind)) [
      | inl same ↦ inl (sym ends ∙ same ∙ sym frozen)
      | inr (ended, more) ↦ inr (
        sym ends ∙ ended,
        sym keeps ∙ more ∙ ap (λ (queued : List Event). queued ++ events) s.queued,
      )
    ]

-- what goes out leaves it awake or not
sending_awake : (m : Moment) (steps : List PortStep) (i : Images)
    → IsTrue (list_all is_sending_step steps)
    → (through_steps (images_after m) steps i).awake ≡ i.awake
sending_awake m [] i h = refl
sending_awake m (step ∷ steps) i h =
    grind (arith, common_steps, sending_awake m steps (images_after m step i))

pub asleep_answers_nothing : AsleepAnswersNothing
asleep_answers_nothing a b (m, s, r) up off =
    let o = in_parts r.all.order in
    let at : Moment = moment_by m r.turn.call in
    let high : m.session.mode ≢ Down = λ down. up (sym (sent_mode s) ∙ down) in
    let was : m.images.awake ≡ false =
    ap (λ (i : Images). i.awake) (sym (s.images (Exchanged true)).1)
    ∙ sending_awake (moment_by a (Exchanged true)) s.steps a.images s.only ∙ off in
    let asleep : b.images.awake ≡ false = awake_behind r high
    ∙ asleep_stays at o.far m.images (unwoken m.session.mode r.turn.call high r.all.fits) o.are_far
    (may_before at o.far o.received m.images (rw o.is at r.images.images.0)) was in (
      asleep,
      λ quiet.
          let call : r.turn.call ≡ Exchanged true =
          replied_call m.session.mode r.turn.call m.silence
          b.silence high r.all.fits r.all.silence quiet in
          let woken = r.images.awake call in cc,
    )

-- An image

may_behind : (m : Moment) (xs ys : List PortStep) (i : Images)
    → MayAll (MayImages m) (images_after m) (xs ++ ys) i
    → MayAll (MayImages m) (images_after m) ys (through_steps (images_after m) xs i)
may_behind m [] ys i may = may
may_behind m (x ∷ xs) ys i may = may_behind m xs ys (images_after m x i) may.1

abbrev HasLength : Moment → Images → Type 0
HasLength m i = IfSome i.image (λ image. length image ≡ input_length m.terms.page)

shown_length : (m : Moment) (steps : List PortStep) (i : Images) → IsTrue (operate_brings steps)
    → MayAll (MayImages m) (images_after m) steps i
    → HasLength m (through_steps (images_after m) steps i)
shown_length m (ShowImage ∷ []) i h ((began, quiet, has), rest) = has
shown_length m (step ∷ ShowImage ∷ []) i h (first, ((began, quiet, has), rest)) = has
shown_length m steps i h may = absurd (cc)

good_call : (mode : Mode) (call : WireCall) (n n' : ℕ) → mode ≡ Operate → CallFits mode call
    → n' ≡ silence_by call n → n' ≡ 0 → call ≡ Exchanged true
good_call mode call n n' up fits is quiet = grind (arith, common_steps)

good_brings : (mode : Mode) (call : WireCall) (steps : List PortStep) → mode ≡ Operate
    → call ≡ Exchanged true → IsTrue (may_bring mode call steps) → IsTrue (operate_brings steps)
good_brings mode call steps up good brings = rw (up, good) at brings

pub images_have_length : ImagesHaveLength
images_have_length a b (m, s, r) up quiet =
    let o = in_parts r.all.order in
    let mode : m.session.mode ≡ Operate = sent_mode s ∙ up in
    let call : r.turn.call ≡ Exchanged true = good_call m.session.mode r.turn.call m.silence
    b.silence mode r.all.fits r.all.silence quiet in
    let at : Moment = moment_by m r.turn.call in
    let between : Images = through_steps (images_after at) o.far m.images in
    let is : through_steps (images_after at) o.received between ≡ b.images =
    sym (through_steps-append (images_after at) o.far o.received m.images)
    ∙ (rw o.is at r.images.images.1) in
    subst (λ (i : Images). IfSome i.image (λ image. length image ≡ input_length b.terms.page)) is
    (rw r.all.terms (shown_length at o.received between
    (good_brings m.session.mode r.turn.call o.received mode call o.brings)
    (may_behind at o.far o.received m.images (rw o.is at r.images.images.0))))

-- A start-up

abbrev StaysOrFalls : Mode → Type 0
StaysOrFalls mode = (mode ≡ Startup) ⊎ (mode ≡ Down)

unread : (mode : Mode) (page : List ℕ) → IsPageRead mode page None → StaysOrFalls mode
unread Startup page h = inl refl
unread Down page h = inr refl
unread mode page h = absurd (cc h)

loss_mode : (steps : List PortStep) (s : Session) → IsTrue (loss_brings steps) → s.mode ≡ Startup
    → StaysOrFalls (through_steps session_after steps s).mode
loss_mode [] s h up = inl up
loss_mode (Unreport ∷ []) s h up = inl up
loss_mode (Move Down why ∷ []) s h up = inr refl
loss_mode (DropImage ∷ Move Down why ∷ []) s h up = inr refl
loss_mode (Unknown cause ∷ DropImage ∷ Move Down why ∷ []) s h up = inr refl
loss_mode steps s h up = grind (arith, common_steps)

startup_mode : (m : Moment) (steps : List PortStep) (s : Session) (i : Images)
    → IsTrue (startup_brings steps) → s.mode ≡ Startup → i.page ≡ None
    → StaysOrFalls (through_steps session_after steps s).mode
    ⊎ ((through_steps (images_after m) steps i).page ≡ None)
startup_mode m [] s i h up none = inr none
startup_mode m (Reset ∷ []) s i h up none = inl (inl refl)
startup_mode m (PageRead ∷ []) s i h up none = inl (inl up)
startup_mode m (Move mode why ∷ []) s i h up none = inr none
startup_mode m steps s i h up none = absurd (cc)

started : (m : Moment) (call : WireCall) (steps : List PortStep) (s : Session) (i : Images)
    → IsTrue (may_bring Startup call steps) → s.mode ≡ Startup → i.page ≡ None
    → StaysOrFalls (through_steps session_after steps s).mode
    ⊎ ((through_steps (images_after m) steps i).page ≡ None)
started m (Exchanged false) steps s i h up none = inl (loss_mode steps s h up)
started m (Exchanged true) steps s i h up none = startup_mode m steps s i h up none
started m call steps s i h up none = absurd (cc)

first_brings : (mode : Mode) (call : WireCall) (steps : List PortStep) → mode ≡ Startup
    → IsTrue (may_bring mode call steps) → IsTrue (may_bring Startup call steps)
first_brings mode call steps up brings = rw up at brings

-- what goes out leaves the page that was read
sending_page : (m : Moment) (steps : List PortStep) (i : Images)
    → IsTrue (list_all is_sending_step steps)
    → (through_steps (images_after m) steps i).page ≡ i.page
sending_page m [] i h = refl
sending_page m (step ∷ steps) i h =
    grind (arith, common_steps, sending_page m steps (images_after m step i))

sent_page : {a m : PortState} → SendOf a m → m.images.page ≡ a.images.page
sent_page {a} s = ap (λ (i : Images). i.page) (sym (s.images (Exchanged true)).1)
    ∙ sending_page (moment_by a (Exchanged true)) s.steps a.images s.only

pub starts_by_page : StartsByPage
starts_by_page a b (m, s, r) up none =
    let o = in_parts r.all.order in
    let at : Moment = moment_by m r.turn.call in
    let mode : m.session.mode ≡ Startup = sent_mode s ∙ up in
    let page : m.images.page ≡ None = sent_page s ∙ none in
    let s1 : Session = through_steps session_after o.far m.session in
    let i1 : Images = through_steps (images_after at) o.far m.images in
    let session : through_steps session_after o.received s1 ≡ b.session =
    sym (through_steps-append session_after o.far o.received m.session)
    ∙ (rw o.is at r.work.session.1) in
    let images : through_steps (images_after at) o.received i1 ≡ b.images =
    sym (through_steps-append (images_after at) o.far o.received m.images)
    ∙ (rw o.is at r.images.images.1) in
    let received = started at r.turn.call o.received s1 i1 (first_brings m.session.mode r.turn.call
    o.received mode o.brings) (far_mode o.far m.session o.are_far ∙ mode)
    (far_page at o.far m.images o.are_far ∙ page) in
    elim received [
      | inl left ↦ subst (λ (x : Session). StaysOrFalls x.mode) session left
      | inr still ↦ unread b.session.mode b.terms.page
          (subst (λ (read : Option (List ℕ)). IsPageRead b.session.mode b.terms.page read)
          (ap (λ (i : Images). i.page) (sym images) ∙ still) r.all.page_read)
    ]

-- the page of a wrong device

loss_page : (m : Moment) (steps : List PortStep) (i : Images) → IsTrue (loss_brings steps)
    → (through_steps (images_after m) steps i).page ≡ i.page
loss_page m [] i h = refl
loss_page m (Unreport ∷ []) i h = refl
loss_page m (Move mode why ∷ []) i h = refl
loss_page m (DropImage ∷ Move mode why ∷ []) i h = refl
loss_page m (Unknown cause ∷ DropImage ∷ Move mode why ∷ []) i h = refl
loss_page m steps i h = grind (arith, common_steps)

reset_page : (call : WireCall) (page : Option (List ℕ)) → page ≡ None
    → page_after_wire_call call page ≡ None
reset_page call page none = grind (arith, common_steps)

wrong_page : (m : Moment) (call : WireCall) (steps : List PortStep) (i : Images)
    → IsTrue (may_bring Startup call steps) → is_right m.terms ≡ false → i.page ≡ None
    → MayAll (MayImages m) (images_after m) steps i
    → (through_steps (images_after m) steps i).page ≡ None
wrong_page m (Exchanged false) steps i h wrong none may = loss_page m steps i h ∙ none
wrong_page m (Exchanged true) [] i h wrong none may = none
wrong_page m (Exchanged true) (Reset ∷ []) i h wrong none may = reset_page m.call i.page none
wrong_page m (Exchanged true) (PageRead ∷ []) i h wrong none ((began, right), rest) =
    absurd (let z : false ≡ true = sym wrong ∙ right in cc)
wrong_page m (Exchanged true) (Move mode why ∷ []) i h wrong none may = none
wrong_page m (Exchanged true) steps i h wrong none may = absurd (cc)
wrong_page m call steps i h wrong none may = absurd (cc)

pub wrong_pages_stay_unread : WrongPagesStayUnread
wrong_pages_stay_unread a b (m, s, r) up none wrong =
    let o = in_parts r.all.order in
    let at : Moment = moment_by m r.turn.call in
    let i1 : Images = through_steps (images_after at) o.far m.images in
    let images : through_steps (images_after at) o.received i1 ≡ b.images =
    sym (through_steps-append (images_after at) o.far o.received m.images)
    ∙ (rw o.is at r.images.images.1) in
    ap (λ (i : Images). i.page) (sym images)
    ∙ wrong_page at r.turn.call o.received i1 (first_brings m.session.mode r.turn.call
    o.received (sent_mode s ∙ up) o.brings) (ap is_right s.terms ∙ wrong)
    (far_page at o.far m.images o.are_far ∙ sent_page s ∙ none)
    (may_behind at o.far o.received m.images (rw o.is at r.images.images.0))
