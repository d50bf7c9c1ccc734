-- What a turn in OPERATE keeps of how both ends stand; and one exchange, whatever the mode.
-- For the clauses of `Link::exchange`, `Link::rise`, `exchange::put_instead` and 3 more.
use Rattle.std.proofs.Common.{◌≡◌, inl, inr, ℕ, ◌+◌, ◌/◌, ◌<◌, ◌≤◌, true, false, List, length, slice_index, refl, sym, ◌∙◌, ap, arith, [], Option, IsTrue}
use Rattle.std.specs.Prelude.{Some, None, bytes_eq, IfSome, IsSome}
use Rattle.std.proofs.lemmas.Bool.Decides.{nat_tests}
use Rattle.std.proofs.lemmas.Grind.{common_steps}
use Rattle.std.proofs.lemmas.Slice.Eq.{bytes_eq-Decides}
use Rattle.iol_octets.specs.CheckOctets.{type_bits}
use Rattle.iol_octets.specs.declared.check_octets.SequenceType.{SequenceType}
use Rattle.iol_octets.specs.Control.{control_of}
use Rattle.iol_mseq.specs.Shape.{Shape, IsLayout, kind_of, startup_shape}
use Rattle.iol_mseq.specs.Master.{HasMasterParts}
use Rattle.iol_mseq.specs.Texts.{master_text}
use Rattle.iol_mseq.specs.declared.master.MasterMsg.{MasterMsg}
use Rattle.iol_mseq.specs.declared.reply.Reply.{Reply}
use Rattle.iol_page.specs.declared.page.Layouts.{Layouts}
use Rattle.iol_page.specs.declared.master_command.MasterCommand.TheVariants.{DeviceOperate}
use Rattle.iol_far.specs.declared.mode.DeviceMode.{DeviceMode}
use Rattle.iol_far.specs.declared.mode.DeviceMode.TheVariants.{Operate as FarOperate}
use Rattle.iol_far.specs.Codec.{message_in}
use Rattle.iol_far.specs.Far.{Far, WaitingCommand, waits_after, mode_asked, command_in, known_mode}
use Rattle.iol_far.specs.Level.{FarLink, accepting_link, turned_link, hearings}
use Rattle.iol_far.specs.Linked.{IsLinked}
use Rattle.iol_link.specs.Attempts.{Sending, good_reply, most_attempts, attempt_of}
use Rattle.iol_link.specs.Honest.{HonestExchange}
use Rattle.iol_mode.specs.Messages.{command_message, stays, stays_by}
use Rattle.iol_page.specs.Page.{AreLayouts, IsPlain}
use Rattle.iol_mode.specs.States.{operate_by, OperateFits, sending_after_try, NextMode, OutFits, StateFits, Takes, is_starting, sending_of, outcome_with}
use Rattle.iol_mode.specs.Stands.{entering_link, operate_link, IsOperating, AreReadFrom, IsAccepted, OperateStands, entering_mode, entering_layout, StateStands, OutcomeStands}
use Rattle.iol_mode.specs.Turns.{IsMet, IsEnd, IsOperateTurn, IsStartTurn, IsStartTried, IsExchange}
use Rattle.iol_mode.specs.Laws.{Laws}
use Rattle.iol_mode.proofs.Controls.{write_parts}
use Rattle.iol_mode.proofs.Outs.{entering_is, layout_read_from, missed_by, out_text, outcome_state}
use Rattle.arrayvec.specs.ArrayVec.{ArrayVec}
use Rattle.iol_far.specs.Octets.{octets_in}
use Rattle.iol_link.specs.declared.handler.Attempt.{Attempt}
use Rattle.iol_link.specs.WireFacts.{WireFacts, Passes}
use Rattle.iol_mode.specs.declared.configuration.Configuration.{Configuration}
use Rattle.iol_mode.specs.declared.configuration.Devices.TheVariants.{Own}
use Rattle.iol_mode.specs.Kinds.{IsHonestFor}
use Rattle.iol_mode.specs.declared.states.State.{State}
use Rattle.iol_mode.specs.declared.states.State.TheVariants.{Down as AtDown, Startup as AtStartup, Preoperate as AtPreoperate, Operate as AtOperate}
use Rattle.iol_mode.specs.Exchanges.{IsSending, AreFew, state_with_out, instead, putting_instead, mode_after_reply, judged_out, OutGives, StateGives, ExchangeGives, StandsOn, OutAccepted, AcceptedBy, IsExchanged}
use Rattle.iol_mode.proofs.Startups.{preoperate_risen, startup_risen}

bytes_of : (xs ys : List ℕ) → bytes_eq xs ys ≡ true → xs ≡ ys
bytes_of xs ys same = grind (arith, common_steps, bytes_eq-Decides xs ys)

-- Octets that are well-formed in two layouts

-- what is known of octets that spell a message; a write alone has all on-request data
record IsSpelled (layout : Shape) (o : List ℕ) (m : MasterMsg) : Type 0 where
  pub kind : slice_index o 1 / 64 ≡ type_bits layout.kind
  pub size : slice_index o 0 < 128 → length o ≡ 2 + layout.pd_out + layout.od
  pub control : m.mc ≡ control_of (slice_index o 0)

spelled : (layout : Shape) (o : List ℕ) (m : MasterMsg) → message_in layout o ≡ Some m
    → IsSpelled layout o m
unfolding message_in
spelled layout o m e = grind (arith, nat_tests, common_steps)

-- a kind without process data is that of no layout with it
no_data : (kind : SequenceType) (od od' pd_in pd_out : ℕ) → kind ≡ kind_of od 0 0
    → kind ≡ kind_of od' pd_in pd_out → pd_in + pd_out ≡ 0
no_data kind od od' pd_in pd_out plain other = grind (arith, nat_tests, common_steps)

-- the two bits say the M-sequence type
one_type : (k l : SequenceType) → type_bits k ≡ type_bits l → k ≡ l
one_type k l same = grind (arith, common_steps)

-- where one write is well-formed in a layout without process data and in another, these are one
one_layout : {pre run : Shape} {o : List ℕ} {d m : MasterMsg} → IsPlain pre → IsLayout run
    → slice_index o 0 < 128 → IsSpelled pre o d → IsSpelled run o m → pre ≡ run
one_layout {pre = pre} {run = run} plain valid write d m =
    let size = d.size write in
    let size' = m.size write in
    let same : pre.kind ≡ run.kind = one_type pre.kind run.kind (sym d.kind ∙ m.kind) in
    let none = no_data run.kind pre.od run.od run.pd_in run.pd_out
    (sym same ∙ rw (plain.pd_in, plain.pd_out) at plain.valid.kind) valid.kind in
    let out : pre.pd_out ≡ run.pd_out = omega (arith, none, plain.pd_out) in
    let input : pre.pd_in ≡ run.pd_in = omega (arith, none, plain.pd_in) in
    let od : pre.od ≡ run.od = omega (arith, size, size', out) in
    λ i. record { kind = same i; od = od i; pd_in = input i; pd_out = out i }

-- A message in OPERATE

-- a message that stays asks for no mode, or for OPERATE
staying : (P : Option DeviceMode → Type 0) → P None → P (Some FarOperate)
    → (asked : Option DeviceMode)
    → stays_by asked ≡ true → P asked
staying P none operate None e = none
staying P none operate (Some FarOperate) e = operate
staying P none operate asked e = absurd (let z : false ≡ true = e in cc)

abbrev waits_in : DeviceMode → Option WaitingCommand → FarLink
waits_in mode waits = record { mode = mode; waits = waits }

module _ (laws : Laws) {layouts : Layouts} {m : MasterMsg} (far : Far)
    (read_from : AreReadFrom layouts far)
    (proper : AreLayouts layouts) (parts : HasMasterParts layouts.run m)
    (stay : stays m ≡ true) where
  abbrev octets : List ℕ
  octets = master_text layouts.run m

  -- DeviceOperate, as it was sent
  abbrev entry : Shape
  entry = entering_layout layouts

  abbrev command : MasterMsg
  command = command_message entry DeviceOperate

  abbrev command_text : List ℕ
  command_text = master_text entry command

  -- the mode that it asks a device of this page for
  asks : (P : Option DeviceMode → Type 0) → P None → P (Some FarOperate)
      → P (known_mode far.page (mode_asked (command_in m)))
  asks P none operate = staying (λ q. P (known_mode far.page q)) none operate
      (mode_asked (command_in m)) stay

  -- in OPERATE
  run_next : {link : FarLink} → accepting_link link octets ≡ operate_link
      → IsAccepted layouts far.page link m
  run_next e = record {
    out = out_text laws proper.run parts e (layout_read_from far read_from FarOperate);
    next = inr (rw e (asks
        (λ q. waits_in FarOperate (waits_after FarOperate None octets q) ≡ operate_link) refl
        refl));
  }

  -- there the octets of DeviceOperate again have it wait on
  waits_on : octets ≡ command_text → (pre : Option Shape) →
      let waits : Option WaitingCommand =
      Some (record { into = FarOperate; octets = command_text }) in
      waits_after (entering_mode pre) waits octets (Some FarOperate) ≡ waits
  waits_on e None = rw e
  waits_on e (Some pre) = rw e

  -- where the very octets of DeviceOperate go out again, both layouts are one, and the command
  -- waits on
  run_waits : bytes_eq octets command_text ≡ true
      → IsAccepted layouts far.page (entering_link layouts) m
  unfolding control_of
  run_waits same =
      let (plain, speaks) = entering_is far read_from layouts.pre refl proper.pre in
      let e = bytes_of octets command_text same in
      let pre_spells : message_in entry octets ≡ Some command =
      rw e (laws.heard entry command
      (write_parts entry 0 0x99 plain.valid plain.pd_out (omega arith))) in
      let d = spelled entry octets command pre_spells in
      let s = spelled layouts.run octets m (laws.heard layouts.run m parts) in
      let first : slice_index octets 0 ≡ 0x20 = ap (λ (ys : List ℕ). slice_index ys 0) e in
      let one = one_layout plain proper.run (omega (arith, first)) d s in
      let taken_is : accepting_link (entering_link layouts) octets ≡ entering_link layouts =
      rw same in
      record {
        out = out_text laws proper.run parts taken_is (speaks ∙ one);
        next = inl (
          rw taken_is (ap (waits_in (entering_mode layouts.pre)) (asks (λ q. waits_after
              (entering_mode layouts.pre) (entering_link layouts).waits octets q
              ≡ (entering_link layouts).waits) refl (waits_on e layouts.pre))),
          rw (s.control ∙ sym d.control),
        );
      }

  accepted : (link : FarLink) → IsOperating layouts link → IsAccepted layouts far.page link m
  accepted link (inl e) = rw e ((elim (bytes_eq octets command_text) as (λ b.
      bytes_eq octets command_text ≡ b → IsAccepted layouts far.page (entering_link layouts) m) [
        | true ↦ λ same. run_waits same
        | false ↦ λ other. run_next (rw other)
      ]) refl)
  accepted link (inr e) = rw e (run_next refl)

-- the message that is out then is accepted
pub put_accepted : Laws → (s new : State) (far : Far) (m : MasterMsg) → new ≡ state_with_out m s
    → StateFits s → Takes s m → IsTrue (stays m) → AcceptedBy new far
put_accepted laws (AtOperate s) new far m is fits takes stay = rw is (λ read_from. (elim (s.out) as
    (λ out. OutFits s.layouts.run out → OutAccepted (Some (sending_of out m)) s.layouts far) [
      | None ↦ λ _. accepted laws far read_from fits.layouts takes stay
      | Some sent ↦ λ out. accepted laws far read_from fits.layouts out.0 out.1
    ]) fits.out)
put_accepted laws s new far m is fits takes stay = absurd takes

-- behind a message that is accepted OPERATE goes on
operating_next : {layouts : Layouts} {page : List ℕ} {link : FarLink} {m : MasterMsg}
    → IsAccepted layouts page link m
    → IsOperating layouts (turned_link page link (master_text layouts.run m) m)
operating_next at = elim (at.next) [ inl k ↦ inl k.0 | inr k ↦ inr k ]

-- Another message goes out in place of the one that is out

replaced_on : (laws : Laws) (out : Option Sending) (layouts : Layouts) (m : MasterMsg)
    → OperateFits (record { out = out; layouts = layouts })
    → StandsOn (AtOperate (record { out = out; layouts = layouts }))
    (AtOperate (record { out = instead m out; layouts = layouts }))
replaced_on laws None layouts m fits far n h = h
replaced_on laws (Some sent) layouts m fits far n h =
    let is = accepted laws far h.read_from fits.layouts fits.out.0 fits.out.1 h.link h.operating in
    elim (laws.links.replaced far.page h.link (master_text layouts.run sent.message) sent.message
    (rw is.out.accepted is.out.spells) sent.tries far h.linked (master_text layouts.run m)) [
      | inl k ↦ stands h.link h.operating k
      | inr k ↦ stands _ (operating_next is) k
    ]
  where
    -- nothing of it was heard yet
    stands : (link : FarLink) → IsOperating layouts link
        → IsLinked far.page link (master_text layouts.run m) 0 far
        → OperateStands (record { out = Some (record sent { message = m }); layouts = layouts }) n
        far
    stands link operating k = record {
      tries = h.tries;
      read_from = h.read_from;
      link = link;
      operating = operating;
      linked = elim k [
        | inl u ↦ inl u
        | inr u ↦ inr (u.0, u.1, u.2, (let few : hearings u.1 ≤ 0 = u.3 in omega arith), u.4)
      ];
    }

pub instead_stands : Laws → (s new : State) (m : MasterMsg) → new ≡ putting_instead m s
    → StateFits s → StandsOn s new
instead_stands laws (AtOperate s) new m is fits = rw is (replaced_on laws s.out s.layouts m fits)
instead_stands laws s new m is fits = rw is (λ far n stands. stands)

-- A turn

module _ {sent : Sending} {layouts : Layouts} {n n' : ℕ} {far far' : Far} {a : Option (List ℕ)}
    (laws : Laws) (fits : OperateFits (record { out = Some sent; layouts = layouts }))
    (few : sent.tries < most_attempts)
    (h : OperateStands (record { out = Some sent; layouts = layouts }) n far)
    (x : HonestExchange far n (master_text layouts.run sent.message) a far' n') where
  at : IsAccepted layouts far.page h.link sent.message
  at = accepted laws far h.read_from fits.layouts fits.out.0 fits.out.1 h.link h.operating

  read_from : AreReadFrom layouts far'
  read_from = let e = laws.device.page _ _ _ _ _ _ x in rw e h.read_from

  operate_both : (q : Option Reply) → good_reply layouts.run sent.message a ≡ q
      → IsMet (operate_by (sending_after_try sent q) layouts (attempt_of sent.tries q)) n' far'
  operate_both (Some r) good =
      let met = (laws.link.met _ _ _ _ _ _ x h.link sent.message layouts.run sent.tries at.out
      h.linked r good).at in
      let next = turned_link far.page h.link (master_text layouts.run sent.message) sent.message in
      record {
        stands = record {
          tries = omega arith;
          read_from = read_from;
          link = next;
          operating = operating_next at;
          linked = (laws.links.stays far'.page next []).begins far' met;
        };
        met = (next, operating_next at, met);
        lost = λ e. absurd (cc);
      }
  operate_both None bad =
      let missed = laws.link.missed _ _ _ _ _ _ x h.link sent.message layouts.run sent.tries at.out
      h.linked few h.tries bad in
      let more = missed.few in
      missed_by
      (λ tries attempt. IsMet (operate_by (record sent { tries = tries }) layouts attempt) n' far')
      sent.tries
      (λ two. record { stands = tt; met = tt; lost = λ _. omega (arith, two, more) })
      (record {
        stands = record {
          tries = more;
          read_from = read_from;
          link = h.link;
          operating = h.operating;
          linked = missed.linked;
        };
        met = tt;
        lost = λ e. absurd (cc);
      })

-- One exchange, whatever the mode

out_gives : (laws : Laws) (out : Option Sending) (layouts : Layouts)
    → OperateFits (record { out = out; layouts = layouts })
    → IfSome out (λ sent. sent.tries < most_attempts) → (received : Option (List ℕ))
    → ExchangeGives (AtOperate (record { out = out; layouts = layouts })) received
    (judged_out out layouts received)
out_gives laws None layouts fits few received far far' n n' h x = tt
out_gives laws (Some sent) layouts fits few received far far' n n' h x = (
  operate_both laws fits few h x (good_reply layouts.run sent.message received) refl,
  accepted laws far h.read_from fits.layouts fits.out.0 fits.out.1,
)

pub exchange_gives : Laws → (c : Configuration) (s : State) (received : Option (List ℕ))
    (outcome : NextMode) → outcome ≡ mode_after_reply c s received → StateFits s → AreFew s
    → ExchangeGives s received outcome
exchange_gives laws c (AtDown s) received outcome is fits few = λ far far' n n' h x. tt
exchange_gives laws c (AtStartup s) received outcome is fits few = λ far far' n n' h x.
    rw is (startup_risen laws c fits few h x (good_reply startup_shape s.sent.message received)
    refl)
exchange_gives laws c (AtPreoperate s) received outcome is fits few = λ far far' n n' h x.
    rw is (preoperate_risen laws fits few h x (good_reply s.pre s.sent.message received) refl)
exchange_gives laws c (AtOperate s) received outcome is fits few =
    rw is (out_gives laws s.out s.layouts fits few received)

-- both ends stand afterwards
gives_outcome : (s : State) (outcome : NextMode) (far far' : Far) (n' : ℕ) → IsSending s
    → StateGives s far outcome n' far' → OutcomeStands outcome n' far'
gives_outcome (AtDown s) outcome far far' n' sends h = absurd sends
gives_outcome (AtOperate s) outcome far far' n' sends h = (elim (s.out) as (λ out. IsSome out
    → OutGives out s.layouts far outcome n' far' → OutcomeStands outcome n' far') [
      | None ↦ λ none. absurd (cc)
      | Some sent ↦ λ _ gives. gives.0.stands
    ]) sends h
gives_outcome s outcome far far' n' sends h = h.both.stands

-- the device of a wire that sees each pulse did so before
pub saw_pulses : {W : Type 0} (facts : WireFacts W) → Laws → (wire new : W) (o : List ℕ)
    (answer : Option (ArrayVec ℕ)) → Passes facts wire o answer new
    → facts.honest new ≡ facts.honest wire → IsHonestFor facts Own new
    → IsHonestFor facts Own wire
saw_pulses facts laws wire new o answer passes honesty h =
    let up : IsTrue (facts.honest wire) = rw (← honesty) h.0 in
    (up, sym (laws.device.misses _ _ _ _ _ _ (passes up)) ∙ h.1)

module _ {W : Type 0} (facts : WireFacts W) {wire new : W} {attempt : Attempt} {s state : State}
    (called : IsExchanged facts wire s new attempt state) where
  open facts use {honest, far, silence}

  abbrev after : NextMode
  after = outcome_with attempt state

  -- what an honest wire gives
  honest_gives : (IsHonestFor facts Own wire → StateStands s (silence wire) (far wire))
      → IsHonestFor facts Own wire → StateGives s (far wire) after (silence new) (far new)
  honest_gives stood h = called.gives _ _ _ _ (stood h) (called.passes h.0)

  -- both ends stand afterwards
  pub exchange_stands : (IsHonestFor facts Own wire → StateStands s (silence wire) (far wire))
      → IsHonestFor facts Own new → StateStands state (silence new) (far new)
  exchange_stands stood h = rw outcome_state at (gives_outcome s after (far wire) (far new)
      (silence new) called.sends (honest_gives stood (called.saw h)))

  exchange_is : {layout : Shape} {message : MasterMsg} {turned : Option Reply → NextMode}
      → facts.exchange_gives wire (master_text layout message) called.answer new
      → Passes facts wire (master_text layout message) called.answer new
      → after ≡ turned (good_reply layout message (octets_in called.answer))
      → IsExchange facts wire layout message turned after new
  exchange_is gives passes is = record {
    answer = called.answer;
    called = gives;
    passes = passes;
    honesty = called.honesty;
    outcome_is = is;
    fits = rw outcome_state called.judged.fits;
  }

-- a turn of a start-up, and how its attempt ended
pub start_turn : {W : Type 0} (facts : WireFacts W) {wire new : W} {attempt : Attempt}
    {state : State}
    (s : State) (called : IsExchanged facts wire s new attempt state) → is_starting s ≡ true
    → (IsHonestFor facts Own wire → StateStands s (facts.silence wire) (facts.far wire))
    → IsStartTurn facts wire s (outcome_with attempt state) new
    × IsStartTried facts wire s attempt new
start_turn facts (AtDown s) called starts stood = absurd (let z : false ≡ true = starts in cc)
start_turn facts (AtOperate s) called starts stood = absurd (let z : false ≡ true = starts in cc)
start_turn facts s called starts stood = (
  record {
    exchange = exchange_is facts called called.called called.passes called.judged.state;
    risen = honest_gives facts called stood;
  },
  (called.answer, called.called, called.judged.attempt_is),
)

-- a turn in OPERATE, whose attempt alone says what becomes of the mode
pub operate_turn : {W : Type 0} (facts : WireFacts W) {wire new : W} {attempt : Attempt}
    {state : State} (s : State) (m : MasterMsg)
    → IsExchanged facts wire (state_with_out m s) new attempt state
    → StateFits s → Takes s m
    → (IsHonestFor facts Own wire → StateStands s (facts.silence wire) (facts.far wire))
    → StandsOn s (state_with_out m s)
    → IsOperateTurn facts wire s m (outcome_with attempt state) new
    × IsEnd attempt (outcome_with attempt state)
operate_turn facts {wire = wire} (AtOperate s) m called before takes stood on =
    let old = sending_of s.out m in
    let sent = sending_after_try old
    (good_reply s.layouts.run old.message (octets_in called.answer)) in
    let gives = honest_gives facts called
    (λ h. on (facts.far wire) (facts.silence wire) (stood h)) in (
      record {
        exchange = exchange_is facts called called.called called.passes called.judged.state;
        both = λ h. (gives h).0;
        fits = before;
        stood = stood;
        few = called.judged.few;
        accepted = λ h. (gives h).1;
      },
      (
        sent,
        s.layouts,
        called.judged.state ∙ ap (operate_by sent s.layouts) (sym called.judged.attempt_is),
      ),
    )
operate_turn facts s m called before takes stood on = absurd takes
