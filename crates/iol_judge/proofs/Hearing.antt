-- What a state makes of octets is what the device makes of them that it stands for.
-- For the clauses of `laws::honest_lines_are_never_blamed`.
use Rattle.std.proofs.lemmas.Grind.{common_steps}
use Rattle.std.proofs.Common.{arith, ◌≡◌, ℕ, Bool, true, false, List, [], ◌∷◌, refl, sym, ◌∙◌, ap, subst, ◌⊎◌, inl, inr, ◌++◌, map}
use Rattle.std.specs.Prelude.{Option, Some, None, IfSome, Result, Ok, Err, slice_index, if◌then◌else◌, bytes_eq}
use Rattle.iol_mseq.specs.Shape.{Shape}
use Rattle.iol_page.specs.Page.{layouts_of, knows_isdu, IsAskedBy, PagesAskForLayouts}
use Rattle.iol_page.specs.declared.page.Layouts.{Layouts}
use Rattle.iol_page.specs.declared.fault.PageFault.{PageFault}
use Rattle.iol_far.specs.declared.mode.DeviceMode.{DeviceMode}
use Rattle.iol_far.specs.Codec.{layout_in, layout_by, flow_of, message_in}
use Rattle.iol_far.specs.Far.{known_mode, Far, WaitingCommand, layout_of, accepted_message, accepted_by, accepted_now, far_in_mode, far_after_message, command_in, mode_asked, waits_after, cycle_time_after, is_confirm}
use Rattle.iol_judge.specs.declared.open.Open.{Open}
use Rattle.iol_judge.specs.declared.open.Open.TheVariants.{PageRefused}
use Rattle.std.specs.Result.{result_map_both}
use Rattle.iol_judge.specs.Observed.{layouts_by, layouts_known, layouts_observed}
use Rattle.iol_judge.specs.Taking.{Taken, and_then, mode_layout, mode_known, cycle_after, state_after, taken_message}
use Rattle.iol_judge.specs.Transfers.{isdu_known, is_apart, transfer_after, transfer_in}
use Rattle.iol_judge.specs.Octets.{Agrees}
use Rattle.iol_judge.specs.Admitted.{Admits, AreAsKnown, One}
use Rattle.std.proofs.lemmas.Bool.{cond_both}
use Rattle.iol_octets.specs.Control.{control_of}
use Rattle.iol_octets.specs.declared.flow_control.Flow.{Flow}
use Rattle.iol_octets.specs.declared.control.Channel.{Channel}
use Rattle.iol_octets.specs.declared.control.Channel.TheVariants.{Isdu}
use Rattle.iol_mseq.specs.declared.master.MasterMsg.{MasterMsg}
use Rattle.iol_far.specs.declared.kind.Kind.{Kind}
use Rattle.iol_far.specs.Level.{FarLink, link_of, accepting_link, taken_by}
use Rattle.iol_judge.specs.declared.transfer.Transfer.{Transfer}
use Rattle.iol_judge.specs.declared.transfer.Transfer.TheVariants.{Quiet}
use Rattle.iol_judge.specs.Family.{admits_kind, kind_in, all_kinds, has_by, only_by, only_kind}
use Rattle.iol_judge.specs.State.{KnownState, tells_apart, all_parts, parts, parts_of, state_of_kind}
use Rattle.iol_judge.specs.Taking as take
use Rattle.iol_judge.specs.UnderWay.{HasUnderWay}
use Rattle.iol_judge.proofs.Sets.{bound, of_kinds, worked_shown}
use Rattle.iol_judge.proofs.Sending.{AllTexts, manner}
use Rattle.iol_judge.proofs.Transferring.{transfer_worked, alike_after, OneUnderWay, apart_under_way}
use Rattle.iol_far.specs.declared.kind.HandsOver.{HandsOver}
use Rattle.iol_far.specs.declared.kind.HandsOver.TheVariants.{FirstRead, LastSegment}
use Rattle.iol_far.specs.declared.kind.Recalls.{Recalls}
use Rattle.iol_far.specs.declared.kind.Recalls.TheVariants.{UntilLeft, UntilSent}

-- Layouts that are known are the device's

pub record Knows (known : Result Layouts Open) (page : List ℕ) : Type 0 where
  pub layout : (mode : DeviceMode) (layout : Shape) → mode_layout known mode ≡ Ok layout
      → layout_in page mode ≡ layout
  pub mode : (asked found : Option DeviceMode) → mode_known known asked ≡ Ok found
      → known_mode page asked ≡ found
  pub isdu : IfSome (isdu_known known) (λ there. knows_isdu page ≡ there)

asked_ok : (asked : Result Layouts PageFault) (layouts : Layouts)
    → result_map_both (λ l. l) (λ fault. PageRefused) asked ≡ Ok layouts → asked ≡ Ok layouts
asked_ok (Ok l) layouts h = let e : l ≡ layouts = cc in ap Ok e
asked_ok (Err fault) layouts h = absurd (cc)

abbrev KnownAt : List ℕ → ℕ → Option ℕ → Type 0
KnownAt page place known = IfSome known (λ octet. slice_index page place ≡ octet)

known_by : (page : List ℕ) (layouts : Layouts) (c r i o : Option ℕ) → KnownAt page 1 c
    → KnownAt page 2 r
    → KnownAt page 3 i → KnownAt page 4 o → layouts_known c r i o ≡ Ok layouts
    → layouts_of page ≡ Ok layouts
unfolding layouts_by
known_by page layouts (Some c) (Some r) (Some i) (Some o) tc tr ti to h =
    rw (tc, tr, ti, to) (asked_ok _ _ h)
known_by page layouts c r i o tc tr ti to h = absurd (cc)

observed_layouts : (observed : List (Option ℕ)) (page : List ℕ) (layouts : Layouts)
    → Agrees observed page
    → layouts_observed observed ≡ Ok layouts → layouts_of page ≡ Ok layouts
observed_layouts observed page layouts agrees h =
    known_by page _ _ _ _ _ (agrees 1) (agrees 2) (agrees 3) (agrees 4) h

layout_known : (page : List ℕ) (layouts : Layouts) → layouts_of page ≡ Ok layouts
    → (mode : DeviceMode) (layout : Shape) → mode_layout (Ok layouts) mode ≡ Ok layout
    → layout_by mode (layouts_of page) ≡ layout
layout_known page layouts asks mode layout h = grind (arith, common_steps)

mode_found : (page : List ℕ) (layouts : Layouts) → IsAskedBy page layouts
    → (asked found : Option DeviceMode) → mode_known (Ok layouts) asked ≡ Ok found
    → known_mode page asked ≡ found
mode_found page layouts asks asked found h = grind (arith, common_steps)

knows_none : (page : List ℕ) (why : Open) → Knows (Err why) page
unfolding layout_in
knows_none page why = grind (arith, common_steps)

pub knows : PagesAskForLayouts → (observed : List (Option ℕ)) (page : List ℕ) → Agrees observed page
    → Knows (layouts_observed observed) page
unfolding layout_in
knows law observed page agrees = split (layouts_observed observed) refl
  where
    split : (known : Result Layouts Open) → layouts_observed observed ≡ known → Knows known page
    split (Ok layouts) e =
        let asks : layouts_of page ≡ Ok layouts = observed_layouts observed page _ agrees e in
        let by : IsAskedBy page layouts = rw asks at (law page) in
        record {
          layout = layout_known page _ asks;
          mode = mode_found page _ by;
          isdu = sym by.isdu;
        }
    split (Err why) e = knows_none page why

-- Hearing

-- the device as it accepts the octets, if it does, by the command that waits
pub record AcceptingBy (waits : Option WaitingCommand) (far there : Far) (octets : List ℕ) : Type 0
  where
    pub link : link_of there ≡ taken_by waits (link_of far) octets
    pub page : there.page ≡ far.page
    pub kind : there.kind ≡ far.kind
    pub cycle : there.cycle_time ≡ far.cycle_time
    pub events : there.events ≡ far.events
    pub isdu : (transfer : Transfer) → HasUnderWay far transfer
        → HasUnderWay there (transfer_in waits octets transfer)
    pub awake : there.awake ≡ far.awake
    pub accepts : accepted_by waits far octets ≡ accepted_now there octets

-- of one that hears them
pub record Accepting (far there : Far) (octets : List ℕ) : Type 0 where
  pub by : AcceptingBy far.waits far there octets
  pub hears : far.awake ≡ true
  pub awake : there.awake ≡ true
  pub accepts : accepted_message far octets ≡ accepted_now there octets

accepting_by : (waits : Option WaitingCommand) (far : Far) (octets : List ℕ)
    → (there : Far) × AcceptingBy waits far there octets
accepting_by None far octets = (far, grind (arith, common_steps))
accepting_by (Some command) far octets = split (bytes_eq octets command.octets) refl
  where
    split : (b : Bool) → bytes_eq octets command.octets ≡ b
        → (there : Far) × AcceptingBy (Some command) far there octets
    split true e = (far, grind (arith, common_steps))
    split false e = (far_in_mode far command.into, grind (arith, common_steps))

pub accepting : (far : Far) (octets : List ℕ) → far.awake ≡ true
    → (there : Far) × Accepting far there octets
accepting far octets awake =
    let found = accepting_by _ far _ in (
      found.0,
      record {
        by = found.1;
        hears = awake;
        awake = found.1.awake ∙ awake;
        accepts = ap (λ (b : Bool). if b then accepted_by far.waits far octets else None) awake
            ∙ found.1.accepts;
      },
    )

-- what a state makes of octets fits what the device makes of them
unfoldable pub Fits : Far → List ℕ → Option MasterMsg → Option Taken → Type 0
Fits there octets None found = found ≡ None
Fits there octets (Some message) None = ⊥
Fits there octets (Some message) (Some found) = (found.message ≡ message)
    × (found.layout ≡ layout_of there) × Admits found.state (far_after_message there octets message)

cycle_admits : (old : ℕ) (known : Option ℕ) (channel : Channel) (read : Bool) (address octet : ℕ)
    → IfSome known (λ o. old ≡ o) → IfSome (cycle_after known channel read address octet)
    (λ o. cycle_time_after old channel read address octet ≡ o)
cycle_admits old known channel read address octet h = grind (arith, common_steps)

-- the link once the message was worked
worked_link : (there : Far) (link : FarLink) (octets : List ℕ) (asked : Option DeviceMode)
    (message : MasterMsg)
    → link_of there ≡ link → known_mode there.page (mode_asked (command_in message)) ≡ asked
    → link_of (far_after_message there octets message)
    ≡ record { mode = link.mode; waits = waits_after link.mode link.waits octets asked }
worked_link there link octets asked message at finds = rw (finds, ← at) refl

-- all devices of the state do the same on these octets, or the state is of one kind
abbrev pub Moves : KnownState → Kind → List ℕ → Type 0
Moves state kind octets = (kind_in state.kinds ≡ kind)
    ⊎ (tells_apart state (control_of (slice_index octets 0)) ≡ false)

-- the control octet of a message
pub control_is : (layout : Shape) (octets : List ℕ) (message : MasterMsg)
    → message_in layout octets ≡ Some message → message.mc ≡ control_of (slice_index octets 0)
unfolding message_in
control_is layout octets message h = grind (arith, common_steps)

-- a transfer that is dropped tells no kinds apart
quiet_alike : (channel : Channel) (read : Bool) (flow : Flow)
    → is_apart Quiet channel read flow ≡ false
quiet_alike Isdu read flow = refl
quiet_alike channel read flow = refl

in_alike : (waits : Option WaitingCommand) (octets : List ℕ) (transfer : Transfer)
    (channel : Channel) (read : Bool) (flow : Flow) → is_apart transfer channel read flow ≡ false
    → is_apart (transfer_in waits octets transfer) channel read flow ≡ false
in_alike waits octets transfer channel read flow e = grind (arith, common_steps, quiet_alike)

-- the events of a device that is awake
pub shown_awake : (state : KnownState) (far : Far) → far.awake ≡ true → Admits state far
    → AreAsKnown state.events far.events
shown_awake state far awake admits = rw awake at admits.events

-- and its transfer
pub under_way_awake : (state : KnownState) (far : Far) → far.awake ≡ true → Admits state far
    → HasUnderWay far state.transfer
under_way_awake state far awake admits = rw awake at admits.isdu

module _ (known : Result Layouts Open) (far there : Far) (octets : List ℕ) (state : KnownState)
    (texts : AllTexts) (knows : Knows known far.page) (accepting : Accepting far there octets)
    (admits : Admits state far) (moves : Moves state far.kind octets) where
  abbrev its_link : FarLink
  its_link = accepting_link state.link octets

  at : link_of there ≡ its_link
  at = accepting.by.link ∙ ap (λ (l : FarLink). accepting_link l octets) admits.link

  -- what is known of its transfer, and what is once a device of a kind worked the message
  abbrev its_transfer : Transfer
  its_transfer = transfer_in state.link.waits octets state.transfer

  abbrev moved_by : Kind → ℕ → MasterMsg → Transfer
  moved_by by size message = transfer_after by (isdu_known known) size its_transfer
      message.mc.channel message.mc.read (flow_of message.mc.address) message.od.items

  -- its transfer moves as that of a device of this kind does
  moves_alike : (size : ℕ) (message : MasterMsg) → message.mc ≡ control_of (slice_index octets 0)
      → moved_by there.kind size message ≡ moved_by (kind_in state.kinds) size message
  moves_alike size message mc = grind (arith, common_steps, alike_after, in_alike)

  transfer_after_it : (layout : Shape) (message : MasterMsg)
      → message.mc ≡ control_of (slice_index octets 0) → layout ≡ layout_of there
      → HasUnderWay (far_after_message there octets message) (if there.awake
      then (state_after known its_link state octets layout message None).transfer else Quiet)
  transfer_after_it layout message mc l =
      rw accepting.awake (rw l (rw (moves_alike (layout_of there).od message mc) at
      (transfer_worked (manner there (texts there)) (isdu_known known) (knows_isdu there.page)
      (rw accepting.by.page knows.isdu) its_transfer there.isdu message.mc.channel message.mc.read
      (flow_of message.mc.address) message.od.items (rw (← admits.link)
      (accepting.by.isdu state.transfer (under_way_awake state far accepting.hears admits))))))

  fits_asked : (layout : Shape) (message : MasterMsg) (asked : Result (Option DeviceMode) Open)
      → message.mc ≡ control_of (slice_index octets 0)
      → mode_known known (mode_asked (command_in message)) ≡ asked → layout ≡ layout_of there
      → (found : Option Taken) → and_then asked (λ mode. Ok (Some (record {
        state = state_after known its_link state octets layout message mode;
        layout = layout;
        message = message;
      }))) ≡ Ok found → Fits there octets (Some message) found
  unfolding Fits
  fits_asked layout message (Ok asked) mc e l (Some found) h =
      let is : ◌≡◌ {A = Taken} (record {
        state = state_after known its_link state octets layout message asked;
        layout = layout;
        message = message;
      }) found = cc in (
        ap (λ (t : Taken). t.message) (sym is),
        ap (λ (t : Taken). t.layout) (sym is) ∙ l,
        subst (λ (t : Taken). Admits t.state (far_after_message there octets message)) is
            (record {
              kind = rw accepting.by.kind admits.kind;
              link = worked_link there its_link octets asked message at
                  (rw accepting.by.page (knows.mode (mode_asked (command_in message)) asked e));
              cycle = cycle_admits there.cycle_time state.cycle message.mc.channel message.mc.read
                  message.mc.address (slice_index message.od.items 0)
                  (rw accepting.by.cycle admits.cycle);
              events = rw accepting.awake (worked_shown state.events there.events
                  (is_confirm message.mc.channel message.mc.read message.mc.address)
                  (rw accepting.by.events (shown_awake state far accepting.hears admits)));
              isdu = transfer_after_it layout message mc l;
            }),
      )
  fits_asked layout message asked mc e l found h = absurd (cc)

  fits_message : (layout : Shape) (message : Option MasterMsg) → message_in layout octets ≡ message
      → layout ≡ layout_of there → (found : Option Taken)
      → taken_message known its_link state
      octets layout message ≡ Ok found → Fits there octets message found
  unfolding Fits
  fits_message layout None e l found h = cc
  fits_message layout (Some message) e l found h =
      fits_asked layout message _ (control_is layout octets message e) refl l found h

  -- a state that stands for the device makes of the octets what it makes of them
  pub state_fits : (found : Option Taken) → take.taken_by_state known state octets ≡ Ok found
      → Fits there octets (message_in (layout_of there) octets) found
  state_fits found h =
      let s = bound _ _ h in
      let l : s.0 ≡ layout_of there = sym (knows.layout its_link.mode s.0 s.1)
      ∙ ap (λ (l : FarLink). layout_in far.page l.mode) (sym at)
      ∙ ap (λ (p : List ℕ). layout_in p there.mode) (sym accepting.by.page) in
      rw l at (fits_message s.0 _ refl l found s.2)

-- What a state stands for is told apart by kinds where a message tells them apart

-- a state stands for the device, and moves as it does
abbrev pub IsPart : Far → List ℕ → KnownState → Type 0
IsPart far sent part = Admits part far × Moves part far.kind sent

pub all_have : (kind : Kind) → admits_kind all_kinds kind ≡ true
all_have kind = of_kinds (λ o r. has_by all_kinds o r ≡ true) refl refl refl refl
    kind.hands_over kind.recalls

only_has : (kind : Kind) → admits_kind (only_kind kind) kind ≡ true
only_has kind = of_kinds (λ o r. has_by (only_by o r) o r ≡ true) refl refl refl refl
    kind.hands_over kind.recalls

abbrev kind_of : HandsOver → Recalls → Kind
kind_of hands_over recalls = record { hands_over = hands_over; recalls = recalls }

only_in : (kind : Kind) → kind_in (only_kind kind) ≡ kind
only_in kind = of_kinds (λ o r. kind_in (only_by o r) ≡ kind_of o r) refl refl refl refl
    kind.hands_over kind.recalls

-- one of more
first_one : {S : Type 0} (Q : S → Type 0) (xs ys : List S) → One Q xs → One Q (xs ++ ys)
first_one Q [] ys h = absurd h
first_one Q (x ∷ xs) ys (inl h) = inl h
first_one Q (x ∷ xs) ys (inr h) = inr (first_one Q xs ys h)

later_one : {S : Type 0} (Q : S → Type 0) (xs ys : List S) → One Q ys → One Q (xs ++ ys)
later_one Q [] ys h = h
later_one Q (x ∷ xs) ys h = inr (later_one Q xs ys h)

module _ (far : Far) (sent : List ℕ) (texts : AllTexts) (awake : far.awake ≡ true)
    (state : KnownState) (admits : Admits state far) where
  -- of its own kind
  its_parts : (kind : Kind) → far.kind ≡ kind → (transfers : List Transfer)
      → OneUnderWay far.kind.hands_over far.counted (layout_of far).od transfers far.isdu
      → One (IsPart far sent) (map (state_of_kind state kind) transfers)
  its_parts kind is [] h = absurd h
  its_parts kind is (transfer ∷ transfers) (inr h) = inr (its_parts kind is transfers h)
  its_parts kind is (transfer ∷ transfers) (inl h) = inl (
    grind (arith, common_steps, only_has),
    inl (only_in kind ∙ sym is),
  )

  kind_parts : (kind : Kind) → far.kind ≡ kind → One (IsPart far sent) (parts_of state kind)
  kind_parts kind is = grind (arith, common_steps, its_parts, apart_under_way)

  abbrev its : HandsOver → Recalls → List KnownState
  its hands_over recalls = parts_of state (kind_of hands_over recalls)

  abbrev two : List KnownState
  two = its FirstRead UntilLeft ++ its FirstRead UntilSent

  abbrev three : List KnownState
  three = two ++ its LastSegment UntilLeft

  of_all : One (IsPart far sent) (all_parts state)
  of_all =
      let Q = IsPart far sent in
      let to_three : One Q two → One Q three = first_one Q two _ in
      let to_all : One Q three → One Q (all_parts state) = first_one Q three _ in
      of_kinds (λ o r. far.kind ≡ kind_of o r → One Q (all_parts state))
      (λ is. to_all (to_three (first_one Q _ _ (kind_parts _ is))))
      (λ is. to_all (to_three (later_one Q _ _ (kind_parts _ is)))) (λ is. to_all
      (later_one Q two _ (kind_parts _ is))) (λ is. later_one Q three _ (kind_parts _ is)) _ _ refl

  -- the device is one of those that a part stands for
  pub parts_admit : One (IsPart far sent) (parts state sent)
  parts_admit = cond_both _ _
      (state ∷ []) (One (IsPart far sent)) (λ e. of_all) (λ e. inl (admits, inr e))
