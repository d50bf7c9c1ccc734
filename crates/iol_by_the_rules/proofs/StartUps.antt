-- A start-up of the port, and the watch that is told it.
-- For the clauses of `laws::ports_are_by_the_rules`.
use Rattle.std.proofs.Common.{◌≡◌, ℕ, suc, ◌+◌, ◌≤◌, ◌<◌, Bool, true, false, if◌then◌else◌, ◌==◌, List, [], ◌∷◌, ◌++◌, length, refl, ap, sym, subst, ap₂, add-one, ◌∙◌, ◌/◌, ◌%◌, arith}
use Rattle.std.proofs.lemmas.Grind.{common_steps, elements}
use Rattle.std.specs.Prelude.{slice_index, slice_index_or, not, ◌&&◌, is_some, Option, Some, None, IfSome, Result, Ok, Err, IfOk, ⊤}
use Rattle.iol_octets.specs.Control.{control_of, channel_of}
use Rattle.iol_octets.specs.declared.control.Channel.TheVariants.{Page}
use Rattle.iol_mseq.specs.Shape.{Shape, IsLayout, startup_shape}
use Rattle.iol_mseq.specs.Master.{HasMasterParts}
use Rattle.iol_mseq.specs.Texts.{master_text}
use Rattle.iol_mseq.specs.declared.master.MasterMsg.{MasterMsg}
use Rattle.iol_mseq.specs.declared.reply.Reply.{Reply}
use Rattle.iol_page.specs.Commands.{command_octet, command_of}
use Rattle.iol_page.specs.Cycle.{cycle_for}
use Rattle.iol_page.specs.Identity.{is_expected}
use Rattle.iol_page.specs.Page.{AreLayouts, IsAskedBy, IsPlain, PagesAskForLayouts, layouts_of}
use Rattle.iol_page.specs.declared.cycle.CycleTime.{CycleTime}
use Rattle.iol_page.specs.declared.page.Layouts.{Layouts}
use Rattle.iol_page.specs.declared.fault.PageFault.{PageFault}
use Rattle.iol_page.specs.declared.master_command.MasterCommand.{MasterCommand}
use Rattle.iol_page.specs.declared.master_command.MasterCommand.TheVariants.{MasterIdent, DeviceStartup, DeviceOperate, DevicePreoperate}
use Rattle.iol_far.specs.Linked.{TextsAreHeard}
use Rattle.iol_link.specs.declared.handler.Attempt.TheVariants.{Retry, Lost}
use Rattle.iol_link.specs.Attempts.{Sending, good_reply}
use Rattle.iol_mode.specs.declared.configuration.Configuration.{Configuration}
use Rattle.iol_mode.specs.declared.configuration.Devices.{Devices}
use Rattle.iol_mode.specs.declared.configuration.Devices.TheVariants.{Own, Any}
use Rattle.iol_mode.specs.declared.states.StartupStep.{StartupStep}
use Rattle.iol_mode.specs.declared.states.StartupStep.TheVariants.{Reset, First, Read, Ident, Leave, Cycle, Enter}
use Rattle.iol_mode.specs.declared.states.PageFacts.{PageFacts}
use Rattle.iol_mode.specs.declared.states.Startup.{Startup as StartupState}
use Rattle.iol_mode.specs.declared.states.Preoperate.{Preoperate as PreoperateState}
use Rattle.iol_mode.specs.declared.states.State.{State}
use Rattle.iol_mode.specs.declared.states.State.TheVariants.{Down as AtDown, Startup as AtStartup, Preoperate as AtPreoperate, Operate as AtOperate}
use Rattle.iol_mode.specs.Messages.{page_control, page_read, page_write, command_message, cycle_message, new_sending}
use Rattle.iol_mode.specs.States.{next_state, step_message, step_after, startup_at, startup_by, startup_turned, preoperate_turned, preoperate_by, preoperate_after, page_after, mode_after_check, taken_where, page_taken, layouts_taken, step_behind, facts_of, is_left_out, mode_after_wake}
use Rattle.iol_judge.specs.Observed.{octet_observed, page_noted, layouts_observed, layouts_by}
use Rattle.iol_judge.specs.declared.verdict.Wake.TheVariants.{Answered as WakeAnswered}
use Rattle.iol_judge.specs.declared.master_phase.MasterPhase.TheVariants.{Startup, Preoperate, Operate}
use Rattle.iol_judge.specs.declared.master.MasterState.{MasterState}
use Rattle.iol_judge.specs.declared.master.StartUp.{StartUp}
use Rattle.iol_judge.specs.declared.master_output.Output.{Output}
use Rattle.iol_judge.specs.declared.master_reading.Reading.TheVariants.{Resting}
use Rattle.iol_judge.specs.declared.master_transfer.MasterTransfer.{MasterTransfer}
use Rattle.iol_judge.specs.declared.master_transfer.MasterTransfer.TheVariants.{Quiet}
use Rattle.iol_judge.specs.MasterOutputs.{woken_output}
use Rattle.iol_judge.specs.MasterTransfers.{transfer_after_repeat}
use Rattle.iol_judge.specs.MasterPhases.{phase_layout, allows_cycle, is_in_operate}
use Rattle.iol_judge.specs.Watched.{master_after_sending, sent_at, command_sent, master_after_answer, master_after_reply, master_after_repeat, heard_reply, master_without_reply, mode_entered, master_after_wake}
use Rattle.iol_by_the_rules.proofs.Accepted.{missed_of, is_down, repeat_accepted, left_out_of, new_accepted, reply_accepted}

-- What is known

-- the octets of a page that were read, from 0x02 on
pub record ObservedUpTo (octets : List ℕ) (observed : List (Option ℕ)) : Type 0 where
  pub places : length observed ≡ 10
  pub are : (i : ℕ) → i < length octets
      → slice_index_or observed i None ≡ Some (slice_index octets i)

-- one more of them
pub noted : (octets : List ℕ) (observed : List (Option ℕ)) (octet : ℕ) → length octets < 10
    → ObservedUpTo octets observed
    → ObservedUpTo (octets ++ octet ∷ []) (page_noted observed (2 + length octets) octet)
noted octets observed octet below known = record {
  places = grind (arith, common_steps, known.places);
  are = λ i within. grind (arith, elements, common_steps, known.are i);
}

-- the page that a start-up takes into use
pub record Known (facts : PageFacts) (observed : List (Option ℕ)) : Type 0 where
  pub asked : layouts_observed observed ≡ Ok facts.layouts
  pub cycle : allows_cycle (octet_observed observed 2) facts.cycle ≡ true
  pub are : AreLayouts facts.layouts

-- Control octets

module _ (address : ℕ) (below : address ≤ 31) where
  read_reads : (page_control true address).read ≡ true
  unfolding control_of
  read_reads = grind arith

  read_channel : (page_control true address).channel ≡ Page
  unfolding control_of
  read_channel = let code : (0xA0 + address) / 32 % 4 ≡ 1 = omega arith in ap channel_of code

  read_address : (page_control true address).address ≡ address
  unfolding control_of
  read_address = omega arith

-- In a start-up no request is under way, and no event is read; the output is what it was

abbrev pub StillWatch : Output → MasterState → Type 0
StillWatch o m = (m.output ≡ o) × (m.events.reading ≡ Resting) × (m.transfer ≡ Quiet)

quiet_either : (b : Bool) (transfer : MasterTransfer) → transfer ≡ Quiet
    → (if b then Quiet else transfer) ≡ Quiet
quiet_either true transfer is = refl
quiet_either false transfer is = is

entered_still : (o : Output) (m : MasterState) (command : Option MasterCommand) → StillWatch o m
    → StillWatch o (mode_entered m command)
entered_still o m command still = (
  still.0,
  still.1,
  quiet_either (is_some command && not (is_in_operate m.phase)) m.transfer still.2,
)

repeat_still : (o : Output) (m : MasterState) → StillWatch o m
    → StillWatch o (master_after_repeat m)
repeat_still o m still = (still.0, still.1, ap transfer_after_repeat still.2)

-- Before a step's message is sent, and once it was

abbrev Before : StartupStep → List (Option ℕ) → StartUp → Type 0
Before Reset observed done = length observed ≡ 10
Before First observed done = length observed ≡ 10
Before (Read octets) observed done = ObservedUpTo octets.items observed × (length octets.items < 10)
Before (Ident facts pre) observed done = Known facts observed × (facts.layouts.pre ≡ Some pre)
Before (Leave facts pre) observed done = Known facts observed × (facts.layouts.pre ≡ Some pre)
    × (done.ident ≡ true)
Before (Cycle facts) observed done = Known facts observed × (facts.layouts.pre ≡ None)
Before (Enter facts) observed done = Known facts observed × (facts.layouts.pre ≡ None)
    × (done.cycle ≡ true)

abbrev Behind : StartupStep → List (Option ℕ) → StartUp → Type 0
Behind (Ident facts pre) observed done = Before (Leave facts pre) observed done
Behind (Cycle facts) observed done = Before (Enter facts) observed done
Behind step observed done = Before step observed done

abbrev startup_text : StartupStep → List ℕ
startup_text step = master_text startup_shape (step_message step)

-- the watch was told the message, so many times in vain before
pub record StepAccepted (o : Output) (sent : Sending) (step : StartupStep)
    (m : MasterState) : Type 0
  where
    pub phase : m.phase ≡ Startup
    pub message : sent.message ≡ step_message step
    pub few : sent.tries ≤ 2
    pub out : m.out ≡ missed_of sent.tries (startup_text step)
    pub behind : Behind step m.observed m.done
    pub still : StillWatch o m

-- once it is told the message it has nothing against it
abbrev StepFair : Output → Sending → StartupStep → MasterState → Type 0
StepFair o sent step m = (next : MasterState)
    × (master_after_sending m (master_text startup_shape sent.message) ≡ Ok next)
    × StepAccepted o sent step next

-- The same in PREOPERATE

abbrev PreMessage : Bool → Shape → MasterMsg → Type 0
PreMessage true pre message = message ≡ command_message pre DeviceOperate
PreMessage false pre message = (octet : ℕ) × (message ≡ cycle_message pre octet)

pub record PreAccepted (o : Output) (s : PreoperateState) (m : MasterState) : Type 0 where
  pub phase : m.phase ≡ Preoperate s.layouts
  pub pre : s.layouts.pre ≡ Some s.pre
  pub are : AreLayouts s.layouts
  pub says : PreMessage s.cycle_written s.pre s.sent.message
  pub few : s.sent.tries ≤ 2
  pub out : m.out ≡ missed_of s.sent.tries (master_text s.pre s.sent.message)
  pub cycle : m.done.cycle ≡ true
  pub still : StillWatch o m

abbrev PreFair : Output → PreoperateState → MasterState → Type 0
PreFair o s m = (next : MasterState)
    × (master_after_sending m (master_text s.pre s.sent.message) ≡ Ok next)
    × PreAccepted o s next

-- in each mode of a start-up
abbrev pub ModeFair : Output → State → MasterState → Type 0
ModeFair o (AtDown s) m = ⊤
ModeFair o (AtStartup s) m = StepFair o s.sent s.step m
ModeFair o (AtPreoperate s) m = PreFair o s m
ModeFair o (AtOperate s) m = (m.phase ≡ Operate s.layouts) × (m.out ≡ None)
    × AreLayouts s.layouts × StillWatch o m

-- A new message

-- there is room for one more octet
abbrev Within : StartupStep → Type 0
Within (Read octets) = length octets.items < 10
Within step = ⊤

within_before : (step : StartupStep) (observed : List (Option ℕ)) (done : StartUp)
    → Before step observed done → Within step
within_before (Read octets) observed done before = before.1
within_before step observed done before = tt

within_behind : (step : StartupStep) (observed : List (Option ℕ)) (done : StartUp)
    → Behind step observed done → Within step
within_behind (Read octets) observed done behind = behind.1
within_behind step observed done behind = tt

-- it fits the layout
step_parts : (step : StartupStep) → Within step
    → HasMasterParts startup_shape (step_message step)
unfolding control_of
step_parts (Read octets) within =
    record { out = refl; od = rw (read_reads (2 + length octets.items) (omega arith)) refl }
step_parts step within = record { out = refl; od = refl }

-- a read of the page is free
page_read_free : (m : MasterState) (address : ℕ) → m.phase ≡ Startup → address ≤ 31
    → sent_at m.phase m (page_read address) ≡ Ok m
page_read_free m address phase below =
    grind (arith, read_reads address below, read_channel address below)

-- the others: a command, and MasterCycleTime
command_free : (m : MasterState) (command : MasterCommand) (done : StartUp) → m.phase ≡ Startup
    → command_sent m (Some command) ≡ Ok (record m { done = done })
    → command_of (command_octet command) ≡ Some command
    → sent_at m.phase m (command_message startup_shape command) ≡ Ok (record m { done = done })
unfolding control_of
command_free m command done phase sent back = grind arith

cycle_free : (m : MasterState) (octet : ℕ) → m.phase ≡ Startup
    → allows_cycle (octet_observed m.observed 2) octet ≡ true
    → sent_at m.phase m (cycle_message startup_shape octet)
    ≡ Ok (record m { done = record m.done { cycle = true } })
unfolding control_of
cycle_free m octet phase allowed = grind arith

-- those of PREOPERATE
pub od_some : (l : Shape) → IsLayout l → 1 ≤ l.od
od_some l valid = grind (arith, valid.od)

write_writes : (address : ℕ) → address ≤ 31 → (page_control false address).read ≡ false
unfolding control_of
write_writes address below = grind arith

pre_parts : (pre : Shape) (layouts : Layouts) (address octet : ℕ) → address ≤ 31
    → layouts.pre ≡ Some pre → AreLayouts layouts
    → HasMasterParts pre (page_write pre address octet)
unfolding control_of
pre_parts pre layouts address octet below is are =
    let plain : IsPlain pre = subst (λ o. IfSome o IsPlain) is are.pre in
    let size : 1 ≤ pre.od = od_some pre plain.valid in
    let write : (page_control false address).read ≡ false = write_writes address below in
    record { out = sym plain.pd_out; od = grind (arith, common_steps) }

pre_cycle : (m : MasterState) (layouts : Layouts) (pre : Shape) (octet : ℕ)
    → m.phase ≡ Preoperate layouts → allows_cycle (octet_observed m.observed 2) octet ≡ true
    → sent_at m.phase m (cycle_message pre octet)
    ≡ Ok (record m { done = record m.done { cycle = true } })
unfolding control_of
pre_cycle m layouts pre octet phase allowed = grind arith

pre_enter : (m : MasterState) (layouts : Layouts) (pre : Shape)
    → m.phase ≡ Preoperate layouts → m.done.cycle ≡ true
    → sent_at m.phase m (command_message pre DeviceOperate) ≡ Ok m
unfolding control_of
pre_enter m layouts pre phase cycle = grind arith

module _ (heard : TextsAreHeard) (o : Output) where
  step_sent : (step : StartupStep) (m next : MasterState) → m.phase ≡ Startup → m.out ≡ None
      → Before step m.observed m.done → sent_at m.phase m (step_message step) ≡ Ok next
      → master_after_sending m (startup_text step) ≡ Ok next
  step_sent step m next phase out before sent =
      new_accepted heard startup_shape m (ap phase_layout phase) (step_message step)
      (step_parts step (within_before step m.observed m.done before)) (ap is_down phase) out ∙ sent

  -- once a step's message is told as a new one
  step_accepted : (step : StartupStep) (m : MasterState) → m.phase ≡ Startup → m.out ≡ None
      → StillWatch o m → Before step m.observed m.done
      → StepFair o (new_sending (step_message step)) step m
  step_accepted Reset m phase out still before = (
    m,
    step_sent Reset m m phase out before
        (command_free m DeviceStartup m.done phase (grind arith) refl),
    record {
      phase = phase;
      message = refl;
      few = omega arith;
      out = out;
      behind = before;
      still = still;
    },
  )
  step_accepted First m phase out still before = (
    m,
    step_sent First m m phase out before (page_read_free m 2 phase (omega arith)),
    record {
      phase = phase;
      message = refl;
      few = omega arith;
      out = out;
      behind = before;
      still = still;
    },
  )
  step_accepted (Read octets) m phase out still before = (
    m,
    step_sent (Read octets) m m phase out before
        (page_read_free m (2 + length octets.items) phase (omega arith)),
    record {
      phase = phase;
      message = refl;
      few = omega arith;
      out = out;
      behind = before;
      still = still;
    },
  )
  step_accepted (Ident facts pre) m phase out still before = (
    record m { done = record m.done { ident = true } },
    step_sent (Ident facts pre) m (record m { done = record m.done { ident = true } }) phase out
        before
        (command_free m MasterIdent (record m.done { ident = true }) phase (grind arith) refl),
    record {
      phase = phase;
      message = refl;
      few = omega arith;
      out = out;
      behind = (before.0, before.1, refl);
      still = still;
    },
  )
  step_accepted (Leave facts pre) m phase out still before = (
    m,
    step_sent (Leave facts pre) m m phase out before
        (command_free m DevicePreoperate m.done phase
        (grind (arith, before.0.asked, before.1, before.2)) refl),
    record {
      phase = phase;
      message = refl;
      few = omega arith;
      out = out;
      behind = before;
      still = still;
    },
  )
  step_accepted (Cycle facts) m phase out still before = (
    record m { done = record m.done { cycle = true } },
    step_sent (Cycle facts) m (record m { done = record m.done { cycle = true } }) phase out
        before
        (cycle_free m facts.cycle phase before.0.cycle),
    record {
      phase = phase;
      message = refl;
      few = omega arith;
      out = out;
      behind = (before.0, before.1, refl);
      still = still;
    },
  )
  step_accepted (Enter facts) m phase out still before = (
    m,
    step_sent (Enter facts) m m phase out before
        (command_free m DeviceOperate m.done phase
        (grind (arith, before.0.asked, before.1, before.2)) refl),
    record {
      phase = phase;
      message = refl;
      few = omega arith;
      out = out;
      behind = before;
      still = still;
    },
  )

  -- A new message of PREOPERATE

  pre_sent : (pre : Shape) (layouts : Layouts) (message : MasterMsg) (m next : MasterState)
      → m.phase ≡ Preoperate layouts → layouts.pre ≡ Some pre → m.out ≡ None
      → HasMasterParts pre message → sent_at m.phase m message ≡ Ok next
      → master_after_sending m (master_text pre message) ≡ Ok next
  pre_sent pre layouts message m next phase is out parts sent =
      let layout : phase_layout m.phase ≡ pre = grind (arith, phase, is) in
      new_accepted heard pre m layout message parts (ap is_down phase) out ∙ sent

  cycle_accepted : (octet : ℕ) (pre : Shape) (layouts : Layouts) (m : MasterState)
      → m.phase ≡ Preoperate layouts → layouts.pre ≡ Some pre → AreLayouts layouts
      → m.out ≡ None → StillWatch o m → allows_cycle (octet_observed m.observed 2) octet ≡ true
      → PreFair o (record {
        sent = new_sending (cycle_message pre octet);
        cycle_written = false;
        pre = pre;
        layouts = layouts;
      }) m
  cycle_accepted octet pre layouts m phase is are out still allowed = (
    record m { done = record m.done { cycle = true } },
    pre_sent pre layouts (cycle_message pre octet) m
        (record m { done = record m.done { cycle = true } }) phase is out
        (pre_parts pre layouts 1 octet (omega arith) is are)
        (pre_cycle m layouts pre octet phase allowed),
    record {
      phase = phase;
      pre = is;
      are = are;
      says = (octet, refl);
      few = omega arith;
      out = out;
      cycle = refl;
      still = still;
    },
  )

  enter_accepted : (pre : Shape) (layouts : Layouts) (m : MasterState)
      → m.phase ≡ Preoperate layouts → layouts.pre ≡ Some pre → AreLayouts layouts
      → m.out ≡ None → StillWatch o m → m.done.cycle ≡ true
      → PreFair o (record {
        sent = new_sending (command_message pre DeviceOperate);
        cycle_written = true;
        pre = pre;
        layouts = layouts;
      }) m
  enter_accepted pre layouts m phase is are out still cycle = (
    m,
    pre_sent pre layouts (command_message pre DeviceOperate) m m phase is out
        (pre_parts pre layouts 0 (command_octet DeviceOperate) (omega arith) is are)
        (pre_enter m layouts pre phase cycle),
    record {
      phase = phase;
      pre = is;
      are = are;
      says = refl;
      few = omega arith;
      out = out;
      cycle = cycle;
      still = still;
    },
  )

-- A good reply

abbrev pub flagged : MasterState → Reply → MasterState
flagged m reply = record m { out = None; events = record m.events { flag = reply.event } }

read_replied : (m : MasterState) (address : ℕ) (reply : Reply) → address ≤ 31
    → master_after_reply m (page_read address) reply
    ≡ record (flagged m reply)
    { observed = page_noted m.observed address (slice_index reply.od.items 0) }
read_replied m address reply below =
    grind (
      arith,
      read_reads address below,
      read_channel address below,
      read_address address below,
    )

command_replied : (m : MasterState) (layout : Shape) (command : MasterCommand) (reply : Reply)
    → command_of (command_octet command) ≡ Some command
    → master_after_reply m (command_message layout command) reply
    ≡ mode_entered (flagged m reply) (Some command)
unfolding control_of
command_replied m layout command reply back = grind arith

cycle_replied : (m : MasterState) (layout : Shape) (octet : ℕ) (reply : Reply)
    → master_after_reply m (cycle_message layout octet) reply
    ≡ mode_entered (flagged m reply) None
unfolding control_of
cycle_replied m layout octet reply = refl

-- The whole page

allowed_cycle : (chosen : Option CycleTime) (least : ℕ)
    → allows_cycle (Some least) (cycle_for chosen least) ≡ true
allowed_cycle None least = grind arith
allowed_cycle (Some chosen) least = grind (arith, chosen.base_in_range)

module _ (c : Configuration) (page : List ℕ) (observed : List (Option ℕ)) (layouts : Layouts)
    (known : ObservedUpTo page observed) (whole : length page ≡ 10)
  where
    page_asked : layouts_of page ≡ Ok layouts → layouts_observed observed ≡ Ok layouts
    unfolding layouts_by
    page_asked asked = grind (arith, known.are 1, known.are 2, known.are 3, known.are 4)

    page_cycle : allows_cycle (octet_observed observed 2)
        (cycle_for c.cycle (slice_index page 0)) ≡ true
    page_cycle =
        let first : octet_observed observed 2 ≡ Some (slice_index page 0) =
        known.are 0 (omega arith) in
        rw first (allowed_cycle c.cycle (slice_index page 0))

    page_known : AreLayouts layouts → layouts_of page ≡ Ok layouts
        → Known (facts_of c layouts page) observed
    page_known are asked =
        record { asked = page_asked asked; cycle = page_cycle; are = are }

module _ (heard : TextsAreHeard) (asks : PagesAskForLayouts) (o : Output) (c : Configuration)
  where
    -- the page is taken into use
    behind_fair : (page : List ℕ) (layouts : Layouts) (m : MasterState) (pre : Option Shape)
        → m.phase ≡ Startup → m.out ≡ None → StillWatch o m
        → Known (facts_of c layouts page) m.observed → layouts.pre ≡ pre
        → ModeFair o (next_state (startup_at (step_behind (facts_of c layouts page) pre))) m
    behind_fair page layouts m None phase out still known is =
        step_accepted heard o (Cycle (facts_of c layouts page)) m phase out still (known, is)
    behind_fair page layouts m (Some pre) phase out still known is =
        step_accepted heard o (Ident (facts_of c layouts page) pre) m phase out still (known, is)

    left_fair : (left : Bool) (page : List ℕ) (layouts : Layouts) (m : MasterState)
        → m.phase ≡ Startup → m.out ≡ None → StillWatch o m
        → Known (facts_of c layouts page) m.observed
        → ModeFair o (next_state (layouts_taken left c layouts page)) m
    left_fair true page layouts m phase out still known = tt
    left_fair false page layouts m phase out still known =
        behind_fair page layouts m layouts.pre phase out still known refl

    taken_fair : (asked : Result Layouts PageFault) (page : List ℕ) (m : MasterState)
        → layouts_of page ≡ asked → m.phase ≡ Startup → m.out ≡ None → StillWatch o m
        → ObservedUpTo page m.observed
        → length page ≡ 10
        → ModeFair o (next_state (page_taken c asked page)) m
    taken_fair (Err fault) page m is phase out still known whole = tt
    taken_fair (Ok layouts) page m is phase out still known whole =
        let are : IsAskedBy page layouts = subst (λ r. IfOk r (IsAskedBy page)) is (asks page) in
        left_fair (is_left_out c.devices page) page layouts m phase out still
        (page_known c page m.observed layouts known whole are.layouts_are is)

    expected_fair : (right : Bool) (page : List ℕ) (m : MasterState)
        → m.phase ≡ Startup → m.out ≡ None → StillWatch o m → ObservedUpTo page m.observed
        → length page ≡ 10
        → ModeFair o (next_state (taken_where right c (layouts_of page) page)) m
    expected_fair false page m phase out still known whole = tt
    expected_fair true page m phase out still known whole =
        taken_fair (layouts_of page) page m refl phase out still known whole

    page_fair : (whole : Bool) (page : List ℕ) (m : MasterState)
        → (length page == 10) ≡ whole → length page ≤ 10
        → m.phase ≡ Startup → m.out ≡ None → StillWatch o m → ObservedUpTo page m.observed
        → ModeFair o (next_state (if whole then mode_after_check c (layouts_of page) page
        else startup_at (Read (record { items = page })))) m
    page_fair true page m is most phase out still known =
        expected_fair (is_expected c.expected page) page m phase out still known
        (grind (arith, is))
    page_fair false page m is most phase out still known =
        step_accepted heard o (Read (record { items = page })) m phase out still
        (known, grind (arith, is, most))

    -- the good reply to each step's message
    got_fair : (step : StartupStep) (m : MasterState) (reply : Reply) → m.phase ≡ Startup
        → Behind step m.observed m.done → StillWatch o m
        → ModeFair o (next_state (step_after c step reply))
        (master_after_reply m (step_message step) reply)
    got_fair Reset m reply phase behind still =
        subst (StepFair o (new_sending (step_message First)) First)
        (sym (command_replied m startup_shape DeviceStartup reply refl))
        (step_accepted heard o First (mode_entered (flagged m reply) (Some DeviceStartup))
        (grind (arith, phase)) refl (entered_still o (flagged m reply) (Some DeviceStartup) still)
        behind)
    got_fair First m reply phase behind still =
        let octet : ℕ = slice_index reply.od.items 0 in
        let none : ObservedUpTo [] m.observed =
        record { places = behind; are = λ i h. grind arith } in
        subst (StepFair o (new_sending (page_read 3)) (Read (record { items = octet ∷ [] })))
        (sym (read_replied m 2 reply (omega arith)))
        (step_accepted heard o (Read (record { items = octet ∷ [] }))
        (record (flagged m reply) { observed = page_noted m.observed 2 octet }) phase refl still
        (noted [] m.observed octet (omega arith) none, omega arith))
    got_fair (Read octets) m reply phase behind still =
        let octet : ℕ = slice_index reply.od.items 0 in
        let page : List ℕ = octets.items ++ octet ∷ [] in
        let most : length page ≤ 10 = grind (arith, common_steps, behind.1) in
        subst (ModeFair o (next_state (page_after c page)))
        (sym (read_replied m (2 + length octets.items) reply (grind (arith, behind.1))))
        (page_fair (length page == 10) page
        (record (flagged m reply) {
          observed = page_noted m.observed (2 + length octets.items) octet;
        })
        refl most phase refl still (noted octets.items m.observed octet behind.1 behind.0))
    got_fair (Ident facts pre) m reply phase behind still =
        subst (StepFair o (new_sending (step_message (Leave facts pre))) (Leave facts pre))
        (sym (command_replied m startup_shape MasterIdent reply refl))
        (step_accepted heard o (Leave facts pre) (mode_entered (flagged m reply) (Some MasterIdent))
        (grind (arith, phase)) refl (entered_still o (flagged m reply) (Some MasterIdent) still)
        behind)
    got_fair (Leave facts pre) m reply phase behind still =
        subst (PreFair o (record {
          sent = new_sending (cycle_message pre facts.cycle);
          cycle_written = false;
          pre = pre;
          layouts = facts.layouts;
        }))
        (sym (command_replied m startup_shape DevicePreoperate reply refl))
        (cycle_accepted heard o facts.cycle pre facts.layouts
        (mode_entered (flagged m reply) (Some DevicePreoperate))
        (grind (arith, phase, behind.0.asked)) behind.1 behind.0.are refl
        (entered_still o (flagged m reply) (Some DevicePreoperate) still) behind.0.cycle)
    got_fair (Cycle facts) m reply phase behind still =
        subst (StepFair o (new_sending (step_message (Enter facts))) (Enter facts))
        (sym (cycle_replied m startup_shape facts.cycle reply))
        (step_accepted heard o (Enter facts) (mode_entered (flagged m reply) None)
        (grind (arith, phase)) refl (entered_still o (flagged m reply) None still) behind)
    got_fair (Enter facts) m reply phase behind still =
        subst (ModeFair o (AtOperate (record { out = None; layouts = facts.layouts })))
        (sym (command_replied m startup_shape DeviceOperate reply refl)) (
          grind (arith, phase, behind.0.asked),
          refl,
          behind.0.are,
          entered_still o (flagged m reply) (Some DeviceOperate) still,
        )

    got_pre : (written : Bool) (message : MasterMsg) (pre : Shape) (layouts : Layouts)
        (m : MasterState) (reply : Reply) → PreMessage written pre message
        → m.phase ≡ Preoperate layouts → layouts.pre ≡ Some pre → AreLayouts layouts
        → m.done.cycle ≡ true → StillWatch o m
        → ModeFair o (next_state (preoperate_after written pre layouts reply))
        (master_after_reply m message reply)
    got_pre true message pre layouts m reply says phase is are cycle still =
        let after : master_after_reply m message reply
        ≡ mode_entered (flagged m reply) (Some DeviceOperate) =
        rw says (command_replied m pre DeviceOperate reply refl) in
        subst (ModeFair o (AtOperate (record { out = None; layouts = layouts }))) (sym after) (
          grind (arith, phase),
          refl,
          are,
          entered_still o (flagged m reply) (Some DeviceOperate) still,
        )
    got_pre false message pre layouts m reply says phase is are cycle still =
        let next : PreoperateState = record {
          sent = new_sending (command_message pre DeviceOperate);
          cycle_written = true;
          pre = pre;
          layouts = layouts;
        } in
        let after : master_after_reply m message reply ≡ mode_entered (flagged m reply) None =
        rw says.1 (cycle_replied m pre says.0 reply) in
        subst (PreFair o next) (sym after)
        (enter_accepted heard o pre layouts (mode_entered (flagged m reply) None)
        (grind (arith, phase)) is are refl (entered_still o (flagged m reply) None still) cycle)

    -- No good reply: the third time the link is lost

    step_repeated : (sent : Sending) (step : StartupStep) (m : MasterState)
        → StepAccepted o sent step m
        → sent.tries < 2
        → StepFair o (record { message = sent.message; tries = sent.tries + 1 }) step
        (master_without_reply m (master_text startup_shape sent.message))
    step_repeated sent step m accepted few =
        let text : List ℕ = master_text startup_shape sent.message in
        let same : text ≡ startup_text step = ap (master_text startup_shape) accepted.message in
        let left : MasterState = record m { out = missed_of (suc sent.tries) text } in
        let before : m.out ≡ missed_of sent.tries text =
        accepted.out ∙ ap (missed_of sent.tries) (sym same) in
        subst (StepFair o (record { message = sent.message; tries = sent.tries + 1 }) step)
        (sym (left_out_of m text sent.tries few before)) (
          master_after_repeat left,
          repeat_accepted left sent.tries text (ap is_down accepted.phase) refl,
          record {
            phase = accepted.phase;
            message = accepted.message;
            few = omega arith;
            out = ap₂ missed_of (sym (add-one sent.tries)) same;
            behind = accepted.behind;
            still = repeat_still o left accepted.still;
          },
        )

    step_lost : (lost : Bool) (sent : Sending) (step : StartupStep) (m : MasterState)
        → StepAccepted o sent step m → (sent.tries == 2) ≡ lost
        → ModeFair o (next_state (startup_by c
        (record { message = sent.message; tries = if lost then 0 else sent.tries + 1 }) step
        (if lost then Lost else Retry)))
        (master_without_reply m (master_text startup_shape sent.message))
    step_lost true sent step m accepted is = tt
    step_lost false sent step m accepted is =
        step_repeated sent step m accepted (grind (arith, accepted.few, is))

    pre_repeated : (s : PreoperateState) (m : MasterState) → PreAccepted o s m → s.sent.tries < 2
        → PreFair o (record s {
          sent = record { message = s.sent.message; tries = s.sent.tries + 1 };
        }) (master_without_reply m (master_text s.pre s.sent.message))
    pre_repeated s m accepted few =
        let text : List ℕ = master_text s.pre s.sent.message in
        let left : MasterState = record m { out = missed_of (suc s.sent.tries) text } in
        subst (PreFair o (record s {
          sent = record { message = s.sent.message; tries = s.sent.tries + 1 };
        }))
        (sym (left_out_of m text s.sent.tries few accepted.out)) (
          master_after_repeat left,
          repeat_accepted left s.sent.tries text (ap is_down accepted.phase) refl,
          record {
            phase = accepted.phase;
            pre = accepted.pre;
            are = accepted.are;
            says = accepted.says;
            few = omega arith;
            out = ap (λ n. missed_of n text) (sym (add-one s.sent.tries));
            cycle = accepted.cycle;
            still = repeat_still o left accepted.still;
          },
        )

    pre_lost : (lost : Bool) (s : PreoperateState) (m : MasterState) → PreAccepted o s m
        → (s.sent.tries == 2) ≡ lost
        → ModeFair o (next_state (preoperate_by
        (record { message = s.sent.message; tries = if lost then 0 else s.sent.tries + 1 })
        s.cycle_written s.pre s.layouts (if lost then Lost else Retry)))
        (master_without_reply m (master_text s.pre s.sent.message))
    pre_lost true s m accepted is = tt
    pre_lost false s m accepted is = pre_repeated s m accepted (grind (arith, accepted.few, is))

    -- Whatever came

    pub step_received : (r : Option Reply) (s : StartupState) (m : MasterState)
        → StepAccepted o s.sent s.step m
        → ModeFair o (next_state (startup_turned c s r))
        (heard_reply m (master_text startup_shape s.sent.message) s.sent.message r)
    step_received None s m accepted = step_lost (s.sent.tries == 2) s.sent s.step m accepted refl
    step_received (Some reply) s m accepted =
        subst (λ message. ModeFair o (next_state (step_after c s.step reply))
        (master_after_reply m message reply)) (sym accepted.message)
        (got_fair s.step m reply accepted.phase accepted.behind accepted.still)

    pub pre_received : (r : Option Reply) (s : PreoperateState) (m : MasterState)
        → PreAccepted o s m
        → ModeFair o (next_state (preoperate_turned s r))
        (heard_reply m (master_text s.pre s.sent.message) s.sent.message r)
    pre_received None s m accepted = pre_lost (s.sent.tries == 2) s m accepted refl
    pre_received (Some reply) s m accepted =
        got_pre s.cycle_written s.sent.message s.pre s.layouts m reply accepted.says accepted.phase
        accepted.pre accepted.are accepted.cycle accepted.still

    -- what came is that reply, or none

    pub startup_answer : (s : StartupState) (m : MasterState) (received : Option (List ℕ))
        → StepAccepted o s.sent s.step m
        → master_after_answer m (master_text startup_shape s.sent.message) received
        ≡ heard_reply m (master_text startup_shape s.sent.message) s.sent.message
        (good_reply startup_shape s.sent.message received)
    startup_answer s m received accepted =
        let parts : HasMasterParts startup_shape s.sent.message =
        subst (HasMasterParts startup_shape) (sym accepted.message)
        (step_parts s.step (within_behind s.step m.observed m.done accepted.behind)) in
        reply_accepted heard startup_shape m (ap phase_layout accepted.phase) s.sent.message
        parts received

    message_parts : (written : Bool) (message : MasterMsg) (pre : Shape) (layouts : Layouts)
        → PreMessage written pre message → layouts.pre ≡ Some pre → AreLayouts layouts
        → HasMasterParts pre message
    message_parts true message pre layouts says is are =
        rw says (pre_parts pre layouts 0 (command_octet DeviceOperate) (omega arith) is are)
    message_parts false message pre layouts says is are =
        rw says.1 (pre_parts pre layouts 1 says.0 (omega arith) is are)

    pub preoperate_answer : (s : PreoperateState) (m : MasterState) (received : Option (List ℕ))
        → PreAccepted o s m
        → master_after_answer m (master_text s.pre s.sent.message) received
        ≡ heard_reply m (master_text s.pre s.sent.message) s.sent.message
        (good_reply s.pre s.sent.message received)
    preoperate_answer s m received accepted =
        let layout : phase_layout m.phase ≡ s.pre = grind (arith, accepted.phase, accepted.pre) in
        reply_accepted heard s.pre m layout s.sent.message
        (message_parts s.cycle_written s.sent.message s.pre s.layouts accepted.says accepted.pre
        accepted.are)
        received

    -- A wake-up request that was answered

    pub woken_fair : (devices : Devices) (m : MasterState) (observed : List (Option ℕ))
        → length observed ≡ 10 → woken_output m.output ≡ o
        → ModeFair o (next_state (mode_after_wake devices true))
        (master_after_wake m observed WakeAnswered)
    woken_fair Own m observed places woken =
        step_accepted heard o (Read (record { items = [] }))
        (master_after_wake m observed WakeAnswered)
        refl refl (woken, refl, refl)
        (record { places = places; are = λ i h. grind arith }, omega arith)
    woken_fair Any m observed places woken =
        step_accepted heard o Reset (master_after_wake m observed WakeAnswered) refl refl
        (woken, refl, refl) places
