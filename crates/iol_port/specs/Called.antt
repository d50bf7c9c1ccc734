-- One word for each call, at whatever has a port's parts: a port, its core, one under a lock. Who
-- hands a call on says that word.
use Rattle.std.specs.Prelude.{◌≡◌, ℕ, Option, Result, List, length}
use Rattle.std.specs.Result.{result_map_both}
use Rattle.iol_isdu.specs.declared.values.Request.{Request}
use Rattle.iol_event.specs.declared.event.Event.{Event}
use Rattle.iol_page.specs.declared.cycle.CycleTime.{CycleTime}
use Rattle.iol_page.specs.declared.identity.Identity.{Identity}
use Rattle.iol_book.specs.declared.entries.Ticket.{Ticket}
use Rattle.iol_book.specs.declared.entries.Serve.{Serve}
use Rattle.iol_book.specs.declared.entries.Entry.{Entry}
use Rattle.iol_book.specs.declared.entries.Outcome.{Outcome}
use Rattle.iol_book.specs.BookModel.{book_after_submit, book_after_urgent}
use Rattle.iol_link.specs.WireFacts.{WireFacts}
use Rattle.iol_mode.specs.declared.why.Why.{Why}
use Rattle.iol_app.specs.Abstract.Steps.{ImageOctets}
use Rattle.iol_app.specs.Asking.{IsCall}
use Rattle.iol_port.specs.declared.call.Call.{Call}
use Rattle.iol_port.specs.declared.call.Call.TheVariants as call
use Rattle.iol_port.specs.declared.call.Answered.{Answered}
use Rattle.iol_port.specs.declared.call.Answered.TheVariants as answered
use Rattle.iol_app.specs.declared.core_data.Status.{Status}
use Rattle.iol_port.specs.declared.call.Counting.{Counting}
use Rattle.iol_port.specs.declared.counters.Counters.{Counters}
use Rattle.iol_port.specs.declared.fault.PortFault.{PortFault}
use Rattle.iol_port.specs.Asks.{asks_of}
use Rattle.iol_port.specs.Replies.{ticket_reply, outcome_reply, nothing_reply, event_reply, result_reply, drained_answer}
use Rattle.iol_port.specs.View.{PortParts, PortValue, Does, over, writer_after_publish, status_of}
use Rattle.iol_port.specs.Clean.{CleanTurn}
use Rattle.iol_port.specs.CorePort.{CoreDoes}
use Rattle.iol_port.specs.EveryWire.{SubmitGives, CollectGives, WithdrawGives, CancelGives, AbandonGives, ServeGives, ArchiveGives, DrainGives, DrainIntoGives, TakeEventGives, SetOutputGives, ClearOutputGives, ExpectGives, SetCycleGives, RestartGives, PortTurnGives, page_shown}

-- A call between two moments of whatever has a port's parts: the parts then, and what is said of
-- the call, of its reply and of what else it gives
pub record CallAt : Type 1 where
  pub old : PortParts
  pub new : PortParts
  pub Says : Call → Answered → Type 0 → Type 0

module _ (at : CallAt) where
  open at use {old, new, Says}

  abbrev pub Submits : Request → Result Ticket PortFault → Type 0
  Submits request result = Says (call.Submit request) (ticket_reply result)
      (SubmitGives old (book_after_submit old.book.state request) result new)

  abbrev pub SubmitsUrgent : Request → Result Ticket PortFault → Type 0
  SubmitsUrgent request result = Says (call.SubmitUrgent request) (ticket_reply result)
      (SubmitGives old (book_after_urgent old.book.state request) result new)

  abbrev pub Collects : Ticket → Result Outcome PortFault → Type 0
  Collects ticket result = Says (call.Collect ticket) (outcome_reply result)
      (CollectGives old ticket result new)

  abbrev pub Withdraws : Ticket → Result (Unit {0}) PortFault → Type 0
  Withdraws ticket result = Says (call.Withdraw ticket) (nothing_reply result)
      (WithdrawGives old ticket result new)

  abbrev pub Cancels : Ticket → Result (Unit {0}) PortFault → Type 0
  Cancels ticket result = Says (call.Cancel ticket) (nothing_reply result)
      (CancelGives old ticket result new)

  abbrev pub Abandons : Ticket → Result (Unit {0}) PortFault → Type 0
  Abandons ticket result = Says (call.Abandon ticket) (nothing_reply result)
      (AbandonGives old ticket result new)

  abbrev pub Serves : Serve → Type 0
  Serves which = Says (call.Serve which) answered.Nothing (ServeGives old which new)

  abbrev pub Restarts : Type 0
  Restarts = Says call.Restart answered.Nothing (RestartGives old new)

  abbrev pub SetsOutput : ImageOctets → Result (Unit {0}) PortFault → Type 0
  SetsOutput image result = Says (call.SetOutput image) (nothing_reply result)
      (SetOutputGives old image result new)

  abbrev pub ClearsOutput : Type 0
  ClearsOutput = Says call.ClearOutput answered.Nothing (ClearOutputGives old new)

  abbrev pub Expects : Option Identity → Counting → Type 0
  Expects identity result = Says (call.Expect identity) (answered.Counts result)
      (ExpectGives old identity result new)

  abbrev pub SetsCycle : Option CycleTime → Counting → Type 0
  SetsCycle cycle result = Says (call.Cycle cycle) (answered.Counts result)
      (SetCycleGives old cycle result new)

  abbrev pub TakesEvent : Result Event PortFault → Type 0
  TakesEvent result = Says call.TakeEvent (event_reply result) (TakeEventGives old result new)

  -- with the entries of what is handed out
  abbrev pub Archives : {X : Type 0} → (X → List Entry) → Result X PortFault → Type 0
  Archives entries result = Says call.Archive
      (result_reply (λ x. answered.Archived (length (entries x))) result)
      (ArchiveGives old (result_map_both entries (λ why. why) result) new)

  abbrev pub Drains : {X : Type 0} → (X → List Entry) → Result X PortFault → Type 0
  Drains entries result = Says call.Drain
      (result_reply (λ x. drained_answer (length (entries x)) old.book.state.restated) result)
      (DrainGives old (result_map_both entries (λ why. why) result) new)

  -- the same at the end of a list, which becomes the other
  abbrev pub DrainsInto : List Entry → List Entry → Result ℕ PortFault → Type 0
  DrainsInto list list_new result = Says call.Drain
      (result_reply (λ count. drained_answer (length old.book.state.journal) count) result)
      (DrainIntoGives old list list_new result new)

  -- and those that only look
  abbrev pub ShowsPage : Option (List ℕ) → Type 0
  ShowsPage page = Says call.Page (answered.Page page) (page ≡ page_shown old)

  abbrev pub ShowsCounters : Counters → Type 0
  ShowsCounters counters = Says call.Counters (answered.Counters counters)
      (counters ≡ old.counters)

  abbrev pub ShowsLastLoss : Option Why → Type 0
  ShowsLastLoss loss = Says call.LastLoss (answered.LastLoss loss) (loss ≡ old.last_loss)

  abbrev pub ShowsImage : Option ImageOctets → Type 0
  ShowsImage image = Says call.Look (answered.Image image) (image ≡ old.core.session.image)

  abbrev pub ShowsStatus : Status → Type 0
  ShowsStatus status = Says call.Status (answered.Status status)
      (status ≡ status_of old.core)

-- A core's call, with whatever far end
pub record CoreCalled (old new : PortParts) (c : Call) (reply : Answered) (effect : Type 0) :
    Type 0 where
  pub does : CoreDoes old c reply new
  pub gives : effect

-- a port's call changes nothing but its parts: the wire stays as it is
pub record MakesCall {W : Type 0} (old new : PortValue W) (c : Call) (reply : Answered)
    (effect : Type 0) : Type 0 where
  pub does : CoreDoes old.parts c reply new.parts
  pub gives : effect
  pub rest : new ≡ record old { parts = new.parts }

-- a core's call, and what a core shows
abbrev pub core_call : PortParts → PortParts → CallAt
core_call old new = record { old = old; new = new; Says = CoreCalled old new }

abbrev pub core_look : PortParts → CallAt
core_look p = record { old = p; new = p; Says = CoreCalled p p }

-- a port's
abbrev pub port_call : {W : Type 0} → PortValue W → PortValue W → CallAt
port_call old new = record { old = old.parts; new = new.parts; Says = MakesCall old new }

-- a turn makes the one call of the wire that the port asks for
pub record Turns {W : Type 0} (facts : WireFacts W) (old new : PortValue W) : Type 0 where
  pub does : Does facts (over old) call.Turn answered.Nothing (over new)
  pub clean : CleanTurn facts (over old) (over new)
  pub gives : PortTurnGives facts (over old) (over new)
  pub asked : IsCall facts (asks_of old.parts) old.wire new.wire
  pub rest : new ≡ record old { parts = new.parts; wire = new.wire }

-- a call behind which the image is published, once, where a writer was given
pub record PublishesAfter {W : Type 0} (Does : PortValue W → Type 0)
    (old new : PortValue W) : Type 0 where
  pub call : Does (record new { writer = old.writer })
  pub shown : new.writer ≡ writer_after_publish new.parts.core.session.image old.writer
