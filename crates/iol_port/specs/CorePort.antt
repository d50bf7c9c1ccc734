-- What the calls of a port are to whoever has the line.
use Rattle.std.specs.Prelude.{◌≡◌, ℕ, Bool, true, false, cond, List, ◌++◌, Option}
use Rattle.iol_far.specs.Far.{Far}
use Rattle.iol_link.specs.Honest.{HonestWake, HonestExchange}
use Rattle.iol_mode.specs.declared.states.State.{State}
use Rattle.iol_mode.specs.declared.states.State.TheVariants.{Down as AtDown}
use Rattle.iol_mode.specs.States.{is_reset}
use Rattle.iol_mode.specs.Exchanges.{text_out}
use Rattle.iol_mode.specs.Kinds.{SeesPulses}
use Rattle.iol_mode.specs.declared.configuration.Devices.{Devices}
use Rattle.iol_mode.specs.declared.configuration.Devices.TheVariants.{Own}
use Rattle.iol_book.specs.declared.limits.Limits.{Limits}
use Rattle.iol_app.specs.declared.report.Said.{Said}
use Rattle.iol_app.specs.Abstract.Steps.{through_steps}
use Rattle.iol_app.specs.Abstract.OfMaster.{resets, steps_for_book, steps_for_queue}
use Rattle.iol_app.specs.StationState.{IsSettledReport}
use Rattle.iol_app.specs.CoreTurns.{after_exchange, after_wake, received_mode}
use Rattle.iol_app.specs.WireResults.{wire_result_in, woken_by}
use Rattle.iol_app.specs.Pieces.{SendsMessage}
use Rattle.iol_port.specs.declared.awaited.AwaitedAnswer.{AwaitedAnswer}
use Rattle.iol_port.specs.declared.awaited.AwaitedAnswer.TheVariants.{Nothing, Wake, Reply}
use Rattle.iol_port.specs.declared.call.Call.{Call}
use Rattle.iol_port.specs.declared.call.Answered.{Answered}
use Rattle.iol_port.specs.declared.call.Answered.TheVariants as answered
use Rattle.iol_port.specs.Asks.{event_room}
use Rattle.iol_port.specs.EveryWire.{KeepsMemory, loss_left, core_begun, book_begun}
use Rattle.iol_port.specs.Run.{PortState, Piece, Send, Receive, CallOf, PieceOf, port_at_opening}
use Rattle.iol_port.specs.Counters.{call_counted, report_counted}
use Rattle.iol_port.specs.Clean.{IsLevelBetween}
use Rattle.iol_port.specs.Sound.{PortIsSound}
use Rattle.iol_port.specs.View.{PortParts, StandsFor, BookDoes, KeepsRecord}
use Rattle.iol_port.specs.Steps.{book_after, queued_after}

-- what waits for its answer
abbrev pub awaited_in : State → AwaitedAnswer
awaited_in (AtDown s) = Wake
awaited_in s = Reply

abbrev pub awaited_answer : PortParts → AwaitedAnswer
awaited_answer p = cond p.sent (awaited_in p.core.state) Nothing

-- With each far end of the line, and each silence up to now

-- whatever abstract port a port stands for: the call, with this reply, is that port's call, and
-- leads to one for which it stands afterwards
unfoldable pub IsCoreCall : PortParts → Call → Answered → PortParts → Type 0
IsCoreCall p c reply next =
    (far : Far) (silence : ℕ) (a : PortState) → StandsFor far silence p a
    → (b : PortState) × CallOf a c reply b × StandsFor far silence next b

pub record CoreDoes (p : PortParts) (c : Call) (reply : Answered) (next : PortParts) : Type 0 where
  pub follows : IsCoreCall p c reply next
  pub book : BookDoes c reply p.book.state next.book.state

-- it stands for the abstract port that is opened, with each device of these
abbrev pub CoreOpensFor : Devices → Limits → PortParts → Type 0
CoreOpensFor devices limits p = (far : Far) (silence : ℕ) → SeesPulses devices far
    → StandsFor far silence p (port_at_opening devices limits far silence)

abbrev pub CoreOpens : Limits → PortParts → Type 0
CoreOpens limits p = CoreOpensFor Own limits p

-- with each far end of which it stands for a sound abstract port, the record fits the journal,
-- and between requests both ends are level
abbrev pub CoreKeeps : PortParts → Type 0
CoreKeeps p =
    (far : Far) (silence : ℕ) (a : PortState) → StandsFor far silence p a → PortIsSound a
    → KeepsRecord far silence p × IsLevelBetween far p

-- one piece, after which the far end and the silence are these
abbrev pub PieceDoes : PortParts → Far → ℕ → Piece → PortParts → Far → ℕ → Type 0
PieceDoes p far silence piece next far_new silence_new =
    (a : PortState) → StandsFor far silence p a
    → (b : PortState) × PieceOf a piece answered.Nothing b
    × StandsFor far_new silence_new next b

-- what goes out
unfoldable pub SendDoes : PortParts → PortParts → Type 0
SendDoes p next = (far : Far) (silence : ℕ) → PieceDoes p far silence Send next far silence

-- what came back, where an honest exchange with that far end could bring it
unfoldable pub ReceiveDoes : PortParts → Option (List ℕ) → PortParts → Type 0
ReceiveDoes p received next =
    (far far_new : Far) (silence silence_new : ℕ)
    → HonestExchange far silence (text_out p.core.state) received far_new silence_new
    → PieceDoes p far silence Receive next far_new silence_new

-- what came of a wake, where an honest one could bring it
unfoldable pub WakeDoes : PortParts → Bool → PortParts → Type 0
WakeDoes p answered next =
    (far far_new : Far) (silence : ℕ) → HonestWake far answered far_new
    → PieceDoes p far silence Receive next far_new silence

-- On every line, honest or not

-- the next request is begun or denied where nothing was out, and a message is out: the one
-- that was, or a new one for what is due
-- PORT-8
pub record PortSendGives (old new : PortParts) : Type 0 where
  pub core : old.sent ≡ false
      → SendsMessage (event_room old.queued) (core_begun old) new.core
  pub book : old.sent ≡ false → new.book.state ≡ book_begun old
  pub memory : KeepsMemory old new
  pub queued : new.queued ≡ old.queued
  pub sent : new.sent ≡ true
  -- an exchange counts once it is answered
  pub counters : new.counters ≡ old.counters
  pub last_loss : new.last_loss ≡ old.last_loss

-- what came back is judged by what was sent and by what start-ups ask, and what that says goes
-- to the book and to the kept events; both are counted. A reset of the device ends what a request
-- that was cut off may still do
-- PORT-9
pub record PortReceiveGives (old : PortParts) (received : Option (List ℕ))
    (new : PortParts) :
    Type 0 where
  pub report : Said
  pub core : new.core
      ≡ after_exchange (received_mode old.core received) old.core.session
  pub report_is : IsSettledReport (received_mode old.core received) old.core.session report
  pub book : new.book.state
      ≡ through_steps book_after
      (resets (is_reset old.core.state) (is_reset new.core.state)
      ++ steps_for_book report)
      old.book.state
  pub memory : KeepsMemory old new
  pub queued : new.queued ≡ through_steps queued_after (steps_for_queue report) old.queued
  pub sent : new.sent ≡ false
  pub counters : new.counters
      ≡ report_counted report (call_counted (wire_result_in old.core.state received) old.counters)
  pub last_loss : new.last_loss ≡ loss_left old new

-- a start-up begins where the wake was answered, which ends what a request that was cut off
-- may still do where that has reset the device; else the link is still down
pub record WakeGives (old : PortParts) (answered : Bool) (new : PortParts) :
    Type 0 where
  pub core : new.core ≡ after_wake answered old.core.session
  pub book : new.book.state
      ≡ through_steps book_after
      (resets (is_reset old.core.state) (is_reset new.core.state)) old.book.state
  pub memory : KeepsMemory old new
  pub queued : new.queued ≡ old.queued
  pub sent : new.sent ≡ false
  pub counters : new.counters ≡ call_counted (woken_by answered) old.counters
  pub last_loss : new.last_loss ≡ loss_left old new
