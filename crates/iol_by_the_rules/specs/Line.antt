-- A port with a line of one's own, and a watch that is told what goes over that line.
use Rattle.std.specs.Prelude.{◌≡◌, ℕ, Bool, true, false, List, [], ◌∷◌, length, Option, IfSome, IsTrue}
use Rattle.iol_isdu.specs.Texts.{IsRequest}
use Rattle.iol_judge.specs.declared.verdict.Wake.{Wake}
use Rattle.iol_judge.specs.declared.verdict.Wake.TheVariants.{Answered as WakeAnswered, Unanswered}
use Rattle.iol_judge.specs.declared.master_verdict.MasterVerdict.{MasterVerdict}
use Rattle.iol_judge.specs.declared.master_verdict.MasterVerdict.TheVariants.{NotByTheRules}
use Rattle.iol_judge.specs.Watched.{WatchState, watch_after_exchange, watch_after_wake}
use Rattle.iol_mode.specs.Exchanges.{text_out}
use Rattle.iol_mode.specs.declared.configuration.Devices.{Devices}
use Rattle.iol_book.specs.declared.limits.Limits.{Limits}
use Rattle.iol_port.specs.declared.awaited.AwaitedAnswer.TheVariants as awaits
use Rattle.iol_port.specs.declared.call.Call.{Call}
use Rattle.iol_port.specs.declared.call.Call.TheVariants.{Restart}
use Rattle.iol_port.specs.declared.call.Answered.{Answered}
use Rattle.iol_port.specs.Asks.{begun_next}
use Rattle.iol_port.specs.CorePort.{PortReceiveGives, PortSendGives, WakeGives, awaited_answer}
use Rattle.iol_port.specs.EveryWire.{CoreCallGives, takes_next}
use Rattle.iol_port.specs.View.{IsNewFor, PortParts}

-- what is done at the port
pub data Deed : Type 0 where
  -- `send`
  Sends : Deed
  -- `receive`, of these octets or of nothing
  Receives : Option (List ℕ) → Deed
  -- `receive_wake`, where the wake-up request was answered or not
  Wakes : Bool → Deed
  -- another call, with its answer
  Calls : Call → Answered → Deed

-- the request that a sending begins
abbrev pub BeginsRequest : PortParts → Type 0
BeginsRequest p = p.sent ≡ false → IsTrue (takes_next p) → IfSome (begun_next p) IsRequest

-- each as the clauses of `PortCore` say it
abbrev pub DeedGives : PortParts → Deed → PortParts → Type 0
DeedGives p Sends next = (IsTrue p.sent → next ≡ p) × PortSendGives p next × BeginsRequest p
DeedGives p (Receives received) next = (awaited_answer p ≡ awaits.Reply)
    × PortReceiveGives p received next
DeedGives p (Wakes answered) next = (awaited_answer p ≡ awaits.Wake) × WakeGives p answered next
DeedGives p (Calls call reply) next = (call ≡ Restart → awaited_answer p ≡ awaits.Nothing)
    × CoreCallGives p call reply next

abbrev pub wake_observed : Bool → Wake
wake_observed true = WakeAnswered
wake_observed false = Unanswered

-- what the watch is told of it: each wake-up request, and each message with what came to it. The
-- octets are those that `send` gave
abbrev pub watch_after_deed : WatchState → PortParts → Deed → WatchState
watch_after_deed w p (Receives received) = watch_after_exchange w (text_out p.core.state) received
watch_after_deed w p (Wakes answered) = watch_after_wake w (wake_observed answered)
watch_after_deed w p other = w

abbrev pub blames : MasterVerdict → Bool
blames (NotByTheRules number fault) = true
blames verdict = false

-- these are done, one after the other, and the watch is told them
abbrev pub IsWatchedRun : PortParts → WatchState → List Deed → PortParts → WatchState → Type 0
IsWatchedRun p w [] q v = (q ≡ p) × (v ≡ w)
IsWatchedRun p w (it ∷ more) q v = (next : PortParts) × DeedGives p it next
    × IsWatchedRun next (watch_after_deed w p it) more q v

-- From a port as it is opened, for our own devices or for any, and a watch that has blamed nothing:
-- whatever comes back, and whatever calls come between, no message is blamed. A watch has ten
-- places for the page
abbrev pub PortsAreByTheRules : Type 0
PortsAreByTheRules = (devices : Devices) (limits : Limits) (p q : PortParts) (w v : WatchState)
    (all : List Deed) → IsNewFor devices limits p → length w.preset ≡ 10
    → blames w.verdict ≡ false → IsWatchedRun p w all q v → blames v.verdict ≡ false
