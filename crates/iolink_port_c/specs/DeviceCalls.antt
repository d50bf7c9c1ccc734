-- What the calls of C on the device, its page and its cycle time answer and leave, where the
-- handle is open.
use Rattle.std.specs.Prelude.{◌≡◌, ℕ, Option}
use Rattle.iol_page.specs.declared.cycle.CycleTime.{CycleTime}
use Rattle.iol_page.specs.declared.identity.Identity.{Identity}
use Rattle.iol_port.specs.declared.call.Call.TheVariants as call
use Rattle.iol_port.specs.declared.call.Answered.TheVariants as answered
use Rattle.iol_port.specs.declared.call.Counting.{Counting}
use Rattle.iol_port.specs.EveryWire.{ExpectGives, SetCycleGives}
use Rattle.iolink_port_forms.specs.Arguments.{IsCycleOf}
use Rattle.iolink_port_forms.specs.Answers.{counting_number}
use Rattle.iolink_port_c.specs.declared.held.IolPort.{IolPort}
use Rattle.iolink_port_c.specs.Calls.{held_parts, CallDoes}

-- this device is expected, or any
pub record HandleExpects (identity : Option Identity) (old : IolPort) (number counts : ℕ)
    (new : IolPort) : Type 0 where
  pub answer : Counting
  pub number_is : number ≡ 0
  pub counts_is : counts ≡ counting_number answer
  pub gives : ExpectGives (held_parts old) identity answer (held_parts new)
  pub does : CallDoes old (call.Expect identity) (answered.Counts answer) new

-- a start-up is to write the cycle time of so many microseconds
pub record Paces (micros : ℕ) (old : IolPort) (number counts : ℕ) (new : IolPort) : Type 0 where
  pub cycle : Option CycleTime
  pub cycle_is : IsCycleOf micros cycle
  pub answer : Counting
  pub number_is : number ≡ 0
  pub counts_is : counts ≡ counting_number answer
  pub gives : SetCycleGives (held_parts old) cycle answer (held_parts new)
  pub does : CallDoes old (call.Cycle cycle) (answered.Counts answer) new
