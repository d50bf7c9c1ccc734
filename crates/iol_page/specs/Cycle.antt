-- Cycle times as octets (IEC 61131-9, B.1.3).
use Rattle.std.specs.Prelude.{ℕ, ◌+◌, ◌-◌, ◌*◌, ◌<◌, ◌≤◌, nat_lt, if◌then◌else◌, max, Option, Some, None}
use Rattle.iol_page.specs.declared.cycle.CycleTime.{CycleTime}
use Rattle.iol_page.specs.declared.cycle.CycleFault.{CycleFault}
use Rattle.iol_page.specs.declared.cycle.CycleFault.TheVariants.{BadCycleTime}
use Rattle.iol_page.specs.declared.cycle.TheConstants.{BAD_CYCLE_TIME}

-- bits 7 and 6 are the time base, of which 3 is reserved, the other bits the multiplier
-- PAGE-8
abbrev pub cycle_fault : ℕ → Option CycleFault
cycle_fault octet = if nat_lt octet 192 then None else Some BadCycleTime

-- in microseconds: multiples of 0.1 ms; of 0.4 ms from 6.4 ms on; of 1.6 ms from 32 ms on
-- PAGE-8
abbrev pub micros_of : ℕ → ℕ
micros_of octet =
    if nat_lt octet 64 then 100 * octet else
    if nat_lt octet 128 then 6400 + 400 * (octet - 64) else
    32000 + 1600 * (octet - 128)

-- no cycle time that takes at least so long is shorter
abbrev pub IsShortest : ℕ → CycleTime → Type 0
IsShortest micros cycle = (octet : ℕ) → octet < 192 → micros ≤ micros_of octet
    → cycle.octet ≤ octet

-- the longest one
abbrev pub longest_cycle : ℕ
longest_cycle = 132800

-- a longer cycle time has the larger octet, and the other way round
abbrev pub CyclesAreOrdered : Type 0
CyclesAreOrdered = (a b : ℕ) → a < b → b < 192 → micros_of a < micros_of b

-- the cycle time of a start-up: the one that was chosen, where it is at least the least one that
-- the device has, else that one
-- LINK-12
abbrev pub cycle_for : Option CycleTime → ℕ → ℕ
cycle_for None least = least
cycle_for (Some chosen) least = max chosen.octet least

abbrev pub cycle_fault_number : CycleFault → ℕ
cycle_fault_number BadCycleTime = BAD_CYCLE_TIME
