-- Flow control on the ISDU channel (IEC 61131-9, 7.3.6).
use Rattle.std.specs.Prelude.{ℕ, ◌≤◌}
use Rattle.iol_octets.specs.SegmentNumber.{IsSegmentNumber}
use Rattle.iol_octets.specs.declared.flow_control.Flow.{Flow}
use Rattle.iol_octets.specs.declared.flow_control.Flow.TheVariants.{Start, Count, Idle1, Idle2, Abort, Reserved}

-- the address that stands for a flow
-- OCT-2
abbrev pub flow_address : Flow → ℕ
flow_address Start = 0x10
flow_address (Count n) = n
flow_address Idle1 = 0x11
flow_address Idle2 = 0x12
flow_address Abort = 0x1F
flow_address (Reserved n) = n

-- the numbers that a flow may hold
abbrev pub IsFlow : Flow → Type 0
IsFlow Start = Unit {0}
IsFlow (Count n) = IsSegmentNumber n
IsFlow Idle1 = Unit {0}
IsFlow Idle2 = Unit {0}
IsFlow Abort = Unit {0}
IsFlow (Reserved n) = (0x13 ≤ n) × (n ≤ 0x1E)
