-- Times on the line, in nanoseconds (IEC 61131-9, A.3).
use Rattle.std.specs.Prelude.{ℕ, ◌+◌, ◌-◌, ◌*◌, ◌/◌, nat_lt, nat_le, if◌then◌else◌}
use Rattle.iol_link.specs.declared.wire.Rate.{Rate}
use Rattle.iol_link.specs.declared.wire.Rate.TheVariants.{Com1, Com2, Com3}
use Rattle.iol_capture.specs.declared.gap.TheConstants.{FRAME, TOLERANCE, IN_MESSAGE, IN_REPLY, BEFORE_REPLY, RESPONSE}
use Rattle.iol_capture.specs.declared.gap.Gap.{Gap}
use Rattle.iol_capture.specs.declared.gap.Gap.TheVariants.{Overlap, Close, Message, Reply, Response, Pause}

-- T_BIT: 1/4,800, 1/38,400 and 1/230,400 s
abbrev pub bit_time : Rate → ℕ
bit_time Com1 = 208333
bit_time Com2 = 26042
bit_time Com3 = 4340

-- so many halves of it
abbrev pub halves : Rate → ℕ → ℕ
halves rate count = count * bit_time rate / 2

-- what is between two octets, by the time from the begin of the first to the begin of the second
abbrev pub gap_of : Rate → ℕ → Gap
gap_of rate elapsed =
    if nat_lt elapsed (halves rate (FRAME - TOLERANCE)) then Overlap else
    if nat_lt elapsed (halves rate (FRAME + BEFORE_REPLY - TOLERANCE)) then Close else
    if nat_le elapsed (halves rate (FRAME + IN_MESSAGE + TOLERANCE)) then Message else
    if nat_le elapsed (halves rate (FRAME + IN_REPLY + TOLERANCE)) then Reply else
    if nat_le elapsed (halves rate (FRAME + RESPONSE + TOLERANCE)) then Response else Pause
