-- The request under way and the device's record: where each step is allowed, and what it does.
use Rattle.std.specs.Prelude.{◌≡◌, ◌⊎◌, ℕ, ◌+◌, ◌≤◌, true, false, List, Option, Some, None, IsSome, IsSomeAnd, IsTrue, ⊤, Bool}
use Rattle.iol_isdu.specs.declared.values.Request.{Request}
use Rattle.iol_isdu.specs.declared.values.Answer.{Answer}
use Rattle.iol_isdu.specs.declared.values.Cause.{Cause}
use Rattle.iol_isdu.specs.declared.values.Cause.TheVariants.{LinkLost, Restarted, BusyTooLong, Protocol, Cancelled}
use Rattle.iol_page.specs.Identity.{identity_of}
use Rattle.iol_page.specs.Page.{is_old, is_present, knows_isdu}
use Rattle.iol_far.specs.declared.carried.Carried.{Carried}
use Rattle.iol_far.specs.Level.{grown_by}
use Rattle.iol_link.specs.Attempts.{most_attempts}
use Rattle.iol_app.specs.declared.mode.Mode.{Mode}
use Rattle.iol_app.specs.declared.mode.Mode.TheVariants.{Down, Startup, Preoperate, Operate}
use Rattle.iol_mode.specs.declared.configuration.Devices.{Devices}
use Rattle.iol_mode.specs.declared.configuration.Devices.TheVariants.{Own, Any}
use Rattle.iol_mode.specs.declared.why.Why.{Why}
use Rattle.iol_mode.specs.declared.why.Why.TheVariants.{NoWake, Lost, WrongDevice, Interleaved}
use Rattle.iol_mode.specs.States.{is_left_out}
use Rattle.iol_app.specs.Abstract.Steps.{PortStep, Take, Deny, Carry, Redeliver, Done, Unknown, LateCarry, Unreport, Start, Reset, Busy, Move, WireCall, Woke, Exchanged, Moment, silence_left, page_refusal, is_right, Terms, may_repeat, may_misread, doubts_at}

-- the request under way, the answer that the device gave it, its busy replies, and
-- whether the program asked to cut it off
pub record Job : Type 0 where
  pub request : Request
  pub answer : Option Answer
  pub busy : ℕ
  pub asked : Bool

pub record Session : Type 0 where
  pub job : Option Job
  -- a request that was cut off and may yet be carried out
  pub late : Option Request
  -- what the device carried out
  pub carried : List Carried
  pub mode : Mode
  pub why : Option Why

-- where a request may be cut off in a turn
abbrev pub MayCut : Moment → Cause → Job → Type 0
MayCut moment LinkLost job = most_attempts ≤ silence_left moment
MayCut moment BusyTooLong job = moment.terms.busy_limit ≤ job.busy
-- where the program asked for it
MayCut moment Cancelled job = IsTrue job.asked
-- in a restart call alone
MayCut moment Restarted job = ⊥
-- on an honest wire only where it can't be known what the device made of it
MayCut moment Protocol job = IsTrue (doubts_at moment.terms.devices moment.terms.kind.recalls)

-- an answer is told that the device gave, or another where other octets may be taken for it
abbrev pub MayAnswer : Terms → Answer → Option Answer → Type 0
MayAnswer terms answer answered = (answered ≡ Some answer)
    ⊎ (IsTrue (may_misread terms) × IsSome answered)

-- where the mode may change: up by one, where a device of V1.0 has no PREOPERATE,
-- or to down for a cause
abbrev pub MayMove : Moment → Mode → Mode → Option Why → Type 0
MayMove moment Startup Preoperate None = IsTrue (is_present moment.terms.page)
MayMove moment Startup Operate None = IsTrue (is_old moment.terms.page)
MayMove moment Preoperate Operate None = ⊤
MayMove moment Down Down (Some NoWake) = moment.call ≡ Woke false
MayMove moment Startup Down (Some Lost) = most_attempts ≤ silence_left moment
MayMove moment Preoperate Down (Some Lost) = most_attempts ≤ silence_left moment
MayMove moment Operate Down (Some Lost) = most_attempts ≤ silence_left moment
MayMove moment Startup Down (Some (WrongDevice found)) =
    (identity_of moment.terms.page ≡ found) × (is_right moment.terms ≡ false)
MayMove moment Startup Down (Some Interleaved) =
    is_left_out moment.terms.devices moment.terms.page ≡ true
MayMove moment Startup Down (Some fault) = page_refusal moment.terms.page ≡ Some fault
MayMove moment old new why = ⊥

-- a start-up goes on only where the device holds nothing of before
abbrev pub HoldsNothing : Mode → Option Request → Type 0
HoldsNothing Preoperate late = late ≡ None
HoldsNothing Operate late = late ≡ None
HoldsNothing mode late = ⊤

-- our own device is reset by the wake that it answers; any has left its mode where it replied to a
-- message behind DeviceStartup
abbrev pub MayReset : Devices → Mode → WireCall → Type 0
MayReset Own mode call = (mode ≡ Down) × (call ≡ Woke true)
MayReset Any mode call = (mode ≡ Startup) × (call ≡ Exchanged true)

-- REQ-12
abbrev pub MaySession : Moment → PortStep → Session → Type 0
MaySession moment (Take ticket request) s = IsTrue (knows_isdu moment.terms.page) × (s.job ≡ None)
    × (s.late ≡ None) × (s.mode ≡ Operate)
MaySession moment (Deny ticket) s = (knows_isdu moment.terms.page ≡ false) × (s.job ≡ None)
    × (s.late ≡ None) × (s.mode ≡ Operate)
MaySession moment (Carry answer) s = IsSomeAnd s.job (λ job. job.answer ≡ None)
MaySession moment Redeliver s = IsSomeAnd s.job (λ job. IsSome job.answer
    × IsTrue (may_repeat moment.terms job.request))
MaySession moment (Done answer) s =
    IsSomeAnd s.job (λ job. MayAnswer moment.terms answer job.answer)
MaySession moment (Unknown cause) s = IsSomeAnd s.job (MayCut moment cause)
MaySession moment (LateCarry answer) s = IsSome s.late
MaySession moment Busy s = IsSomeAnd s.job (λ job. job.answer ≡ None)
MaySession moment Start s = (moment.terms.devices ≡ Any) × (s.mode ≡ Down)
    × (moment.call ≡ Woke true)
MaySession moment Reset s = MayReset moment.terms.devices s.mode moment.call
MaySession moment Unreport s = (moment.terms.devices ≡ Any) × (s.mode ≡ Operate)
    × (moment.call ≡ Exchanged false)
MaySession moment (Move mode why) s = MayMove moment s.mode mode why × HoldsNothing mode s.late
MaySession moment step s = ⊤

-- the request under way has no answer any more
abbrev pub taken_back : Option Job → Option Job
taken_back None = None
taken_back (Some job) = Some (record job { answer = None })

-- the answer goes to the request under way, and both to the record
abbrev pub carried_out : Answer → Option Job → Session → Session
carried_out answer None s = s
carried_out answer (Some job) s =
    record s {
      job = Some (record job { answer = Some answer });
      carried = grown_by s.carried job.request answer;
    }

abbrev pub carried_late : Answer → Option Request → Session → Session
carried_late answer None s = s
carried_late answer (Some request) s =
    record s { late = None; carried = grown_by s.carried request answer }

-- the request itself, where the device has not answered it
abbrev pub unanswered_request : Option Answer → Request → Option Request
unanswered_request None request = Some request
unanswered_request (Some answer) request = None

-- what is left of a request that the loss of the link or a restart cuts off
-- REQ-12
abbrev pub left_of : Option Job → Option Request
left_of None = None
left_of (Some job) = unanswered_request job.answer job.request

abbrev pub cut_for : Cause → Session → Session
cut_for LinkLost s = record s { job = None; late = left_of s.job }
cut_for Restarted s = record s { job = None; late = left_of s.job }
cut_for BusyTooLong s = record s { job = None }
cut_for Protocol s = record s { job = None }
-- the device replied to the ABORT, so that it has the request no more
cut_for Cancelled s = record s { job = None }

abbrev pub job_to_cancel : Option Job → Option Job
job_to_cancel None = None
job_to_cancel (Some job) = Some (record job { asked = true })

-- the program asks to cut off the request under way
abbrev pub session_cancelling : Session → Session
session_cancelling s = record s { job = job_to_cancel s.job }

abbrev pub busy_once_more : Option Job → Option Job
busy_once_more None = None
busy_once_more (Some job) = Some (record job { busy = job.busy + 1 })

abbrev pub session_after : PortStep → Session → Session
session_after (Take ticket request) s =
    record s { job = Some (record { request = request; answer = None; busy = 0; asked = false }) }
session_after (Carry answer) s = carried_out answer s.job s
session_after Redeliver s = record s { job = taken_back s.job }
session_after (Done answer) s = record s { job = None }
session_after (Unknown cause) s = cut_for cause s
session_after (LateCarry answer) s = carried_late answer s.late s
session_after Busy s = record s { job = busy_once_more s.job }
session_after Start s = record s { mode = Startup; why = None }
session_after Reset s = record s { late = None; mode = Startup; why = None }
session_after (Move mode why) s = record s { mode = mode; why = why }
session_after step s = s
