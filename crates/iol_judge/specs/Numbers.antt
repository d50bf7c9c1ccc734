-- The number of each reason.
use Rattle.std.specs.Prelude.{ℕ, nat_lt, if◌then◌else◌}
use Rattle.iol_judge.specs.declared.reason.Reason.{Reason}
use Rattle.iol_judge.specs.declared.reason.Reason.TheVariants.{NotTaken, ReplyLength, StatusWithoutData, InvalidNotZero, FlagAtConfirm, FlagGone, StatusCode, EventOctet, PageChanged, PageZero, CycleTime, ProcessNotZero, RestNotZero, NoAnswerDue, NotBusy, BusyAgain, AnswerKind, AnswerLength, AnswerSum, AnswerPadding, SegmentChanged}
use Rattle.iol_judge.specs.declared.open.Open.{Open}
use Rattle.iol_judge.specs.declared.open.Open.TheVariants.{PageUnread, PageRefused, TooManyStates}
use Rattle.iol_judge.specs.declared.open.TheConstants.{PAGE_UNREAD, PAGE_REFUSED, TOO_MANY_STATES}
use Rattle.iol_judge.specs.declared.reason.TheConstants.{NOT_TAKEN, REPLY_LENGTH, STATUS_WITHOUT_DATA, INVALID_NOT_ZERO, FLAG_AT_CONFIRM, FLAG_GONE, STATUS_CODE, EVENT_OCTET, PAGE_CHANGED, PAGE_ZERO, CYCLE_TIME, PROCESS_NOT_ZERO, REST_NOT_ZERO, NO_ANSWER_DUE, NOT_BUSY, BUSY_AGAIN, ANSWER_KIND, ANSWER_LENGTH, ANSWER_SUM, ANSWER_PADDING, SEGMENT_CHANGED}

abbrev pub reason_number : Reason → ℕ
reason_number NotTaken = NOT_TAKEN
reason_number ReplyLength = REPLY_LENGTH
reason_number StatusWithoutData = STATUS_WITHOUT_DATA
reason_number InvalidNotZero = INVALID_NOT_ZERO
reason_number FlagAtConfirm = FLAG_AT_CONFIRM
reason_number FlagGone = FLAG_GONE
reason_number StatusCode = STATUS_CODE
reason_number EventOctet = EVENT_OCTET
reason_number PageChanged = PAGE_CHANGED
reason_number PageZero = PAGE_ZERO
reason_number CycleTime = CYCLE_TIME
reason_number ProcessNotZero = PROCESS_NOT_ZERO
reason_number RestNotZero = REST_NOT_ZERO
reason_number NoAnswerDue = NO_ANSWER_DUE
reason_number NotBusy = NOT_BUSY
reason_number BusyAgain = BUSY_AGAIN
reason_number AnswerKind = ANSWER_KIND
reason_number AnswerLength = ANSWER_LENGTH
reason_number AnswerSum = ANSWER_SUM
reason_number AnswerPadding = ANSWER_PADDING
reason_number SegmentChanged = SEGMENT_CHANGED

abbrev pub open_number : Open → ℕ
open_number PageUnread = PAGE_UNREAD
open_number PageRefused = PAGE_REFUSED
open_number TooManyStates = TOO_MANY_STATES

-- of two reasons the one of the later look at a reply
abbrev pub later : Reason → Reason → Reason
later a b = if nat_lt (reason_number a) (reason_number b) then b else a

-- of two reasons the one of the earlier look at a reply
abbrev pub earlier : Reason → Reason → Reason
earlier a b = if nat_lt (reason_number b) (reason_number a) then b else a
