-- What a turn's exchange brought the master: its steps after the far end's own, and
-- what the turn says.
use Rattle.std.specs.Prelude.{Bool, true, false, not, ◌&&◌, cond, List, [], ◌∷◌, Option, Some, None}
use Rattle.iol_isdu.specs.declared.values.Request.{Request}
use Rattle.iol_isdu.specs.declared.values.Answer.{Answer}
use Rattle.iol_isdu.specs.declared.values.Cause.{Cause}
use Rattle.iol_isdu.specs.declared.values.Cause.TheVariants.{LinkLost, Restarted}
use Rattle.iol_event.specs.declared.event.Event.{Event}
use Rattle.iol_app.specs.declared.mode.Mode.{Mode}
use Rattle.iol_app.specs.declared.mode.Mode.TheVariants.{Down}
use Rattle.iol_mode.specs.declared.why.Why.{Why}
use Rattle.iol_mode.specs.declared.why.Why.TheVariants.{Lost}
use Rattle.iol_app.specs.declared.report.Said.{Said}
use Rattle.iol_app.specs.declared.report.Said.TheVariants.{Idle, Busy as SaidBusy, Answered, Cut, Reported}
use Rattle.iol_app.specs.Abstract.Steps.{PortStep, Take, Deny, Done, Unknown, Reset, Report, Unreport, ShowImage, DropImage, PageRead, Busy, Move}

pub data ExchangeResult : Type 0 where
  -- no good reply, and not for the third time
  Missed : ExchangeResult
  -- the same to a confirm, at a port for any device
  Unconfirmed : ExchangeResult
  -- no good reply for the third time: the link is lost
  Gone : ExchangeResult
  -- good replies in OPERATE: a busy reply, the whole answer, the reply to an ABORT,
  -- the last octet of the events, any other
  WasBusy : ExchangeResult
  WasAnswered : Answer → ExchangeResult
  WasAborted : Cause → ExchangeResult
  WasReported : List Event → ExchangeResult
  PlainReply : ExchangeResult
  -- good replies in start-up: the page is checked; it has a fault; the next mode; any other
  Checked : ExchangeResult
  Faulted : Why → ExchangeResult
  Rose : Mode → ExchangeResult
  Went : ExchangeResult

-- a loss cuts off the request under way
-- REQ-11
abbrev pub lost_steps : Option Request → List PortStep
lost_steps None = DropImage ∷ Move Down (Some Lost) ∷ []
lost_steps (Some request) = Unknown LinkLost ∷ DropImage ∷ Move Down (Some Lost) ∷ []

abbrev pub received_steps : ExchangeResult → Option Request → List PortStep
received_steps Missed request = []
received_steps Unconfirmed request = Unreport ∷ []
received_steps Gone request = lost_steps request
received_steps WasBusy request = Busy ∷ ShowImage ∷ []
received_steps (WasAnswered answer) request = Done answer ∷ ShowImage ∷ []
received_steps (WasAborted cause) request = Unknown cause ∷ ShowImage ∷ []
received_steps (WasReported events) request = Report events ∷ ShowImage ∷ []
received_steps PlainReply request = ShowImage ∷ []
received_steps Checked request = PageRead ∷ []
received_steps (Faulted why) request = Move Down (Some why) ∷ []
received_steps (Rose mode) request = Move mode None ∷ []
received_steps Went request = []

-- a restart cuts it off too
-- REQ-11
abbrev pub restart_steps : Option Request → List PortStep
restart_steps None = DropImage ∷ Move Down None ∷ []
restart_steps (Some request) = Unknown Restarted ∷ DropImage ∷ Move Down None ∷ []

-- what the turn says where nothing ended in it
abbrev pub quiet_report : Option Request → Said
quiet_report None = Idle
quiet_report (Some request) = SaidBusy

abbrev pub lost_report : Option Request → Said
lost_report None = Idle
lost_report (Some request) = Cut LinkLost

-- What a turn says of its steps

-- the steps that the book hears of
abbrev pub is_for_book : PortStep → Bool
is_for_book (Take ticket request) = true
is_for_book (Deny ticket) = true
is_for_book (Done answer) = true
is_for_book (Unknown cause) = true
is_for_book Reset = true
is_for_book step = false

-- what a turn says tells of its steps
abbrev pub steps_for_book : Said → List PortStep
steps_for_book (Answered answer) = Done answer ∷ []
steps_for_book (Cut cause) = Unknown cause ∷ []
steps_for_book report = []

abbrev pub steps_for_queue : Said → List PortStep
steps_for_queue (Reported events) = Report events ∷ []
steps_for_queue report = []

-- the device wasn't known to be reset when a turn began, and is behind it
abbrev pub resets : Bool → Bool → List PortStep
resets began ended = cond (not began && ended) (Reset ∷ []) []
