-- How a port's own data stands to a far end: by request, events, output, and message that is out.
use Rattle.std.specs.Prelude.{◌≤◌, ◌≡◌, ◌≢◌, ℕ, suc, Bool, true, false, if◌then◌else◌, length, List, Option, Some, None, IfSome, IsSome, IsTrue, unwrap_or, ⊤}
use Rattle.std.specs.Option.{option_map}
use Rattle.iol_mseq.specs.Shape.{Shape}
use Rattle.iol_mseq.specs.Texts.{master_text}
use Rattle.iol_page.specs.Page.{knows_isdu}
use Rattle.iol_event.specs.declared.event.Event.{Event}
use Rattle.iol_image.specs.Image.{IsImage}
use Rattle.iol_far.specs.declared.mode.DeviceMode.TheVariants.{Operate as FarOperate}
use Rattle.iol_far.specs.declared.kind.Kind.{Kind}
use Rattle.iol_far.specs.declared.kind.HandsOver.{HandsOver}
use Rattle.iol_far.specs.Level.{FarLink, Progress, IsLevelBefore, IsLevel, IsSent, IsOutOnce, accepting_link}
use Rattle.iol_link.specs.Attempts.{Sending}
use Rattle.iol_mode.specs.declared.configuration.Devices.{Devices}
use Rattle.iol_mode.specs.declared.states.State.{State}
use Rattle.iol_mode.specs.declared.states.State.TheVariants.{Down as AtDown, Startup as AtStartup, Preoperate as AtPreoperate, Operate as AtOperate}
use Rattle.iol_mode.specs.declared.states.Operate.{Operate}
use Rattle.iol_mode.specs.declared.configuration.Devices.TheVariants.{Any}
use Rattle.iol_mode.specs.Kinds.{SeesPulses}
use Rattle.iol_mode.specs.States.{StateFits, is_behind}
use Rattle.iol_mode.specs.Stands.{StateStands, operate_link}
use Rattle.iol_app.specs.declared.mode.Mode.TheVariants.{Operate as ModeOperate}
use Rattle.iol_app.specs.Abstract.Steps.{repeats_at, doubts_at, ImageOctets, output_length}
use Rattle.iol_app.specs.Abstract.OfDevice.{IsOpen}
use Rattle.iol_app.specs.BothEnds.{AnswerFits, WaitsElsewhere, ReadingState, wants_confirm, wants_octet}
use Rattle.iol_app.specs.BothEnds as steps
use Rattle.iol_app.specs.Exchange.{reading_flagged}
use Rattle.iol_app.specs.declared.event_work.ReadingProgress as app
use Rattle.iol_app.specs.declared.event_work.ReadingProgress.TheVariants.{Resting, UnderWay, ConfirmDue, Refused}
use Rattle.iol_app.specs.declared.event_work.EventWork.{EventWork}
use Rattle.iol_app.specs.declared.request.Current.{Current}
use Rattle.iol_app.specs.Requests.{request_under_way, is_over}
use Rattle.iol_app.specs.EventReading.{is_refused}
use Rattle.iol_app.specs.Moves.{progress_of, move_for, confirms_events}
use Rattle.iol_app.specs.Ends.{OutputFits, EventsReported, OperateLink, BusyFits, SentFits, output_for}
use Rattle.iol_app.specs.State.{SessionState}
use Rattle.iol_app.specs.StationState.{SessionFits, mode_in}
use Rattle.iol_app.specs.declared.session.Purpose.{Purpose}
use Rattle.iol_app.specs.declared.session.Purpose.TheVariants.{ReadEvent, ConfirmEvents, Request as NextMessage}
use Rattle.iol_page.specs.declared.page.Layouts.{Layouts}
use Rattle.iol_far.specs.Far.{Far}
use Rattle.iol_app.specs.Core.{CoreState, OfEvents, Ghost}

-- what a session says of requests
pub record Work : Type 0 where
  pub devices : Devices
  pub idle : Bool
  pub limit : ℕ
  pub current : Option Current
  pub exchange : Option Purpose

abbrev pub work_of : SessionState → Work
work_of s = record {
  devices = s.configuration.devices;
  idle = s.idle;
  limit = s.limit;
  current = s.current;
  exchange = s.exchange;
}

abbrev pub progress_in : Work → Progress
progress_in w = progress_of w.devices w.idle w.current

-- In OPERATE, with the message that is out

-- how often that was sent in vain, of so many attempts: a question only once it went out again; a
-- confirm at a port for any device never
abbrev pub vain_by : Devices → Purpose → Option Current → ℕ → ℕ
vain_by Any NextMessage (Some current) tries = if current.repeat then tries else 0
vain_by Any ConfirmEvents current tries = 0
vain_by devices exchange current tries = tries

abbrev pub vain_in : Work → ℕ → ℕ
vain_in w tries = unwrap_or (option_map (λ exchange. vain_by w.devices exchange w.current tries)
    w.exchange) tries

-- that it went out again is noted of a request at a port for any device
abbrev pub RepeatBy : Devices → Purpose → ℕ → Current → Type 0
RepeatBy Any NextMessage tries current = current.repeat ≡ true → 1 ≤ tries
RepeatBy devices exchange tries current = current.repeat ≡ false

abbrev pub LevelOut : Ghost → Shape → FarLink → Work → Option Sending → Far → Type 0
LevelOut g run link w None far =
    IsLevelBefore g.page g.kind run.od g.request.base link (progress_in w) far
LevelOut g run link w (Some sent) far =
    IsLevel g.page g.kind run.od g.request.base link (progress_in w)
    (master_text run sent.message) (vain_in w sent.tries) far

-- whether what is out hands the device its request with each hearing
abbrev pub repeats_in : HandsOver → ℕ → Work → Bool
repeats_in hands_over size w = unwrap_or
    (option_map (λ exchange. repeats_at w.devices hands_over size (move_for exchange w.current))
    w.exchange) false

abbrev pub command_out : Option Purpose → Option Bool
command_out None = None
command_out (Some exchange) = output_for exchange

abbrev pub confirm_out : Option Purpose → Bool
confirm_out None = false
confirm_out (Some exchange) = confirms_events exchange

-- what the message out has to do with the rest: the far end takes it in OPERATE's layout, for the
-- move that the request's progress asks for; the reading wants it; it carries the image sent
pub record OutStands (layouts : Layouts) (out : Sending) (exchange : Purpose) (w : Work)
    (reading : ReadingState) (page : List ℕ) (kind : Kind)
    (link : FarLink) (sent : Option ImageOctets) : Type 0 where
  pub mode : (accepting_link link (master_text layouts.run out.message)).mode ≡ FarOperate
  pub goes :
      IsSent page layouts.run.od link (progress_in w)
      (master_text layouts.run out.message) out.message (move_for exchange w.current)
  -- at a port for any device one that hands a request over was not out before
  pub once : w.devices ≡ Any → IsOutOnce kind.hands_over layouts.run.od
      (move_for exchange w.current) (suc (vain_by w.devices exchange w.current out.tries))
  pub repeat : IfSome w.current (RepeatBy w.devices exchange out.tries)
  -- nothing goes out for a request that is over but for its abort
  pub goes_on : exchange ≡ NextMessage → IfSome w.current
      (λ current. is_over current.progress ≡ false)
  pub confirm : exchange ≡ ConfirmEvents → wants_confirm reading ≡ true
  pub reads : exchange ≡ ReadEvent → wants_octet reading ≡ true
  pub carries : IfSome sent (λ image. out.message.out.items ≡ image)
  pub tells : output_for exchange ≡ Some true → IsSome sent

abbrev pub OutBy : Layouts → Option Sending → Option Purpose → Work → ReadingState → List ℕ → Kind
    → FarLink → Option ImageOctets → Type 0
OutBy layouts (Some out) (Some exchange) w events page kind link sent =
    OutStands layouts out exchange w events page kind link sent
OutBy layouts None None w events page kind link sent =
    IfSome w.current (λ current. current.repeat ≡ false)
OutBy layouts out exchange w events page kind link sent = ⊥

-- the request under way, or that none is
pub record OperateRequest (s : Operate) (w : Work) (reading : ReadingState) (g : Ghost)
    (far : Far) : Type 0 where
  -- nothing is left over of an earlier request; what the device is handed is this one
  pub late : g.request.hidden.late ≡ None
  pub opens : IsOpen far.isdu (request_under_way w.current) g.request.hidden
  -- both ends are level, as far as the request has come, with the message that is out
  pub link : FarLink
  pub linked : OperateLink s.layouts (progress_in w) link
  -- a list that was read came in OPERATE
  pub in_operate : wants_confirm reading ≡ true → link ≡ operate_link
  pub level : LevelOut g s.layouts.run link w s.out far
  pub out : OutBy s.layouts s.out w.exchange w reading g.page g.kind link g.sent
  -- the record has grown by the device's answer, once it has one; it may have by more where the
  -- device is handed the request with each hearing
  pub answer : repeats_in g.kind.hands_over s.layouts.run.od w ≡ false
      → AnswerFits g.request.base (request_under_way w.current) g.request.hidden far.carried
  -- the busy replies are counted, and an abort waits for what it may
  pub busy : BusyFits (doubts_at w.devices g.kind.recalls) w.limit w.current g.request.busy
      g.request.asked
  -- a request is under way only where the device has ISDU
  pub known : IsSome (request_under_way w.current) → IsTrue (knows_isdu g.page)

-- the reading of events, with the list whose confirm is due
abbrev pub reading_at : app.ReadingProgress → Bool → Event × List Event → ReadingState
reading_at Resting flag due = reading_flagged flag
reading_at (UnderWay octets) flag due = steps.Under octets
reading_at ConfirmDue flag due = steps.Due due.0 due.1
reading_at Refused flag due = steps.Resting

abbrev pub reading_in : EventWork → OfEvents → ReadingState
reading_in events g = reading_at events.reading events.flag g.due

-- the link's own part says that nothing is under way in a start-up, whatever the device holds.
-- Until it was reset it may carry out an earlier request, at a port for any device
abbrev pub RequestStands : State → Work → EventWork → Ghost → Far → Type 0
RequestStands (AtDown s) w events g far = IsOpen far.isdu None g.request.hidden
RequestStands (AtStartup s) w events g far =
    (IsTrue (is_behind s.step) → g.request.hidden.late ≡ None)
    × IsOpen far.isdu None g.request.hidden × (w.idle ≡ false)
    × (is_behind s.step ≡ false → w.devices ≡ Any)
RequestStands (AtPreoperate s) w events g far =
    (g.request.hidden.late ≡ None) × IsOpen far.isdu None g.request.hidden × (w.idle ≡ false)
RequestStands (AtOperate s) w events g far =
    OperateRequest s w (reading_in events g.events) g far

-- in OPERATE the device's events fit the reading; in a start-up none is read, nor told
abbrev pub EventsStand : State → Option Purpose → EventWork → OfEvents → Far → Type 0
EventsStand (AtDown s) exchange events g far = ⊤
EventsStand (AtStartup s) exchange events g far = (events.reading ≡ Resting) × (g.reported ≡ false)
EventsStand (AtPreoperate s) exchange events g far = (events.reading ≡ Resting)
    × (g.reported ≡ false)
EventsStand (AtOperate s) exchange events g far =
    EventsReported (reading_in events g) (confirm_out exchange) far g.reported

-- the device's output is invalid outside OPERATE
pub record OutputOff (acknowledged : Bool) (far : Far) : Type 0 where
  pub unacknowledged : acknowledged ≡ false
  pub off : far.awake ≡ true → far.valid ≡ false
  pub waits : WaitsElsewhere far

-- in OPERATE it is as told, unless a command is out
abbrev pub OutputStands : State → Option Purpose → Bool → Option ImageOctets → Far → Type 0
OutputStands (AtDown s) exchange acknowledged sent far = ⊤
OutputStands (AtStartup s) exchange acknowledged sent far = (acknowledged ≡ false)
    × (IsTrue (is_behind s.step) → OutputOff acknowledged far)
OutputStands (AtPreoperate s) exchange acknowledged sent far = OutputOff acknowledged far
OutputStands (AtOperate s) exchange acknowledged sent far =
    OutputFits sent (command_out exchange ≡ None) acknowledged far

-- with no message out in OPERATE there is no silence
abbrev pub CalmBy : Option Sending → ℕ → Type 0
CalmBy None silence = silence ≡ 0
CalmBy (Some out) silence = ⊤

abbrev pub CalmAt : State → ℕ → Type 0
CalmAt (AtOperate s) silence = CalmBy s.out silence
CalmAt s silence = ⊤

-- of what is shown, whatever the far end does
pub record ShownStands (c : CoreState) (page : List ℕ) : Type 0 where
  pub image : mode_in c.state ≢ ModeOperate → c.session.image ≡ None
  pub wanted : IfSome c.session.output.wanted IsImage
  pub lengths :
      IfSome (option_map (λ (layout : Shape). layout.pd_out) c.session.layout)
      (λ length. length ≡ output_length page)
  pub isdu : IfSome c.session.isdu (λ known. known ≡ knows_isdu page)
  pub present : IfSome c.session.present (λ t. t.page ≡ page)
  pub no_form : is_refused c.session.events.reading ≡ false

-- both ends stand together
pub record BothEndsStand (c : CoreState) (g : Ghost) (far : Far) (silence : ℕ) : Type 0 where
  pub page : far.page ≡ g.page
  pub kind : far.kind ≡ g.kind
  pub sees : SeesPulses c.session.configuration.devices far
  -- the link's part is the lower crate's, word for word
  pub fits : StateFits c.state
  pub link : StateStands c.state silence far
  pub joined : SessionFits c.state c.session
  pub calm : CalmAt c.state silence
  -- the image sent is the one carried last
  pub sent : SentFits c.session.layout c.session.output.carried.items g.sent
  pub request : RequestStands c.state (work_of c.session) c.session.events g far
  pub events : EventsStand c.state c.session.exchange c.session.events g.events far
  pub output : OutputStands c.state c.session.exchange c.session.output.acknowledged g.sent far
  pub shown : ShownStands c g.page

-- Where a turn is one piece, a message that is out between two turns was sent at least once
abbrev pub IsOutAttempted : Option Sending → Type 0
IsOutAttempted None = ⊤
IsOutAttempted (Some out) = 1 ≤ out.tries

abbrev pub IsAttempted : State → Type 0
IsAttempted (AtOperate s) = IsOutAttempted s.out
IsAttempted s = ⊤
