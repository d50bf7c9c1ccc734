-- How far the two ends of the link have come with a request, and with their modes, whatever the
-- kind of device.
use Rattle.std.specs.Prelude.{◌≡◌, ◌⊎◌, ℕ, zero, suc, ◌*◌, ◌<◌, ◌≤◌, Bool, true, false, not, ◌&&◌, List, ◌++◌, length, replicate, Option, Some, None, slice_index, if◌then◌else◌, ◌==◌, nat_le, bytes_eq, IfSome, IsTrue, [], ◌∷◌}
use Rattle.iol_octets.specs.SegmentNumber.{segment_number}
use Rattle.iol_octets.specs.declared.control.Channel.{Channel}
use Rattle.iol_octets.specs.declared.control.Channel.TheVariants.{Process, Page, Diagnosis, Isdu}
use Rattle.iol_octets.specs.declared.flow_control.Flow.{Flow}
use Rattle.iol_octets.specs.declared.flow_control.Flow.TheVariants.{Start, Count, Idle1, Idle2, Abort}
use Rattle.iol_mseq.specs.declared.master.MasterMsg.{MasterMsg}
use Rattle.iol_page.specs.Page.{knows_isdu}
use Rattle.iol_isdu.specs.declared.values.Request.{Request}
use Rattle.iol_isdu.specs.declared.values.Answer.{Answer}
use Rattle.iol_isdu.specs.Texts.{IsRequest, request_text}
use Rattle.iol_segment.specs.Cut.{segment}
use Rattle.iol_segment.specs.Join.{Stage, Open, stage}
use Rattle.iol_segment.specs.TextLaws.{segments_up_to, IsLast}
use Rattle.iol_segment.specs.TextLaws as texts
use Rattle.iol_segment.specs.JoinLaws.{count_at}
use Rattle.iol_far.specs.declared.carried.Carried.{Carried}
use Rattle.iol_far.specs.declared.kind.Kind.{Kind}
use Rattle.iol_far.specs.declared.kind.HandsOver.{HandsOver}
use Rattle.iol_far.specs.declared.kind.HandsOver.TheVariants.{FirstRead, LastSegment}
use Rattle.iol_far.specs.declared.kind.Recalls.{Recalls}
use Rattle.iol_far.specs.declared.kind.Recalls.TheVariants.{UntilLeft, UntilSent}
use Rattle.iol_far.specs.Isdu.{IsduState, Empty, Handed, Answered, isdu_with_octets, answer_text_to, fits}
use Rattle.iol_far.specs.Codec.{layout_in, message_in, flow_of}
use Rattle.iol_far.specs.Far.{Far, WaitingCommand, hear, waits_after, mode_asked, known_mode, command_in}
use Rattle.iol_far.specs.declared.mode.DeviceMode.{DeviceMode}
use Rattle.iol_far.specs.Local.{LocalStep, local}

-- A request

-- how far the request under way has come, by the good replies that the master had
pub data Progress : Type 0 where
  -- none is under way; the device may hold an answer of before
  Quiet : Progress
  -- none is under way, and the device holds nothing
  NoneHeld : Progress
  -- its only segment was sent, which the device may have heard
  Perhaps : Request → Progress
  -- the segments up to this one had a good reply
  Written : Request → ℕ → Progress
  -- the device said that it is busy with it
  Busy : Request → Progress
  -- the answer's segments up to this one were had, and these are their octets
  Received : Request → ℕ → List ℕ → Progress
  -- it has ended, and whether it was carried out can't be known
  Unsure : Request → Progress

-- a record with one more pair at its end
abbrev pub grown_by : List Carried → Request → Answer → List Carried
grown_by base request answer = base ++ record { request = request; answer = answer } ∷ []

-- the request is with the application, or it was answered, and none of the answer was sent
abbrev pub IsTaken : List Carried → Request → IsduState → List Carried → Type 0
IsTaken base request (Handed held) carried = (held ≡ request) × (carried ≡ base)
IsTaken base request (Answered held answer None) carried = (held ≡ request)
    × IsTrue (fits held answer) × (carried ≡ grown_by base request answer)
IsTaken base request state carried = ⊥

-- the request's segments up to this one were received; with the last of them it is taken, where
-- that hands it over
abbrev pub IsWritten : HandsOver → ℕ → List Carried → Request → ℕ → IsduState → Option ℕ
    → List Carried → Type 0
IsWritten FirstRead size base request i state counted carried =
    (state ≡ isdu_with_octets (segments_up_to size (request_text request) i) (count_at i))
    × (carried ≡ base)
IsWritten LastSegment size base request i state counted carried = (counted ≡ count_at i)
    × ((texts.IsBefore size (request_text request) i
    × (state ≡ isdu_with_octets (segments_up_to size (request_text request) i) (count_at i))
    × (carried ≡ base))
    ⊎ (IsLast size (request_text request) i × IsTaken base request state carried))

-- the record has grown by nothing, or by the request with some answer
abbrev pub IsGrownOnce : List Carried → Request → List Carried → Type 0
IsGrownOnce base request carried = (carried ≡ base)
    ⊎ ((answer : Answer) × (carried ≡ grown_by base request answer))

-- the far end's ISDU state, the COUNT that it keeps, and its record are as that progress says,
-- but for what it does by itself; the record was `base` when the request was begun
abbrev pub Stands : HandsOver → ℕ → List Carried → Progress → IsduState → Option ℕ
    → List Carried → Type 0
Stands hands_over size base Quiet Empty counted carried = carried ≡ base
Stands hands_over size base Quiet (Answered request answer last) counted carried = carried ≡ base
Stands hands_over size base NoneHeld Empty counted carried = carried ≡ base
Stands hands_over size base (Perhaps request) state counted carried = IsRequest request
    × IsLast size (request_text request) 0
    × (((state ≡ Empty) × (carried ≡ base))
    ⊎ IsWritten hands_over size base request 0 state counted carried)
Stands hands_over size base (Written request i) state counted carried = IsRequest request
    × IsWritten hands_over size base request i state counted carried
Stands hands_over size base (Busy request) state counted carried =
    IsTaken base request state carried
Stands hands_over size base (Received request i text) (Answered held answer (Some sent)) counted
    carried = (held ≡ request) × IsTrue (fits held answer) × (sent ≡ i)
    × (text ≡ segments_up_to size (answer_text_to request answer) i)
    × (carried ≡ grown_by base request answer)
Stands hands_over size base (Unsure request) Empty counted carried =
    IsGrownOnce base request carried
Stands hands_over size base (Unsure request) (Answered held answer last) counted carried =
    (held ≡ request) × IsTrue (fits held answer) × (carried ≡ grown_by base request answer)
Stands hands_over size base progress state counted carried = ⊥

-- since then the record has grown by nothing, or by the request under way with some answer
abbrev pub IsGrown : List Carried → Progress → List Carried → Type 0
IsGrown base Quiet carried = carried ≡ base
IsGrown base NoneHeld carried = carried ≡ base
IsGrown base (Perhaps request) carried = IsGrownOnce base request carried
IsGrown base (Written request i) carried = IsGrownOnce base request carried
IsGrown base (Busy request) carried = IsGrownOnce base request carried
IsGrown base (Received request i text) carried = (answer : Answer)
    × (carried ≡ grown_by base request answer)
IsGrown base (Unsure request) carried = IsGrownOnce base request carried

-- what a new message of the master does
pub data Move : Type 0 where
  -- the request's first segment, its next one
  Begin : Request → Move
  More : Move
  -- is there an answer; the answer's next segment
  Ask : Move
  Next : Move
  -- no request any more
  Leave : Move
  -- nothing on the ISDU channel
  Other : Move

-- the record that the request under way began with, or the next one begins with: with a request's
-- first segment it is the one of now
abbrev pub base_after : Move → List Carried → List Carried → List Carried
base_after Leave base carried = carried
base_after (Begin request) base carried = carried
base_after any base carried = base

-- What a reply says

-- nothing came in place of an answer, as only a device sends that has forgotten it
abbrev pub progress_after_nothing : Recalls → Request → List ℕ → Progress
progress_after_nothing UntilLeft request data_in = Received request 0 data_in
progress_after_nothing UntilSent request data_in = Unsure request

-- busy, nothing, or the answer's first segment
abbrev pub progress_after_ask : Recalls → Request → List ℕ → Progress
progress_after_ask recalls request data_in =
    if slice_index data_in 0 == 1 then Busy request else
    if slice_index data_in 0 == 0 then progress_after_nothing recalls request data_in else
    Received request 0 data_in

-- nothing came: the device has not heard of the request, where it was asked for the first time;
-- else it may have answered before
abbrev pub unheard_of : ℕ → Request → Progress
unheard_of zero request = NoneHeld
unheard_of (suc tries) request = Unsure request

-- the same where the device may not have heard of the request
abbrev pub progress_after_doubt : ℕ → Request → List ℕ → Progress
progress_after_doubt tries request data_in =
    if slice_index data_in 0 == 1 then Busy request else
    if slice_index data_in 0 == 0 then unheard_of tries request else
    Received request 0 data_in

abbrev pub is_open : Stage → Bool
is_open Open = true
is_open other = false

-- whether octets behind those of an answer may be those of a device that has forgotten it: zeros,
-- where the answer would end, from one that was asked for them before
abbrev pub may_be_none : Recalls → ℕ → List ℕ → List ℕ → Bool
may_be_none UntilSent (suc tries) text data_in =
    bytes_eq data_in (replicate (length data_in) 0) && not (is_open (stage (text ++ data_in)))
may_be_none recalls tries text data_in = false

-- the progress once the reply was had, which brought these octets after so many tries in vain; the
-- device recalls an answer so long, or longer
abbrev pub after : Recalls → ℕ → Progress → Move → List ℕ → Progress
after recalls tries progress (Begin request) data_in = Written request 0
after recalls tries (Written request i) More data_in = Written request (suc i)
after recalls tries (Perhaps request) Ask data_in = progress_after_doubt tries request data_in
after recalls tries (Written request i) Ask data_in = progress_after_ask recalls request data_in
after recalls tries (Busy request) Ask data_in = progress_after_ask recalls request data_in
after recalls tries (Received request i text) Next data_in =
    if may_be_none recalls tries text data_in then Unsure request else
    Received request (suc i) (text ++ data_in)
after recalls tries progress Leave data_in = NoneHeld
after recalls tries progress any data_in = progress

-- the device recalls an answer so long, or longer
abbrev pub RecallsAtLeast : Recalls → Recalls → Type 0
RecallsAtLeast UntilLeft UntilSent = ⊥
RecallsAtLeast recalls of_device = Unit {0}

-- Both ends of the link

-- the far end's mode, and the mode command that waits there
pub record FarLink : Type 0 where
  pub mode : DeviceMode
  pub waits : Option WaitingCommand

abbrev pub link_of : Far → FarLink
link_of far = record { mode = far.mode; waits = far.waits }

abbrev pub taken_by : Option WaitingCommand → FarLink → List ℕ → FarLink
taken_by None link octets = link
taken_by (Some command) link octets =
    if bytes_eq octets command.octets then link else record { mode = command.into; waits = None }

-- the link in the layout in which it accepts the octets
abbrev pub accepting_link : FarLink → List ℕ → FarLink
accepting_link link octets = taken_by link.waits link octets

-- and once a device of this page has worked the message
abbrev pub turned_link : List ℕ → FarLink → List ℕ → MasterMsg → FarLink
turned_link page link octets message =
    record {
      mode = (accepting_link link octets).mode;
      waits = waits_after (accepting_link link octets).mode (accepting_link link octets).waits
          octets (known_mode page (mode_asked (command_in message)));
    }

-- a request is begun only where the page has ISDU
abbrev pub MayBegin : List ℕ → Move → Type 0
MayBegin page (Begin request) = IsTrue (knows_isdu page)
MayBegin page what = Unit {0}

-- What the master sends

-- the message of this channel, direction, flow and octets is that move, at this progress
abbrev pub IsMove : ℕ → Move → Progress → Channel → Bool → Flow → List ℕ → Type 0
IsMove size (Begin request) Quiet Isdu false Start octets = IsRequest request
    × (octets ≡ segment size (request_text request) 0)
IsMove size (Begin request) NoneHeld Isdu false Start octets = IsRequest request
    × (octets ≡ segment size (request_text request) 0)
IsMove size More (Written request i) Isdu false (Count count) octets =
    (suc i * size < length (request_text request)) × (count ≡ segment_number (suc i))
    × (octets ≡ segment size (request_text request) (suc i))
IsMove size Ask (Perhaps request) Isdu true Start octets = Unit {0}
IsMove size Ask (Written request i) Isdu true Start octets = IsLast size (request_text request) i
IsMove size Ask (Busy request) Isdu true Start octets = Unit {0}
-- the text had so far is no whole answer
IsMove size Next (Received request i text) Isdu true (Count count) octets =
    (count ≡ segment_number (suc i))
    × ((answer : Answer) → IsTrue (fits request answer)
    → text ≡ segments_up_to size (answer_text_to request answer) i
    → suc i * size < length (answer_text_to request answer))
IsMove size Leave progress Isdu read Idle1 octets = Unit {0}
IsMove size Leave progress Isdu read Idle2 octets = Unit {0}
IsMove size Leave progress Isdu read Abort octets = Unit {0}
IsMove size Other progress Process read flow octets = Unit {0}
IsMove size Other progress Page read flow octets = Unit {0}
IsMove size Other progress Diagnosis read flow octets = Unit {0}
IsMove size any progress channel read flow octets = ⊥

-- whether hearing that move hands a request over, each time: the only segment of one, where the
-- last segment does
abbrev pub hands_whole : HandsOver → ℕ → Move → Bool
hands_whole LastSegment size (Begin request) = nat_le (length (request_text request)) size
hands_whole hands_over size what = false

-- a move that hands a request over was out at most once
abbrev pub IsOutOnce : HandsOver → ℕ → Move → ℕ → Type 0
IsOutOnce hands_over size what times = hands_whole hands_over size what ≡ true → times ≤ 1

-- no request is under way
abbrev pub IsIdle : Progress → Type 0
IsIdle Quiet = Unit {0}
IsIdle NoneHeld = Unit {0}
IsIdle progress = ⊥

-- the application has nothing of a request, and gets nothing of it any more
abbrev pub IsSettled : Progress → Type 0
IsSettled (Perhaps request) = ⊥
IsSettled (Written request i) = ⊥
IsSettled (Busy request) = ⊥
IsSettled progress = Unit {0}

-- Octets that spell the message in the layout in which the far end accepts them, the message being
-- that move. Before the first good reply in a layout no request is under way
pub record IsSent (page : List ℕ) (size : ℕ) (link : FarLink) (progress : Progress)
    (octets : List ℕ)
    (message : MasterMsg) (what : Move) : Type 0 where
  pub spells : message_in (layout_in page (accepting_link link octets).mode) octets ≡ Some message
  pub size_of : (layout_in page (accepting_link link octets).mode).od ≡ size
  pub move : IsMove size what progress message.mc.channel message.mc.read
      (flow_of message.mc.address) message.od.items
  pub begins : MayBegin page what
  pub idle : IfSome link.waits (λ command. IsIdle progress)

-- what may be under way while the message is out
abbrev pub under_way : HandsOver → ℕ → Progress → Move → Progress
under_way hands_over size progress (Begin request) =
    if hands_whole hands_over size (Begin request) then Perhaps request else progress
under_way hands_over size progress what = progress

-- Both ends

-- a request is under way only where the page has ISDU
abbrev pub HasIsduFor : List ℕ → Progress → Type 0
HasIsduFor page Quiet = Unit {0}
HasIsduFor page NoneHeld = Unit {0}
HasIsduFor page progress = IsTrue (knows_isdu page)

-- The far end is of this kind, and as the master's fields say, with no message out
pub record IsLevelBefore (page : List ℕ) (kind : Kind) (size : ℕ) (base : List Carried)
    (link : FarLink)
    (progress : Progress) (far : Far) : Type 0 where
  pub awake : far.awake ≡ true
  pub kind_is : far.kind ≡ kind
  pub page_is : far.page ≡ page
  pub link_is : link_of far ≡ link
  pub isdu : HasIsduFor page progress
  pub stands : Stands kind.hands_over size base progress far.isdu far.counted far.carried

-- What happens at the far end while a message is out
pub data Happening : Type 0 where
  Own : LocalStep → Happening
  Hears : Happening

abbrev pub far_after_all : Far → List ℕ → List Happening → Far
far_after_all far octets [] = far
far_after_all far octets (Own step ∷ rest) = far_after_all (local far step) octets rest
far_after_all far octets (Hears ∷ rest) = far_after_all (hear far octets).far octets rest

abbrev pub hearings : List Happening → ℕ
hearings [] = 0
hearings (Own step ∷ rest) = hearings rest
hearings (Hears ∷ rest) = suc (hearings rest)

-- The far end sleeps, or it comes from the state before the message that is out by
-- local steps and at most that many hearings of it
abbrev pub IsLevel : List ℕ → Kind → ℕ → List Carried → FarLink → Progress → List ℕ → ℕ → Far
    → Type 0
IsLevel page kind size base link progress octets most far =
    ((far.awake ≡ false) × (far.isdu ≡ Empty) × IsGrown base progress far.carried)
    ⊎ ((before : Far) × (rest : List Happening)
    × IsLevelBefore page kind size base link progress before
    × (hearings rest ≤ most) × (far ≡ far_after_all before octets rest))
