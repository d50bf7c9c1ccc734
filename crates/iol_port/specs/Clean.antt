-- What a port does on a clean wire, turn by turn.
use Rattle.std.specs.Prelude.{◌≡◌, ◌⊎◌, ℕ, zero, suc, ◌+◌, ◌-◌, ◌<◌, ◌≤◌, nat_le, Bool, true, false, ◌&&◌, List, [], ◌∷◌, ◌++◌, length, replicate, Option, Some, None, is_some, IsTrue}
use Rattle.arrayvec.specs.ArrayVec.{ArrayVec}
use Rattle.iol_isdu.specs.declared.values.Request.{Request}
use Rattle.iol_isdu.specs.declared.values.Answer.{Answer}
use Rattle.iol_isdu.specs.Texts.{IsRequest, request_text}
use Rattle.iol_isdu.specs.Laws.{OneAnswerText}
use Rattle.iol_segment.specs.Cut.{segments, SegmentsHaveSize}
use Rattle.iol_segment.specs.JoinLaws.{JoinLaws}
use Rattle.iol_segment.specs.TextLaws.{TextLaws}
use Rattle.iol_event.specs.Memory.{Events}
use Rattle.iol_page.specs.declared.page.Layouts.{Layouts}
use Rattle.iol_page.specs.Page.{knows_isdu}
use Rattle.iol_far.specs.declared.carried.Carried.{Carried}
use Rattle.iol_far.specs.declared.kind.Kind.{Kind}
use Rattle.iol_far.specs.declared.kind.HandsOver.{HandsOver}
use Rattle.iol_far.specs.Octets.{octets_in}
use Rattle.iol_far.specs.Far.{Far}
use Rattle.iol_far.specs.Local.{has_room}
use Rattle.iol_far.specs.Record.{takes_more}
use Rattle.iol_far.specs.Level.{FarLink, Quiet, link_of, IsLevelBefore, grown_by}
use Rattle.iol_far.specs.Laws.{RepliesAreRead, InputStaysSized, ModesHaveLayouts, MuchStays}
use Rattle.iol_far.specs.SegmentLaws.{SegmentLaws}
use Rattle.iol_mode.specs.Stands.{operate_link, IsOperating}
use Rattle.iol_link.specs.Honest.{CleanExchange}
use Rattle.iol_link.specs.WireFacts.{WireFacts}
use Rattle.iol_book.specs.declared.entries.Ticket.{Ticket}
use Rattle.iol_book.specs.declared.entries.Outcome.TheVariants.{Done}
use Rattle.iol_book.specs.BookModel.{BookState, served_waiting, next_taken, book_after_take, book_after_post}
use Rattle.iol_mode.specs.declared.states.State.{State}
use Rattle.iol_mode.specs.declared.states.State.TheVariants.{Operate as AtOperate}
use Rattle.iol_mode.specs.declared.configuration.Devices.{Devices}
use Rattle.iol_mode.specs.declared.configuration.Devices.TheVariants.{Any}
use Rattle.iol_mode.specs.Kinds.{IsHonestFor}
use Rattle.iol_app.specs.declared.event_work.EventRoom.TheVariants.{Left}
use Rattle.iol_app.specs.Due.{is_under_way, is_confirm_due, is_resting, is_ready}
use Rattle.iol_app.specs.State.{SessionState}
use Rattle.iol_app.specs.Core.{CoreState}
use Rattle.iol_port.specs.declared.call.Call.{Call}
use Rattle.iol_port.specs.declared.call.Call.TheVariants as call
use Rattle.iol_port.specs.Turns.{RequestStage, Ended, busy_replies, turns_needed, turns_at, StageFits}
use Rattle.iol_port.specs.View.{PortParts, PortOver}

-- each exchange of a clean wire is one, and leaves it clean
abbrev pub ExchangesCleanly : {W : Type 0} → WireFacts W → Type 0
ExchangesCleanly {W} facts =
    (old : W) (sent : List ℕ) (answer : Option (ArrayVec ℕ)) (new : W)
    → IsTrue (facts.clean old) → facts.exchange_gives old sent answer new
    → CleanExchange (facts.far old) sent (octets_in answer) (facts.far new)
    × IsTrue (facts.clean new)

-- what the number of turns rests on: laws of the definitions
pub record CleanLaws : Type 0 where
  pub segments : (size : ℕ) → 1 ≤ size → SegmentLaws size
  pub texts : (size : ℕ) → 1 ≤ size → TextLaws size
  pub joins : (size : ℕ) → 1 ≤ size → JoinLaws size
  pub pieces : SegmentsHaveSize
  pub one : OneAnswerText
  pub read_back : RepliesAreRead
  pub sized : InputStaysSized
  pub modes : ModesHaveLayouts
  pub much : MuchStays

-- whether a record takes so many more pairs
abbrev pub takes_all : Option ℕ → List Carried → ℕ → Bool
takes_all None carried count = true
takes_all (Some room) carried count = nat_le (length carried + count) room

-- how many turns lie between a request and those behind it: where one waits a port for any device
-- sends IDLE 1 first
-- REQ-13
abbrev pub turns_between : Devices → List (Ticket × Request) → ℕ
turns_between Any (next ∷ rest) = 1
turns_between devices rest = 0

-- no event is at the device
pub record IsQuiet (memory : Events) : Type 0 where
  pub frozen : memory.frozen ≡ []
  pub waiting : memory.waiting ≡ []

-- in a session no message is out, the output is told as wanted, no event is to be read or confirmed
pub record IsCalm (s : SessionState) : Type 0 where
  pub exchange : s.exchange ≡ None
  pub output : is_some s.output.wanted ≡ s.output.acknowledged
  pub reading : is_under_way s.events.reading ≡ false
  pub confirm : is_confirm_due s.events.reading ≡ false
  pub flag : (is_resting s.events.reading && s.events.flag) ≡ false

-- the book while the request of that ticket is at this stage, the book having been
-- that before it was taken
abbrev pub book_at : BookState → Ticket → Request → RequestStage → BookState
book_at book ticket request (Ended answer) =
    book_after_post (book_after_take book (ticket, request)) (Done answer)
book_at book ticket request stage = book_after_take book (ticket, request)

-- what the device of a port carried out
abbrev pub record_of : {W : Type 0} → WireFacts W → PortOver W → List Carried
record_of facts q = (facts.far q.wire).carried

-- the kind of that device
abbrev pub kind_of_device : {W : Type 0} → WireFacts W → PortOver W → Kind
kind_of_device facts q = (facts.far q.wire).kind

-- OPERATE, with no message out
abbrev pub resting_in : Layouts → State
resting_in layouts = AtOperate (record { out = None; layouts = layouts })

-- between requests, with no message out in OPERATE, both ends are level and the device is awake
abbrev pub IsLevelBetween : Far → PortParts → Type 0
IsLevelBetween far p =
    (layouts : Layouts) → p.core.state ≡ resting_in layouts → p.core.session.current ≡ None
    → (link : FarLink) × IsOperating layouts link
    × IsLevelBefore far.page far.kind layouts.run.od far.carried link Quiet far

module _ {W : Type 0} (facts : WireFacts W) where
  open facts use {honest, far, clean}

  -- in OPERATE over a clean wire, honest to the core, with no message out; the device is awake, of
  -- this kind, in that link, has ISDU, as the port was told, and has no events
  pub record Stood (kind : Kind) (layouts : Layouts) (link : FarLink) (core : CoreState)
      (wire : W) :
      Type 0 where
    pub state_is : core.state ≡ resting_in layouts
    pub is_honest : IsHonestFor facts core.session.configuration.devices wire
    pub is_clean : IsTrue (clean wire)
    pub calm : IsCalm core.session
    pub isdu_is : core.session.isdu ≡ Some true
    pub operating : IsOperating layouts link
    pub awake : (far wire).awake ≡ true
    pub kind_is : (far wire).kind ≡ kind
    pub at : link_of (far wire) ≡ link
    pub isdu : knows_isdu (far wire).page ≡ true
    pub quiet : IsQuiet (far wire).events

  -- a core over its wire, at this stage of a request that the device's record,
  -- then `base`, had room for
  pub record At (kind : Kind) (layouts : Layouts) (request : Request) (base : List Carried)
      (stage : RequestStage) (core : CoreState) (wire : W) : Type 0 where
    pub stood : Stood kind layouts operate_link core wire
    pub fits : StageFits kind.hands_over layouts.run.od request base stage
        core.session.current (far wire).isdu (far wire).carried
    pub room : IsTrue (takes_more (far wire).room base)
    pub limit : 2 ≤ core.session.limit
    -- its last good reply was to a message of the request
    pub after : core.session.idle ≡ false

  -- a port at this stage of the request of that ticket
  pub record IsAtStage (kind : Kind) (layouts : Layouts) (ticket : Ticket) (request : Request)
      (base : List Carried) (book : BookState) (stage : RequestStage) (q : PortOver W) : Type 0
    where
      pub at : At kind layouts request base stage q.parts.core q.wire
      pub book_is : q.parts.book.state ≡ book_at book ticket request stage
      pub valid : IsRequest request
      pub low : 1 ≤ layouts.run.od

  -- a port between requests, with this book: none is under way, and the device, whose record is
  -- so, has none in hand
  pub record IsBetween (kind : Kind) (layouts : Layouts) (base : List Carried) (book : BookState)
      (idle : Bool) (q : PortOver W) : Type 0 where
    pub stood : Stood kind layouts operate_link q.parts.core q.wire
    pub free : q.parts.core.session.current ≡ None
    -- whether the device surely holds no text
    pub idle_is : q.parts.core.session.idle ≡ idle
    pub level : IsLevelBefore (far q.wire).page kind layouts.run.od (far q.wire).carried
        operate_link Quiet
        (far q.wire)
    pub record_is : (far q.wire).carried ≡ base
    pub book_is : q.parts.book.state ≡ book

  -- From here a request takes an exact number of turns, whatever the kind of device: the port is in
  -- OPERATE over a clean wire, which is honest to it, and its next turn would send IDLE 1, with
  -- room for events; both ends are level, the device awake; it has ISDU, as the port was told, and
  -- no events, and its record has room; the request is the next to be taken
  pub record MayStart (layouts : Layouts) (ticket : Ticket) (request : Request)
      (q : PortOver W) : Type 0 where
    pub state_is : q.parts.core.state ≡ resting_in layouts
    pub is_honest : IsHonestFor facts q.parts.core.session.configuration.devices q.wire
    pub is_clean : IsTrue (clean q.wire)
    pub ready : is_ready q.parts.core.session Left ≡ true
    pub link : FarLink
    pub operating : IsOperating layouts link
    pub level : IsLevelBefore (far q.wire).page (far q.wire).kind layouts.run.od
        (far q.wire).carried link Quiet (far q.wire)
    pub isdu : knows_isdu (far q.wire).page ≡ true
    pub isdu_is : q.parts.core.session.isdu ≡ Some true
    pub quiet : IsQuiet (far q.wire).events
    pub room : IsTrue (has_room (far q.wire))
    pub next : next_taken q.parts.book.state ≡ Some (ticket, request)

  -- how the request stands after so many turns: it is taken, and nothing entered
  -- the record; its answer did, and it is not done; it is done with that answer,
  -- after as many turns as are needed; more turns were made
  abbrev pub IsOnTime : Layouts → Ticket → Request → PortOver W → ℕ → PortOver W → Type 0
  IsOnTime layouts ticket request old n new =
      ((n ≤ segments layouts.run.od (request_text request)
      + busy_replies (kind_of_device facts old).hands_over)
      × (record_of facts new ≡ record_of facts old)
      × (new.parts.book.state ≡ book_after_take old.parts.book.state (ticket, request)))
      ⊎ ((answer : Answer) × (record_of facts new ≡ grown_by (record_of facts old) request answer)
      × (n < turns_needed (kind_of_device facts old).hands_over layouts.run.od request answer)
      × (new.parts.book.state ≡ book_after_take old.parts.book.state (ticket, request)))
      ⊎ ((answer : Answer) × (record_of facts new ≡ grown_by (record_of facts old) request answer)
      × (n ≡ turns_needed (kind_of_device facts old).hands_over layouts.run.od request answer)
      × (new.parts.book.state ≡ book_after_post
      (book_after_take old.parts.book.state (ticket, request))
      (Done answer)))
      ⊎ ((answer : Answer) × (more : List Carried)
      × (record_of facts new ≡ grown_by (record_of facts old) request answer ++ more)
      × (turns_needed (kind_of_device facts old).hands_over layouts.run.od request answer < n))

  -- From here requests that wait take the sum of their turns: the first may start, they are served
  -- in this order before all others, and the device's record has room for the pairs of all of them.
  -- At a port for any device there is one turn more between two
  pub record MayServe (layouts : Layouts) (first : Ticket × Request)
      (rest : List (Ticket × Request)) (q : PortOver W) : Type 0 where
    pub starts : MayStart layouts first.0 first.1 q
    pub others : List (Ticket × Request)
    pub in_order : served_waiting q.parts.book.state ≡ first ∷ (rest ++ others)
    pub room : IsTrue (takes_all (far q.wire).room (record_of facts q)
        (suc (length rest)))

  -- how a request stands that is taken and not done after so many turns, the record having been
  -- `base` and the book this one: nothing entered the record yet, or its answer did
  abbrev pub IsOnItsWay :
      HandsOver → Layouts → ℕ → Ticket × Request → List Carried → BookState → PortOver W → Type 0
  IsOnItsWay hands_over layouts n next base book new =
      (new.parts.book.state ≡ book_after_take book next)
      × (((n ≤ segments layouts.run.od (request_text next.1) + busy_replies hands_over)
      × (record_of facts new ≡ base))
      ⊎ ((answer : Answer) × (n < turns_needed hands_over layouts.run.od next.1 answer)
      × (record_of facts new ≡ grown_by base next.1 answer)))

  -- How requests that wait stand after so many turns. Before the first turn none is taken. Then
  -- the first of them is on its way; or it is done with an answer, after as many turns as are
  -- needed, and the others stand so after the turns that are left, but for those between two
  -- requests. Where no request is left more turns may have been made, of which only the record is
  -- said.
  abbrev pub AreServed :
      Devices → HandsOver → Layouts → ℕ → List (Ticket × Request) → List Carried → BookState
      → PortOver W → Type 0
  AreServed devices hands_over layouts zero requests base book new =
      (record_of facts new ≡ base) × (new.parts.book.state ≡ book)
  AreServed devices hands_over layouts (suc n) [] base book new =
      (more : List Carried) × (record_of facts new ≡ base ++ more)
  AreServed devices hands_over layouts (suc n) (next ∷ rest) base book new =
      IsOnItsWay hands_over layouts (suc n) next base book new
      ⊎ ((answer : Answer)
      × (turns_needed hands_over layouts.run.od next.1 answer ≤ suc n)
      × AreServed devices hands_over layouts
      (suc n
      - (turns_needed hands_over layouts.run.od next.1 answer + turns_between devices rest)) rest
      (grown_by base next.1 answer) (book_after_post (book_after_take book next) (Done answer)) new)

  -- at some stage, so many turns on
  pub record IsAfter (kind : Kind) (layouts : Layouts) (ticket : Ticket) (request : Request)
      (base : List Carried) (book : BookState) (turns : ℕ) (q : PortOver W) : Type 0 where
    pub stage : RequestStage
    pub is_at : IsAtStage kind layouts ticket request base book stage q
    pub turns_are : turns_at kind.hands_over layouts.run.od request stage ≡ turns

  -- one turn: the next request begins, or goes one stage on; behind a request a port for any device
  -- sends IDLE 1, and no request begins; on an honest wire the record only grows, and may grow as
  -- far as before
  pub record CleanTurn (p next : PortOver W) : Type 0 where
    pub starts : (layouts : Layouts) (ticket : Ticket) (request : Request)
        → MayStart layouts ticket request p
        → IsAfter (kind_of_device facts p) layouts ticket request (record_of facts p)
        p.parts.book.state 1 next
    pub goes_on : (kind : Kind) (layouts : Layouts) (ticket : Ticket) (request : Request)
        (base : List Carried) (book : BookState) (stage : RequestStage)
        → IsAtStage kind layouts ticket request base book stage p
        → ((answer : Answer) → stage ≡ Ended answer → ⊥)
        → IsAfter kind layouts ticket request base book
        (suc (turns_at kind.hands_over layouts.run.od request stage)) next
    pub rests : p.parts.core.session.configuration.devices ≡ Any
        → (kind : Kind) (layouts : Layouts) (base : List Carried) (book : BookState)
        → IsBetween kind layouts base book false p → IsBetween kind layouts base book true next
    pub honesty : honest next.wire ≡ honest p.wire
    pub asks : next.parts.core.session.configuration ≡ p.parts.core.session.configuration
    pub grows : IsTrue (honest p.wire)
        → (more : List Carried) × (record_of facts next ≡ record_of facts p ++ more)
    pub room : IsTrue (honest p.wire)
        → (far next.wire).room ≡ (far p.wire).room

  -- so many turns and no other call: a request stands as it is to then
  abbrev pub CleanRuns : PortOver W → List Call → PortOver W → Type 0
  CleanRuns p calls next =
      (n : ℕ) → calls ≡ replicate (suc n) call.Turn
      → (layouts : Layouts) (ticket : Ticket) (request : Request)
      → MayStart layouts ticket request p
      → IsOnTime layouts ticket request p (suc n) next

  -- and requests that wait are served one behind the other
  -- REQ-13
  abbrev pub CleanServes : PortOver W → List Call → PortOver W → Type 0
  CleanServes p calls next =
      (n : ℕ) → calls ≡ replicate n call.Turn → (layouts : Layouts) (first : Ticket × Request)
      (rest : List (Ticket × Request)) → MayServe layouts first rest p
      → AreServed p.parts.core.session.configuration.devices (kind_of_device facts p).hands_over
      layouts n
      (first ∷ rest) (record_of facts p) p.parts.book.state next
