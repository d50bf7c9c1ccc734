-- Laws of the far end: what hearing a message again changes, what one good reply says, what stays.
use Rattle.std.specs.Prelude.{◌≡◌, ◌⊎◌, ◌≤◌, ℕ, suc, Bool, true, false, List, [], ◌∷◌, length, slice_index, Some, None, IfSome}
use Rattle.iol_octets.specs.Control.{control_of}
use Rattle.iol_octets.specs.declared.control.Channel.{Channel}
use Rattle.iol_octets.specs.declared.control.Channel.TheVariants.{Isdu}
use Rattle.iol_octets.specs.declared.flow_control.Flow.{Flow}
use Rattle.iol_octets.specs.declared.flow_control.Flow.TheVariants.{Start}
use Rattle.iol_mseq.specs.Shape.{Shape, IsLayout}
use Rattle.iol_mseq.specs.Master.{SpellsMaster}
use Rattle.iol_mseq.specs.Replies.{reply_in}
use Rattle.iol_mseq.specs.declared.master.MasterMsg.{MasterMsg}
use Rattle.iol_isdu.specs.declared.values.Request.{Request}
use Rattle.iol_isdu.specs.Texts.{request_text}
use Rattle.iol_event.specs.declared.event.Event.{Event}
use Rattle.iol_event.specs.Memory.{Events, IsEventMemory}
use Rattle.iol_image.specs.Image.{IsImage}
use Rattle.iol_far.specs.declared.carried.Carried.{Carried}
use Rattle.iol_far.specs.declared.kind.Kind.{Kind}
use Rattle.iol_far.specs.declared.kind.Recalls.{Recalls}
use Rattle.iol_far.specs.declared.mode.DeviceMode.{DeviceMode}
use Rattle.iol_far.specs.declared.mode.DeviceMode.TheVariants.{Startup, Operate}
use Rattle.iol_far.specs.Isdu.{isdu_data, own}
use Rattle.iol_far.specs.Codec.{layout_in, message_in, reply_octets, flow_of}
use Rattle.iol_far.specs.Far.{Far, HearResult, layout_of, accepted_message, hear, reply_to, is_confirm}
use Rattle.iol_far.specs.Local.{LocalStep, local, locals, far_after_wake, input_size}
use Rattle.iol_far.specs.Level.{Progress, Quiet, NoneHeld, Perhaps, Move, Begin, FarLink, IsSent, IsLevelBefore, IsLevel, IsGrown, RecallsAtLeast, IsOutOnce, IsIdle, IsSettled, under_way, turned_link, after, base_after}

-- a START read on the ISDU channel
abbrev pub is_start_read : Channel → Bool → Flow → Bool
is_start_read Isdu true Start = true
is_start_read channel read flow = false

-- after a device of our own kind heard a message, and any local steps, hearing its octets again
-- changes nothing: for every message but a START read, which hands a request over first and sends
-- its answer later
abbrev pub OnceIsEnough : Type 0
OnceIsEnough =
    (far there : Far) (octets : List ℕ) (message : MasterMsg) (steps : List LocalStep)
    → far.kind ≡ own → accepted_message far octets ≡ Some (there, message)
    → is_start_read message.mc.channel message.mc.read (flow_of message.mc.address) ≡ false
    → (hear (locals (hear far octets).far steps) octets).far ≡ locals (hear far octets).far steps

-- octets that spell a message in a layout are heard there as that message
abbrev pub MessagesAreHeard : Type 0
MessagesAreHeard = (layout : Shape) (message : MasterMsg) (octets : List ℕ)
    → SpellsMaster layout message octets → message_in layout octets ≡ Some message

-- each mode's layout, whatever the page, is a layout, and has on-request data
abbrev pub ModesHaveLayouts : Type 0
ModesHaveLayouts = (page : List ℕ) (mode : DeviceMode)
    → IsLayout (layout_in page mode) × (1 ≤ (layout_in page mode).od)

-- what a far end answers, in the layout that it speaks, is read back as that reply,
-- where its input has the page's length
abbrev pub IsSized : Far → Type 0
IsSized far = IfSome far.input (λ image. length image ≡ input_size far)

-- the parts of a far end as they can be: its page has the ten octets of 0x02 to 0x0B, its input the
-- page's length, which is 1 to 32, and its event memory is one that events and messages lead to
-- WIRE-6
pub record IsRegular (far : Far) : Type 0 where
  pub page : length far.page ≡ 10
  pub sized : IsSized far
  pub input : IfSome far.input IsImage
  pub memory : IsEventMemory far.events

abbrev pub RepliesAreRead : Type 0
RepliesAreRead =
    (far : Far) (message : MasterMsg) → IsSized far
    → reply_in (layout_of far) message.mc.read (reply_octets (reply_to far (layout_of far) message))
    ≡ Some (reply_to far (layout_of far) message)

-- the input keeps the page's length
pub record InputStaysSized : Type 0 where
  pub hears : (far : Far) (octets : List ℕ) → IsSized far → IsSized (hear far octets).far
  pub steps : (far : Far) (step : LocalStep) → IsSized far → IsSized (local far step)
  pub wakes : (far : Far) → IsSized far → IsSized (far_after_wake far)

-- only in OPERATE the output is valid
abbrev pub IsValidInOperate : Far → Type 0
IsValidInOperate far = far.valid ≡ true → far.mode ≡ Operate

pub record OutputStaysInOperate : Type 0 where
  pub hears : (far : Far) (octets : List ℕ) → IsValidInOperate far
      → IsValidInOperate (hear far octets).far
  pub steps : (far : Far) (step : LocalStep) → IsValidInOperate far
      → IsValidInOperate (local far step)
  pub wakes : (far : Far) → IsValidInOperate (far_after_wake far)

-- Hearing carries nothing out, and nothing changes the kind, whether it misses pulses, the page or
-- the record's room
pub record MuchStays : Type 0 where
  pub kind_heard : (far : Far) (octets : List ℕ) → (hear far octets).far.kind ≡ far.kind
  pub kind_stays : (far : Far) (steps : List LocalStep) → (locals far steps).kind ≡ far.kind
  pub misses_heard : (far : Far) (octets : List ℕ)
      → (hear far octets).far.misses_pulses ≡ far.misses_pulses
  pub misses_stay : (far : Far) (steps : List LocalStep)
      → (locals far steps).misses_pulses ≡ far.misses_pulses
  pub page_heard : (far : Far) (octets : List ℕ) → (hear far octets).far.page ≡ far.page
  pub page_stays : (far : Far) (step : LocalStep) → (local far step).page ≡ far.page
  pub room_heard : (far : Far) (octets : List ℕ) → (hear far octets).far.room ≡ far.room
  pub room_stays : (far : Far) (step : LocalStep) → (local far step).room ≡ far.room
  pub record_heard : (far : Far) (octets : List ℕ) → (hear far octets).far.carried ≡ far.carried

-- What keeps the ends level while a message is out
pub record LevelStays (page : List ℕ) (kind : Kind) (size : ℕ) (base : List Carried)
    (link : FarLink)
    (progress : Progress) (octets : List ℕ) : Type 0 where
  -- a new message goes out
  pub begins : (far : Far) → IsLevelBefore page kind size base link progress far
      → IsLevel page kind size base link progress octets 0 far
  -- the far end does something by itself
  pub steps : (most : ℕ) (far : Far) (step : LocalStep)
      → IsLevel page kind size base link progress octets most far
      → IsLevel page kind size base link progress octets most (local far step)
  -- the message is heard, and no good reply comes
  pub hears : (most : ℕ) (far : Far) → IsLevel page kind size base link progress octets most far
      → IsLevel page kind size base link progress octets (suc most) (hear far octets).far
  -- it is lost
  pub loses : (most : ℕ) (far : Far) → IsLevel page kind size base link progress octets most far
      → IsLevel page kind size base link progress octets (suc most) far

-- What one good reply says of the far end, after so many tries in vain: the state before the next
-- message, what the record may have gained, and the reply, in the layout of the master's own link
pub record ReplySays (page : List ℕ) (kind : Kind) (recalls : Recalls) (tries size : ℕ)
    (base : List Carried) (link : FarLink) (progress : Progress) (octets : List ℕ)
    (message : MasterMsg) (what : Move) (heard : HearResult) : Type 0 where
  pub before : IsLevelBefore page kind size (base_after what base heard.far.carried)
      (turned_link page link octets message)
      (after recalls tries progress what (isdu_data size heard.far.isdu)) heard.far
  -- where it handed no request over a second time
  pub grown : IsOutOnce kind.hands_over size what (suc tries)
      → IsGrown base progress heard.far.carried
  pub reply_is : heard.reply
      ≡ Some (reply_octets
      (reply_to heard.far (layout_in page (turned_link page link octets message).mode) message))

pub record LevelLaws (size : ℕ) : Type 0 where
  pub stays : (page : List ℕ) (kind : Kind) (base : List Carried) (link : FarLink)
      (progress : Progress) (octets : List ℕ) → LevelStays page kind size base link progress octets
  -- a good reply
  pub replies : (page : List ℕ) (kind : Kind) (base : List Carried) (link : FarLink)
      (progress : Progress) (octets : List ℕ) (message : MasterMsg) (what : Move)
      → IsSent page size link progress octets message what
      → (most : ℕ) → (recalls : Recalls) → RecallsAtLeast recalls kind.recalls
      → (far : Far) → IsLevel page kind size base link progress octets most far
      → (reply : List ℕ) → (hear far octets).reply ≡ Some reply
      → ReplySays page kind recalls most size base link progress octets message what
      (hear far octets)
  -- what the record may have gained at any moment
  pub grown : (page : List ℕ) (kind : Kind) (base : List Carried) (link : FarLink)
      (progress : Progress) (octets : List ℕ) (message : MasterMsg) (what : Move)
      → IsSent page size link progress octets message what
      → (most : ℕ) → IsOutOnce kind.hands_over size what most
      → (far : Far) → IsLevel page kind size base link progress octets most far
      → IsGrown base (under_way kind.hands_over size progress what) far.carried
  -- and with no message out
  pub gained : (page : List ℕ) (kind : Kind) (base : List Carried) (link : FarLink)
      (progress : Progress) (far : Far) → IsLevelBefore page kind size base link progress far
      → IsGrown base progress far.carried
  -- the only segment of a request had no good reply: in its place the master asks, by whatever
  -- octets
  pub wonders : (page : List ℕ) (kind : Kind) (base : List Carried) (link : FarLink)
      (octets : List ℕ) (message : MasterMsg) (request : Request)
      → IsSent page size link NoneHeld octets message (Begin request)
      → length (request_text request) ≤ size → link.waits ≡ None
      → (most : ℕ) → IsOutOnce kind.hands_over size (Begin request) most
      → (far : Far) → IsLevel page kind size base link NoneHeld octets most far
      → (question : List ℕ) → IsLevel page kind size base link (Perhaps request) question 0 far
  -- where the application has nothing, none is under way, with the record as it is: nothing more
  -- of the request comes
  pub settles : (page : List ℕ) (kind : Kind) (base : List Carried) (link : FarLink)
      (progress : Progress) (far : Far) → IsSettled progress
      → IsLevelBefore page kind size base link progress far
      → IsLevelBefore page kind size far.carried link Quiet far
  -- after a wake
  pub wakes : (far : Far) → IsLevelBefore far.page far.kind size far.carried
      (record { mode = Startup; waits = None }) NoneHeld (far_after_wake far)
  -- while no request is under way the size of segments doesn't matter, as where
  -- another layout is taken
  pub idle : (other : ℕ) (page : List ℕ) (kind : Kind) (base : List Carried) (link : FarLink)
      (progress : Progress) (far : Far) → IsIdle progress
      → IsLevelBefore page kind size base link progress far
      → IsLevelBefore page kind other base link progress far

-- Events

-- while the list is read: it stays frozen, and no confirm was the last good message
abbrev pub IsFrozen : Event → List Event → Events → Type 0
IsFrozen first rest memory = (memory.frozen ≡ first ∷ rest) × (memory.held ≡ false)

-- while the confirm is out: the list is frozen still, or the confirm was heard and
-- what was raised since waits
abbrev pub IsConfirming : Event → List Event → Events → Type 0
IsConfirming first rest memory = IsFrozen first rest memory
    ⊎ ((memory.frozen ≡ []) × (memory.held ≡ true))

-- whether octets are those of a confirm, by the first of them
abbrev pub confirms : List ℕ → Bool
confirms octets =
    is_confirm (control_of (slice_index octets 0)).channel (control_of (slice_index octets 0)).read
    (control_of (slice_index octets 0)).address

-- a fact of the event memory while the far end is awake
abbrev pub Awake : (Events → Type 0) → Far → Type 0
Awake fact far = far.awake ≡ true → fact far.events

pub record EventLaws (first : Event) (rest : List Event) : Type 0 where
  -- the list stays frozen over local steps, and over hearing whatever isn't a confirm
  pub frozen_steps : (far : Far) (step : LocalStep) → Awake (IsFrozen first rest) far
      → Awake (IsFrozen first rest) (local far step)
  pub frozen_hears : (far : Far) (octets : List ℕ) → confirms octets ≡ false
      → Awake (IsFrozen first rest) far → Awake (IsFrozen first rest) (hear far octets).far
  -- while the confirm is out nothing else is cleared, however often it is heard
  pub confirming_steps : (far : Far) (step : LocalStep) → Awake (IsConfirming first rest) far
      → Awake (IsConfirming first rest) (local far step)
  pub confirming_hears : (far : Far) (octets : List ℕ) → confirms octets ≡ true
      → Awake (IsConfirming first rest) far → Awake (IsConfirming first rest) (hear far octets).far
  -- once it has a reply the list is cleared
  pub clears : (far : Far) (octets reply : List ℕ) → confirms octets ≡ true
      → Awake (IsConfirming first rest) far → (hear far octets).reply ≡ Some reply
      → ((hear far octets).far.events.frozen ≡ []) × ((hear far octets).far.events.held ≡ true)
