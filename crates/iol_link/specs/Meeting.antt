-- What one exchange over an honest wire tells the master of the far end.
use Rattle.std.specs.Prelude.{◌≡◌, ℕ, suc, ◌+◌, ◌<◌, ◌≤◌, List, Option, Some, None}
use Rattle.iol_mseq.specs.Shape.{Shape, IsLayout}
use Rattle.iol_mseq.specs.declared.master.MasterMsg.{MasterMsg}
use Rattle.iol_mseq.specs.declared.reply.Reply.{Reply}
use Rattle.iol_far.specs.declared.carried.Carried.{Carried}
use Rattle.iol_far.specs.declared.kind.Recalls.{Recalls}
use Rattle.iol_far.specs.Isdu.{isdu_data}
use Rattle.iol_far.specs.Codec.{layout_in, message_in}
use Rattle.iol_far.specs.Far.{Far, reply_to}
use Rattle.iol_far.specs.Level.{FarLink, accepting_link, turned_link, Progress, Move, after, base_after, RecallsAtLeast, IsOutOnce, IsSent, under_way, IsLevelBefore, IsLevel, IsGrown}
use Rattle.iol_far.specs.Linked.{IsAt, IsLinked}
use Rattle.iol_link.specs.Honest.{HonestExchange}
use Rattle.iol_link.specs.Attempts.{good_reply, most_attempts}

-- the octets of the message that is out, in the layout in which the far end accepts them
pub record IsOut (page : List ℕ) (link : FarLink) (octets : List ℕ) (message : MasterMsg)
    (layout : Shape) : Type 0 where
  pub valid : IsLayout layout
  pub spells : message_in layout octets ≡ Some message
  pub accepted : layout_in page (accepting_link link octets).mode ≡ layout

-- The link alone

-- after a good reply: both ends have one link, by what a device of this page does
-- with the message, and the reply is what the far end says there
pub record LinkMet (page : List ℕ) (link : FarLink) (octets : List ℕ) (message : MasterMsg)
    (layout : Shape) (silence : ℕ) (far : Far) (reply : Reply) : Type 0 where
  pub silent : silence ≡ 0
  pub at : IsAt far.page (turned_link page link octets message) far
  pub reply_is : reply ≡ reply_to far layout message

-- after none: one attempt more
pub record LinkMissed (link : FarLink) (octets : List ℕ)
    (tries silence : ℕ) (far : Far) : Type 0 where
  pub few : tries + 1 ≤ silence
  pub linked : IsLinked far.page link octets (tries + 1) far

pub record LinkExchanges : Type 0 where
  pub met : (far : Far) (silence : ℕ) (octets : List ℕ) (answer : Option (List ℕ)) (far_new : Far)
      (silence_new : ℕ) → HonestExchange far silence octets answer far_new silence_new
      → (link : FarLink) (message : MasterMsg) (layout : Shape) (tries : ℕ)
      → IsOut far.page link octets message layout → IsLinked far.page link octets tries far
      → (reply : Reply) → good_reply layout message answer ≡ Some reply
      → LinkMet far.page link octets message layout silence_new far_new reply
  pub missed : (far : Far) (silence : ℕ) (octets : List ℕ) (answer : Option (List ℕ))
      (far_new : Far) (silence_new : ℕ)
      → HonestExchange far silence octets answer far_new silence_new
      → (link : FarLink) (message : MasterMsg) (layout : Shape) (tries : ℕ)
      → IsOut far.page link octets message layout → IsLinked far.page link octets tries far
      → tries < most_attempts → tries ≤ silence → good_reply layout message answer ≡ None
      → LinkMissed link octets tries silence_new far_new

-- The request and the record too

-- the state before the next message, for a master that trusts a device to recall its answers so
-- long, after so many tries in vain; and what the record has gained, where the message handed no
-- request over a second time
pub record LevelMet (page : List ℕ) (recalls : Recalls) (tries size : ℕ) (base : List Carried)
    (link : FarLink) (progress : Progress) (octets : List ℕ) (message : MasterMsg) (what : Move)
    (layout : Shape) (silence : ℕ) (far : Far) (reply : Reply) : Type 0 where
  pub silent : silence ≡ 0
  pub before : IsLevelBefore far.page far.kind size (base_after what base far.carried)
      (turned_link page link octets message)
      (after recalls tries progress what (isdu_data size far.isdu)) far
  pub grown : IsOutOnce far.kind.hands_over size what (suc tries)
      → IsGrown base progress far.carried
  pub reply_is : reply ≡ reply_to far layout message

pub record LevelMissed (size : ℕ) (base : List Carried) (link : FarLink) (progress : Progress)
    (octets : List ℕ) (what : Move) (tries silence : ℕ) (far : Far) : Type 0 where
  pub few : tries + 1 ≤ silence
  pub level : IsLevel far.page far.kind size base link progress octets (tries + 1) far
  pub grown : IsOutOnce far.kind.hands_over size what (suc tries)
      → IsGrown base (under_way far.kind.hands_over size progress what) far.carried

pub record LevelExchanges (size : ℕ) : Type 0 where
  pub met : (far : Far) (silence : ℕ) (octets : List ℕ) (answer : Option (List ℕ)) (far_new : Far)
      (silence_new : ℕ) → HonestExchange far silence octets answer far_new silence_new
      → (link : FarLink) (message : MasterMsg) (layout : Shape) (tries : ℕ)
      → IsOut far.page link octets message layout
      → (base : List Carried) (progress : Progress) (what : Move)
      → IsSent far.page size link progress octets message what
      → (recalls : Recalls) → RecallsAtLeast recalls far.kind.recalls
      → IsLevel far.page far.kind size base link progress octets tries far
      → (reply : Reply) → good_reply layout message answer ≡ Some reply
      → LevelMet far.page recalls tries size base link progress octets message what layout
      silence_new far_new reply
  pub missed : (far : Far) (silence : ℕ) (octets : List ℕ) (answer : Option (List ℕ))
      (far_new : Far) (silence_new : ℕ)
      → HonestExchange far silence octets answer far_new silence_new
      → (link : FarLink) (message : MasterMsg) (layout : Shape) (tries : ℕ)
      → IsOut far.page link octets message layout
      → (base : List Carried) (progress : Progress) (what : Move)
      → IsSent far.page size link progress octets message what
      → IsLevel far.page far.kind size base link progress octets tries far
      → tries < most_attempts → tries ≤ silence → good_reply layout message answer ≡ None
      → LevelMissed size base link progress octets what tries silence_new far_new

-- what an exchange leaves as it was
pub record DeviceStays : Type 0 where
  pub page : (far : Far) (silence : ℕ) (octets : List ℕ) (answer : Option (List ℕ))
      (far_new : Far) (silence_new : ℕ)
      → HonestExchange far silence octets answer far_new silence_new → far_new.page ≡ far.page
  pub kind : (far : Far) (silence : ℕ) (octets : List ℕ) (answer : Option (List ℕ))
      (far_new : Far) (silence_new : ℕ)
      → HonestExchange far silence octets answer far_new silence_new → far_new.kind ≡ far.kind
  pub misses : (far : Far) (silence : ℕ) (octets : List ℕ) (answer : Option (List ℕ))
      (far_new : Far) (silence_new : ℕ)
      → HonestExchange far silence octets answer far_new silence_new
      → far_new.misses_pulses ≡ far.misses_pulses
