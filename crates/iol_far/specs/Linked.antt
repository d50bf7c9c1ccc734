-- The link alone: which mode both ends are in while a message is out, whatever is
-- under way on the ISDU channel.
use Rattle.std.specs.Prelude.{◌≡◌, ◌⊎◌, ℕ, suc, ◌≤◌, true, false, List, Some}
use Rattle.iol_mseq.specs.Shape.{Shape}
use Rattle.iol_mseq.specs.Master.{HasMasterParts}
use Rattle.iol_mseq.specs.Texts.{master_text}
use Rattle.iol_mseq.specs.declared.master.MasterMsg.{MasterMsg}
use Rattle.iol_far.specs.Codec.{layout_in, message_in, reply_octets}
use Rattle.iol_far.specs.Far.{Far, HearResult, hear, reply_to}
use Rattle.iol_far.specs.Local.{LocalStep, local}
use Rattle.iol_far.specs.Level.{FarLink, link_of, accepting_link, turned_link, Happening, far_after_all, hearings}

-- the far end is awake, and it is in that mode with that mode command waiting there
pub record IsAt (page : List ℕ) (link : FarLink) (far : Far) : Type 0 where
  pub awake : far.awake ≡ true
  pub page_is : far.page ≡ page
  pub link_is : link_of far ≡ link

-- The far end sleeps, or it comes from there by local steps and at most that many
-- hearings of the message that is out
abbrev pub IsLinked : List ℕ → FarLink → List ℕ → ℕ → Far → Type 0
IsLinked page link octets most far =
    ((far.awake ≡ false) × (far.page ≡ page))
    ⊎ ((before : Far) × (rest : List Happening) × IsAt page link before × (hearings rest ≤ most)
    × (far ≡ far_after_all before octets rest))

-- What keeps both ends so while a message is out
pub record LinkStays (page : List ℕ) (link : FarLink) (octets : List ℕ) : Type 0 where
  -- a new message goes out
  pub begins : (far : Far) → IsAt page link far → IsLinked page link octets 0 far
  -- the far end does something by itself
  pub steps : (most : ℕ) (far : Far) (step : LocalStep) → IsLinked page link octets most far
      → IsLinked page link octets most (local far step)
  -- the message is heard, and no good reply comes
  pub hears : (most : ℕ) (far : Far) → IsLinked page link octets most far
      → IsLinked page link octets (suc most) (hear far octets).far
  -- it is lost
  pub loses : (most : ℕ) (far : Far) → IsLinked page link octets most far
      → IsLinked page link octets (suc most) far

-- What one good reply says of the far end: its link, and the reply, in the layout
-- of the master's own link
pub record LinkSays (page : List ℕ) (link : FarLink) (octets : List ℕ) (message : MasterMsg)
    (heard : HearResult) : Type 0 where
  pub at : IsAt page (turned_link page link octets message) heard.far
  pub reply_is : heard.reply
      ≡ Some (reply_octets
      (reply_to heard.far (layout_in page (turned_link page link octets message).mode) message))

-- LINK-9
pub record LinkLaws : Type 0 where
  pub stays : (page : List ℕ) (link : FarLink) (octets : List ℕ) → LinkStays page link octets
  -- octets that spell the message in the layout in which the far end accepts them
  pub replies : (page : List ℕ) (link : FarLink) (octets : List ℕ) (message : MasterMsg)
      → message_in (layout_in page (accepting_link link octets).mode) octets ≡ Some message
      → (most : ℕ) (far : Far) → IsLinked page link octets most far → (reply : List ℕ)
      → (hear far octets).reply ≡ Some reply
      → LinkSays page link octets message (hear far octets)
  -- another message goes out in its place: the far end is where it was before it, or behind it
  pub replaced : (page : List ℕ) (link : FarLink) (octets : List ℕ) (message : MasterMsg)
      → message_in (layout_in page (accepting_link link octets).mode) octets ≡ Some message
      → (most : ℕ) (far : Far) → IsLinked page link octets most far → (other : List ℕ)
      → IsLinked page link other 0 far
      ⊎ IsLinked page (turned_link page link octets message) other 0 far
  -- where nothing was heard, it doesn't matter what was out
  pub unheard : (far : Far) (octets other : List ℕ) (rest : List Happening) → hearings rest ≤ 0
      → far_after_all far octets rest ≡ far_after_all far other rest

-- the octets of a message are read back as that message, in the layout whose sizes its parts have
abbrev pub TextsAreHeard : Type 0
TextsAreHeard = (layout : Shape) (message : MasterMsg) → HasMasterParts layout message
    → message_in layout (master_text layout message) ≡ Some message
