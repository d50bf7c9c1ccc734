-- A damaged reply.
use Rattle.std.specs.Prelude.{◌≡◌, ℕ, ◌+◌, ◌<◌, ◌≤◌, Bool, List, length, Some}
use Rattle.iol_octets.specs.Checksum.{AreOctets, with_flip}
use Rattle.iol_mseq.specs.Shape.{Shape, IsLayout}
use Rattle.iol_mseq.specs.Replies.{IsGoodReply, answered_od}
use Rattle.iol_mseq.specs.declared.master.MasterMsg.{MasterMsg}
use Rattle.iol_far.specs.declared.mode.DeviceMode.{DeviceMode}
use Rattle.iol_far.specs.Codec.{layout_in, message_in}
use Rattle.iol_link.specs.Honest.{IsUnread}

-- octets that are a good reply in no layout in which the sent octets spell a message may come back
-- over an honest wire in place of a reply
abbrev pub BadIsUnread : Type 0
BadIsUnread = (page sent octets : List ℕ)
    → ((layout : Shape) (message : MasterMsg) → IsLayout layout
    → message_in layout sent ≡ Some message → ¬ IsGoodReply layout message.mc.read octets)
    → IsUnread page sent (Some octets)

-- such are those of a good reply with one bit flipped
abbrev pub FlippedIsUnread : Type 0
FlippedIsUnread =
    (layout : Shape) (read : Bool) (page sent octets : List ℕ) (place bit : ℕ)
    → AreOctets octets → place < length octets → bit < 8
    → IsGoodReply layout read octets → IsUnread page sent (Some (with_flip octets place bit))

-- such are those of a reply that lost one to five octets, whatever the others are; six may be what
-- two layouts of one page differ by
abbrev pub LostOctetsAreUnread : Type 0
LostOctetsAreUnread =
    (page : List ℕ) (mode : DeviceMode) (sent octets : List ℕ) (message : MasterMsg) (lost : ℕ)
    → message_in (layout_in page mode) sent ≡ Some message → 1 ≤ lost → lost ≤ 5
    → length octets + lost ≡ answered_od (layout_in page mode) message.mc.read
    + (layout_in page mode).pd_in + 1 → IsUnread page sent (Some octets)
