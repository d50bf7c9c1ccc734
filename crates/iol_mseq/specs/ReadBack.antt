-- What is written of a message is read back as it.
use Rattle.std.specs.Prelude.{◌≡◌, Bool, ℕ, List, Some}
use Rattle.iol_mseq.specs.Shape.{Shape}
use Rattle.iol_mseq.specs.Master.{HasMasterParts, SpellsMaster, master_in}
use Rattle.iol_mseq.specs.Replies.{HasReplyParts, reply_in}
use Rattle.iol_mseq.specs.Texts.{master_text, reply_text}
use Rattle.iol_mseq.specs.declared.master.MasterMsg.{MasterMsg}
use Rattle.iol_mseq.specs.declared.reply.Reply.{Reply}

-- octets that spell a master message in a layout are read there as it
abbrev pub SpelledIsRead : Type 0
SpelledIsRead = (layout : Shape) (message : MasterMsg) (octets : List ℕ)
    → SpellsMaster layout message octets → master_in layout octets ≡ Some message

-- and so are those that are written of it, where its parts have the layout's sizes
abbrev pub MasterIsReadBack : Type 0
MasterIsReadBack = (layout : Shape) (message : MasterMsg) → HasMasterParts layout message
    → master_in layout (master_text layout message) ≡ Some message

-- those that are written of a reply are read back as it
abbrev pub ReplyIsReadBack : Type 0
ReplyIsReadBack = (layout : Shape) (read : Bool) (reply : Reply) → HasReplyParts layout read reply
    → reply_in layout read (reply_text reply) ≡ Some reply
