-- What is printed of the octets of a message in a layout: what they spell, or why they spell none.
use Rattle.std.specs.Prelude.{◌≡◌, ℕ, ◌+◌, ◌*◌, Bool, MatchOption, List, length}
use Rattle.iol_mseq.specs.Shape.{Shape}
use Rattle.iol_mseq.specs.Master.{master_fault, SpellsMaster}
use Rattle.iol_mseq.specs.Replies.{reply_fault, SpellsReply}
use Rattle.iol_mseq.specs.declared.master.MasterMsg.{MasterMsg}
use Rattle.iol_mseq.specs.declared.reply.Reply.{Reply}
use Rattle.iol_print.specs.Printed.{refusal_text, message_text, printed_reply}

-- the text of the message that the octets spell in the layout, or of the refusal
abbrev pub PrintsMessage : Shape → List ℕ → List ℕ → Type 0
PrintsMessage present octets text =
    MatchOption (master_fault present octets)
    ((message : MasterMsg) × SpellsMaster present message octets
    × (text ≡ message_text message)) (λ fault. text ≡ refusal_text fault)

-- the same of a reply, to a read or to a write
abbrev pub PrintsReply : Shape → Bool → List ℕ → List ℕ → Type 0
PrintsReply present read octets text =
    MatchOption (reply_fault present read octets)
    ((reply : Reply) × SpellsReply present read reply octets × (text ≡ printed_reply read reply))
    (λ fault. text ≡ refusal_text fault)

-- no such text of so many octets has more bytes
abbrev pub meaning_room : List ℕ → ℕ
meaning_room octets = 28 + 3 * length octets
