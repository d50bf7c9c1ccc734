-- The octets of a message as a function of it.
use Rattle.std.specs.Prelude.{ℕ, ◌+◌, ◌*◌, List, [], ◌∷◌, ◌++◌}
use Rattle.iol_octets.specs.Checksum.{checksum_of, with_checksum}
use Rattle.iol_octets.specs.Control.{control_octet}
use Rattle.iol_octets.specs.CheckOctets.{type_bits, status_bits}
use Rattle.iol_mseq.specs.Shape.{Shape}
use Rattle.iol_mseq.specs.declared.master.MasterMsg.{MasterMsg}
use Rattle.iol_mseq.specs.declared.reply.Reply.{Reply}

-- the octets of a master message
-- MSG-1
abbrev pub master_text : Shape → MasterMsg → List ℕ
master_text layout message =
    with_checksum 1
    (control_octet message.mc ∷ (64 * type_bits layout.kind) ∷ message.out.items
    ++ message.od.items)

-- octets with an octet put behind them that holds these bits and the checksum of all
abbrev pub closed_by : List ℕ → ℕ → List ℕ
closed_by octets bits = octets ++ (bits + checksum_of (octets ++ bits ∷ [])) ∷ []

-- the octets of a reply
-- MSG-2
abbrev pub reply_text : Reply → List ℕ
reply_text reply =
    closed_by (reply.od.items ++ reply.input.items) (status_bits reply.event reply.invalid)
