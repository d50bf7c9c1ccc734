-- What is printed of the octets of messages and replies.
use Rattle.std.specs.Prelude.{◌≡◌, ℕ, ◌/◌, ◌%◌, Bool, true, if◌then◌else◌, List, [], ◌∷◌, ◌++◌, flat_map, codes}
use Rattle.std.specs.Fmt.{decimal, digit_glyph}
use Rattle.iol_octets.specs.declared.control.Mc.{Mc}
use Rattle.iol_octets.specs.declared.control.Channel.{Channel}
use Rattle.iol_octets.specs.declared.control.Channel.TheVariants.{Process, Page, Diagnosis, Isdu}
use Rattle.iol_mseq.specs.Fault.{mseq_fault_number}
use Rattle.iol_mseq.specs.declared.fault.MseqFault.{MseqFault}
use Rattle.iol_mseq.specs.declared.fault.MseqFault.TheVariants.{UnsupportedCode, BadLength, WrongLength, WrongType, BadChecksum}
use Rattle.iol_mseq.specs.declared.master.MasterMsg.{MasterMsg}
use Rattle.iol_mseq.specs.declared.reply.Reply.{Reply}

-- an octet in two hexadecimal digits, the letters as capitals
abbrev pub hexadecimal : ℕ → List ℕ
hexadecimal octet = digit_glyph true (octet / 16) ∷ digit_glyph true (octet % 16) ∷ []

-- octets, each behind a space
abbrev pub octets_text : List ℕ → List ℕ
octets_text octets = flat_map (λ octet. codes " " ++ hexadecimal octet) octets

-- the name of a part and its octets, where it has any
abbrev pub part_text : List ℕ → List ℕ → List ℕ
part_text name [] = []
part_text name (octet ∷ octets) = name ++ octets_text (octet ∷ octets)

-- the name of a refusal
abbrev pub fault_name : MseqFault → List ℕ
fault_name UnsupportedCode = codes "UnsupportedCode"
fault_name BadLength = codes "BadLength"
fault_name WrongLength = codes "WrongLength"
fault_name WrongType = codes "WrongType"
fault_name BadChecksum = codes "BadChecksum"

-- the line of a refusal: its number and its name
abbrev pub refusal_text : MseqFault → List ℕ
refusal_text fault =
    codes "refused " ++ decimal (mseq_fault_number fault) ++ codes " " ++ fault_name fault
    ++ codes "\n"

-- the name of a channel
abbrev pub channel_text : Channel → List ℕ
channel_text Process = codes "process"
channel_text Page = codes "page"
channel_text Diagnosis = codes "diagnosis"
channel_text Isdu = codes "isdu"

-- the direction, the channel and the address
abbrev pub control_text : Mc → List ℕ
control_text mc = (if mc.read then codes "read " else codes "write ") ++ channel_text mc.channel
    ++ codes " " ++ hexadecimal mc.address

-- the on-request data of a write
abbrev pub written_text : MasterMsg → List ℕ
written_text message = if message.mc.read then [] else codes " od" ++ octets_text message.od.items

-- the line of a master message
abbrev pub message_text : MasterMsg → List ℕ
message_text message = control_text message.mc ++ part_text (codes " out") message.out.items
    ++ written_text message ++ codes "\n"

-- the on-request data of the reply to a read; the reply to a write has none
abbrev pub answered_text : Bool → Reply → List ℕ
answered_text read reply = if read then codes "od" ++ octets_text reply.od.items else codes "ack"

-- the Event flag and the process data status
abbrev pub status_text : Reply → List ℕ
status_text reply = (if reply.event then codes " event 1" else codes " event 0")
    ++ (if reply.invalid then codes " pd invalid" else codes " pd valid")

-- the line of the reply to a read or to a write
abbrev pub printed_reply : Bool → Reply → List ℕ
printed_reply read reply = answered_text read reply ++ part_text (codes " in") reply.input.items
    ++ status_text reply ++ codes "\n"
