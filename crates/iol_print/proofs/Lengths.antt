-- How many bytes texts have at most, for the clauses `fits`.
-- For the clauses of `LineCall::print`, `meaning::print_message_of`, `meaning::print_reply_of` and
--     3 more.
use Rattle.std.proofs.Common.{◌≡◌, ℕ, ◌+◌, ◌*◌, ◌<◌, ◌≤◌, ◌^◌, Bool, true, false, if◌then◌else◌, Option, Some, None, List, [], ◌∷◌, ◌++◌, length, codes, refl, ap, arith, length-append}
use Rattle.std.proofs.lemmas.Fmt.{length-decimal-le}
use Rattle.std.specs.Prelude.{MatchOption}
use Rattle.std.specs.Fmt.{decimal}
use Rattle.iol_octets.specs.declared.control.Mc.{Mc}
use Rattle.iol_octets.specs.declared.control.Channel.{Channel}
use Rattle.iol_octets.specs.declared.control.Channel.TheVariants.{Process, Page, Diagnosis, Isdu}
use Rattle.iol_mseq.specs.Fault.{mseq_fault_number}
use Rattle.iol_mseq.specs.Shape.{Shape}
use Rattle.iol_mseq.specs.Master.{SpellsMaster, master_fault}
use Rattle.iol_mseq.specs.Replies.{SpellsReply}
use Rattle.iol_mseq.specs.declared.fault.MseqFault.{MseqFault}
use Rattle.iol_mseq.specs.declared.fault.MseqFault.TheVariants.{UnsupportedCode, BadLength, WrongLength, WrongType, BadChecksum}
use Rattle.iol_mseq.specs.declared.master.MasterMsg.{MasterMsg}
use Rattle.iol_mseq.specs.declared.reply.Reply.{Reply}
use Rattle.iol_link.specs.declared.wire.Rate.{Rate}
use Rattle.iol_link.specs.declared.wire.Rate.TheVariants.{Com1, Com2, Com3}
use Rattle.iol_print.specs.Printed.{hexadecimal, octets_text, part_text, fault_name, refusal_text, channel_text, control_text, written_text, message_text, answered_text, status_text, printed_reply}
use Rattle.iol_print.specs.Meanings.{meaning_room}
use Rattle.iol_print.specs.Passing.{PrintsSent, line_front, line_room, rate_name, wake_text}
use Rattle.iol_print.proofs.PrintedLemmas.{octets_length}

-- Texts behind each other

four : (a b c d : List ℕ) → length (a ++ b ++ c ++ d) ≡ length a + length b + length c + length d
four a b c d =
    omega (arith, length-append (a ++ b ++ c) d, length-append (a ++ b) c, length-append a b)

five : (a b c d e : List ℕ)
    → length (a ++ b ++ c ++ d ++ e) ≡ length a + length b + length c + length d + length e
five a b c d e = omega (arith, length-append (a ++ b ++ c ++ d) e, four a b c d)

-- A refusal

number_small : (fault : MseqFault) → mseq_fault_number fault < 1000
number_small UnsupportedCode = omega arith
number_small BadLength = omega arith
number_small WrongLength = omega arith
number_small WrongType = omega arith
number_small BadChecksum = omega arith

name_room : (fault : MseqFault) → length (fault_name fault) ≤ 15
name_room UnsupportedCode = omega arith
name_room BadLength = omega arith
name_room WrongLength = omega arith
name_room WrongType = omega arith
name_room BadChecksum = omega arith

refused_room : (a b c d e : List ℕ) → length a ≡ 8 → length b ≤ 3 → length c ≡ 1
    → length d ≤ 15 → length e ≡ 1 → length (a ++ b ++ c ++ d ++ e) ≤ 28
refused_room a b c d e one two three much last =
    omega (arith, five a b c d e, one, two, three, much, last)

pub refusal_room : (fault : MseqFault) → length (refusal_text fault) ≤ 28
refusal_room fault =
    let number = mseq_fault_number fault in
    let small = number_small fault in
    refused_room (codes "refused ") (decimal number) (codes " ") (fault_name fault) (codes "\n")
    refl
    (length-decimal-le 3 number (omega arith) (omega (arith, small)) (omega (arith, small))) refl
    (name_room fault) refl

-- A message

way_room : (read : Bool) → length (if read then codes "read " else codes "write ") ≤ 6
way_room true = omega arith
way_room false = omega arith

channel_room : (channel : Channel) → length (channel_text channel) ≤ 9
channel_room Process = omega arith
channel_room Page = omega arith
channel_room Diagnosis = omega arith
channel_room Isdu = omega arith

four_room : (a b c d : List ℕ) (k l m n : ℕ) → length a ≤ k → length b ≤ l → length c ≤ m
    → length d ≤ n → length (a ++ b ++ c ++ d) ≤ k + l + m + n
four_room a b c d k l m n one two three last =
    omega (arith, four a b c d, one, two, three, last)

control_room : (mc : Mc) → length (control_text mc) ≤ 18
control_room mc =
    four_room (if mc.read then codes "read " else codes "write ") (channel_text mc.channel)
    (codes " ") (hexadecimal mc.address) 6 9 1 2 (way_room mc.read) (channel_room mc.channel)
    (omega arith) (omega arith)

part_room : (name octets : List ℕ)
    → length (part_text name octets) ≤ length name + 3 * length octets
part_room name [] = omega arith
part_room name (octet ∷ octets) = omega (
  arith,
  length-append name (octets_text (octet ∷ octets)),
  octets_length (octet ∷ octets),
)

data_room : (read : Bool) (octets : List ℕ)
    → length (if read then [] else codes " od" ++ octets_text octets) ≤ 3 + 3 * length octets
data_room true octets = omega arith
data_room false octets = omega (arith, octets_length octets)

sent_long : (octets out od : List ℕ) (control check : ℕ) → octets ≡ control ∷ check ∷ out ++ od
    → length octets ≡ 2 + (length out + length od)
sent_long octets out od control check is = omega (arith, ap length is, length-append out od)

less : (text octets : List ℕ) (o i : ℕ)
    → length text ≤ 18 + (4 + 3 * o) + (3 + 3 * i) + 1 → 2 + (o + i) ≤ length octets
    → length text ≤ meaning_room octets
less text octets o i long are = omega (arith, long, are)

pub message_room : (layout : Shape) (message : MasterMsg) (octets : List ℕ)
    → SpellsMaster layout message octets → length (message_text message) ≤ meaning_room octets
message_room layout message octets spells =
    let (check, parts) = spells.parts in
    let out = message.out.items in
    let od = message.od.items in
    let long = sent_long octets out od _ check parts in
    less (message_text message) octets (length out) (length od)
    (four_room (control_text message.mc) (part_text (codes " out") out) (written_text message)
    (codes "\n") 18 (4 + 3 * length out) (3 + 3 * length od) 1 (control_room message.mc)
    (part_room (codes " out") out) (data_room message.mc.read od) (omega arith))
    (omega (arith, long))

-- A reply

answered_room : (read : Bool) (octets : List ℕ)
    → length (if read then codes "od" ++ octets_text octets else codes "ack")
    ≤ 3 + 3 * length octets
answered_room true octets = omega (arith, octets_length octets)
answered_room false octets = omega arith

event_room : (event : Bool) → length (if event then codes " event 1" else codes " event 0") ≤ 8
event_room true = omega arith
event_room false = omega arith

valid_room : (invalid : Bool)
    → length (if invalid then codes " pd invalid" else codes " pd valid") ≤ 11
valid_room true = omega arith
valid_room false = omega arith

both_room : (a b : List ℕ) (k l : ℕ) → length a ≤ k → length b ≤ l → length (a ++ b) ≤ k + l
both_room a b k l one last = omega (arith, length-append a b, one, last)

state_room : (reply : Reply) → length (status_text reply) ≤ 19
state_room reply =
    both_room (if reply.event then codes " event 1" else codes " event 0")
    (if reply.invalid then codes " pd invalid" else codes " pd valid") 8 11
    (event_room reply.event) (valid_room reply.invalid)

received_long : (octets od input : List ℕ) (last : ℕ) → octets ≡ od ++ input ++ (last ∷ [])
    → length octets ≡ length od + length input + 1
received_long octets od input last is = omega (
  arith,
  ap length is,
  length-append (od ++ input) (last ∷ []),
  length-append od input,
)

meaning : (text octets : List ℕ) (o i : ℕ)
    → length text ≤ 3 + 3 * o + (3 + 3 * i) + 19 + 1 → length octets ≡ o + i + 1
    → length text ≤ meaning_room octets
meaning text octets o i long are = omega (arith, long, are)

pub reply_room : (layout : Shape) (read : Bool) (reply : Reply) (octets : List ℕ)
    → SpellsReply layout read reply octets
    → length (printed_reply read reply) ≤ meaning_room octets
reply_room layout read reply octets spells =
    let (sum, small, parts) = spells.parts in
    let od = reply.od.items in
    let input = reply.input.items in
    meaning (printed_reply read reply) octets (length od) (length input)
    (four_room (answered_text read reply) (part_text (codes " in") input) (status_text reply)
    (codes "\n") (3 + 3 * length od) (3 + 3 * length input) 19 1 (answered_room read od)
    (part_room (codes " in") input) (state_room reply) (omega arith))
    (received_long octets od input _ parts)

-- A line

pub number_room : (number : ℕ) → number < 2 ^ 64 → length (decimal number) ≤ 20
number_room number small = length-decimal-le 20 number (omega arith) (omega (arith, small)) small

pub none_room : (number : ℕ) → number < 2 ^ 64
    → length (decimal number ++ codes " < none\n") ≤ 28
none_room number small =
    both_room (decimal number) (codes " < none\n") 20 8 (number_room number small) (omega arith)

fronts : (a b c d e : List ℕ) (n : ℕ) → length a ≤ 20 → length b ≡ 1 → length c ≡ 1
    → length d ≡ 3 * n → length e ≡ 2 → length (a ++ b ++ c ++ d ++ e) ≤ 24 + 3 * n
fronts a b c d e n one two three much last =
    omega (arith, five a b c d e, one, two, three, much, last)

pub front_room : (number : ℕ) (way octets : List ℕ) → number < 2 ^ 64 → length way ≡ 1
    → length (line_front number way octets) ≤ 24 + 3 * length octets
front_room number way octets small one =
    fronts (decimal number) (codes " ") way (octets_text octets) (codes ": ") (length octets)
    (number_room number small) refl one (octets_length octets) refl

rate_room : (rate : Option Rate) → length (rate_name rate) ≤ 4
rate_room None = omega arith
rate_room (Some Com1) = omega arith
rate_room (Some Com2) = omega arith
rate_room (Some Com3) = omega arith

pub wake_room : (number : ℕ) (rate : Option Rate) → number < 2 ^ 64
    → length (wake_text number rate) ≤ 31
wake_room number rate small =
    four_room (decimal number) (codes " wake ") (rate_name rate) (codes "\n") 20 6 4 1
    (number_room number small) (omega arith) (rate_room rate) (omega arith)

meaning_bound : (layout : Shape) (octets text : List ℕ) (refused : Option MseqFault)
    → MatchOption refused
    ((message : MasterMsg) × SpellsMaster layout message octets × (text ≡ message_text message))
    (λ fault. text ≡ refusal_text fault)
    → length text ≤ meaning_room octets
meaning_bound layout octets text None (message, spells, is) =
    rw is (message_room layout message octets spells)
meaning_bound layout octets text (Some fault) is =
    rw is (omega (arith, refusal_room fault))

pub sent_bound : (number : ℕ) (layout : Shape) (octets text : List ℕ) → number < 2 ^ 64
    → PrintsSent number layout octets text → length text ≤ line_room octets
sent_bound number layout octets text small (meaning, prints, is) =
    let front = line_front number (codes ">") octets in
    rw is (omega (
      arith,
      both_room front meaning (24 + 3 * length octets) (28 + 3 * length octets)
          (front_room number (codes ">") octets small refl)
          (meaning_bound layout octets meaning (master_fault layout octets) prints),
    ))
