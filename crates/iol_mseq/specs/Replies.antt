-- Replies (IEC 61131-9, A.1 and A.2).
use Rattle.std.specs.Prelude.{◌≡◌, ℕ, ◌+◌, ◌-◌, ◌%◌, ◌<◌, Bool, ◌==◌, not, nat_le, if◌then◌else◌, List, [], ◌∷◌, ◌++◌, length, take, drop, slice_index, Option, Some, None, is_some, IsTrue}
use Rattle.iol_octets.specs.Checksum.{has_checksum}
use Rattle.iol_octets.specs.CheckOctets.{status_bits}
use Rattle.iol_mseq.specs.Shape.{Shape}
use Rattle.iol_mseq.specs.declared.fault.MseqFault.{MseqFault}
use Rattle.iol_mseq.specs.declared.fault.MseqFault.TheVariants.{WrongLength, BadChecksum}
use Rattle.iol_mseq.specs.declared.reply.Reply.{Reply}

-- how many octets of on-request data a reply has: to a write, none
abbrev pub answered_od : Shape → Bool → ℕ
answered_od layout read = if read then layout.od else 0

-- as many octets as the layout has
abbrev pub has_reply_length : Shape → Bool → List ℕ → Bool
has_reply_length layout read octets = (length octets == answered_od layout read + layout.pd_in + 1)

-- whether the last octet has the checksum
abbrev pub is_checked : List ℕ → Bool
is_checked octets = has_checksum (length octets - 1) octets

-- a reply that is well-formed in a layout, to a read or to a write
-- MSG-4
pub record IsGoodReply (layout : Shape) (read : Bool) (octets : List ℕ) : Type 0 where
  pub length : IsTrue (has_reply_length layout read octets)
  pub checksum : IsTrue (is_checked octets)

-- the first part of being well-formed that fails
-- MSG-5
abbrev pub reply_fault : Shape → Bool → List ℕ → Option MseqFault
reply_fault layout read octets =
    if not (has_reply_length layout read octets) then Some WrongLength else
    if not (is_checked octets) then Some BadChecksum else None

-- the parts of a reply have the layout's sizes
pub record HasReplyParts (layout : Shape) (read : Bool) (reply : Reply) : Type 0 where
  pub od : length reply.od.items ≡ answered_od layout read
  pub input : length reply.input.items ≡ layout.pd_in

-- a reply to a read or to a write
abbrev pub FitsReply : Shape → Reply → Type 0
FitsReply layout reply = (read : Bool) × HasReplyParts layout read reply

-- the octets are on-request data, process data in and check octet, in this order,
-- and are well-formed
-- MSG-2
pub record SpellsReply (layout : Shape) (read : Bool) (reply : Reply)
    (octets : List ℕ) : Type 0 where
  pub sizes : HasReplyParts layout read reply
  pub parts : (sum : ℕ) × (sum < 64)
      × (octets
      ≡ reply.od.items ++ reply.input.items ++ (status_bits reply.event reply.invalid + sum)
      ∷ [])
  pub good : IsGoodReply layout read octets

-- the reply that well-formed octets spell, as a function of them
abbrev pub reply_of : Shape → Bool → List ℕ → Reply
reply_of layout read octets =
    let od = answered_od layout read in
    let last = slice_index octets (od + layout.pd_in) in
    record {
      od = record { items = take od octets };
      input = record { items = take layout.pd_in (drop od octets) };
      event = nat_le 128 last;
      invalid = nat_le 64 (last % 128);
    }

-- the reply that octets spell in a layout, where they are well-formed in it
abbrev pub reply_in : Shape → Bool → List ℕ → Option Reply
reply_in layout read octets =
    if is_some (reply_fault layout read octets) then None else Some (reply_of layout read octets)
