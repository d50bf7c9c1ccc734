-- Master messages (IEC 61131-9, A.1 and A.2).
use Rattle.std.specs.Prelude.{◌≡◌, ℕ, ◌+◌, ◌/◌, Bool, ◌==◌, not, nat_lt, nat_le, if◌then◌else◌, ◌&&◌, List, ◌∷◌, ◌++◌, length, take, drop, slice_index, Option, Some, None, is_some, IsTrue}
use Rattle.iol_octets.specs.CheckOctets.{type_bits}
use Rattle.iol_octets.specs.Checksum.{has_checksum}
use Rattle.iol_octets.specs.Control.{control_octet, control_of}
use Rattle.iol_mseq.specs.Shape.{Shape}
use Rattle.iol_mseq.specs.declared.fault.MseqFault.{MseqFault}
use Rattle.iol_mseq.specs.declared.fault.MseqFault.TheVariants.{WrongLength, WrongType, BadChecksum}
use Rattle.iol_mseq.specs.declared.master.MasterMsg.{MasterMsg}

-- how many octets of on-request data a master message has, by its first octet: a read has none
abbrev pub sent_od : Shape → ℕ → ℕ
sent_od layout control = if (nat_lt control 128) then layout.od else 0

-- at least two octets, and as many as the layout has
abbrev pub has_master_length : Shape → List ℕ → Bool
has_master_length layout octets = nat_le 2 (length octets)
    && (length octets == 2 + layout.pd_out + sent_od layout (slice_index octets 0))

-- bits 7 and 6 of the second octet are the layout's M-sequence type
abbrev pub has_kind : Shape → List ℕ → Bool
has_kind layout octets = slice_index octets 1 / 64 == type_bits layout.kind

-- a master message that is well-formed in a layout
-- MSG-3
pub record IsGoodMaster (layout : Shape) (octets : List ℕ) : Type 0 where
  pub length : IsTrue (has_master_length layout octets)
  pub kind : IsTrue (has_kind layout octets)
  pub checksum : IsTrue (has_checksum 1 octets)

-- the first part of being well-formed that fails
-- MSG-5
abbrev pub master_fault : Shape → List ℕ → Option MseqFault
master_fault layout octets =
    if not (has_master_length layout octets) then Some WrongLength else
    if not (has_kind layout octets) then Some WrongType else
    if not (has_checksum 1 octets) then Some BadChecksum else None

-- the parts of a message have the layout's sizes
pub record HasMasterParts (layout : Shape) (message : MasterMsg) : Type 0 where
  pub out : length message.out.items ≡ layout.pd_out
  pub od : length message.od.items ≡ (if message.mc.read then 0 else layout.od)

-- the octets are control octet, check octet, process data out and on-request data,
-- in this order, and are well-formed
-- MSG-1
pub record SpellsMaster (layout : Shape) (message : MasterMsg) (octets : List ℕ) : Type 0 where
  pub sizes : HasMasterParts layout message
  pub parts : (check : ℕ)
      × (octets ≡ control_octet message.mc ∷ check ∷ message.out.items ++ message.od.items)
  pub good : IsGoodMaster layout octets

-- the message that well-formed octets spell, as a function of them
abbrev pub message_of : Shape → List ℕ → MasterMsg
message_of layout octets = record {
  mc = control_of (slice_index octets 0);
  out = record { items = take layout.pd_out (drop 2 octets) };
  od = record { items = drop layout.pd_out (drop 2 octets) };
}

-- the message that octets spell in a layout, where they are well-formed in it
abbrev pub master_in : Shape → List ℕ → Option MasterMsg
master_in layout octets =
    if is_some (master_fault layout octets) then None else Some (message_of layout octets)
