-- The control octets of the page's messages, and the parts of these messages.
-- For the clauses of `messages::page_control`, `messages::page_read`, `messages::page_write` and 7
--     more.
use Rattle.std.proofs.Common.{◌≡◌, ℕ, ◌+◌, ◌/◌, ◌%◌, ◌≤◌, Bool, true, false, refl, sym, ap, ◌∙◌, arith}
use Rattle.std.specs.Prelude.{IsTrue}
use Rattle.std.proofs.Math.Bridge.{le_prop}
use Rattle.std.proofs.lemmas.Bool.Decides.{nat_tests}
use Rattle.std.proofs.lemmas.Grind.{common_steps}
use Rattle.std.proofs.lemmas.List.{length-replicate}
use mathlib.Core.HLevel.{is_prop→PathP}
use Rattle.iol_octets.specs.Control.{control_of, channel_of}
use Rattle.iol_octets.specs.declared.control.Channel.TheVariants.{Page}
use Rattle.iol_octets.specs.declared.control.Mc.{Mc}
use Rattle.iol_mseq.specs.Shape.{Shape, IsLayout, startup_shape, is_size}
use Rattle.iol_mseq.specs.Master.{HasMasterParts}
use Rattle.iol_mode.specs.Messages.{page_control, page_read, page_write}

-- the parts of a control octet
pub record PageParts (read : Bool) (address : ℕ) (mc : Mc) : Type 0 where
  pub read_is : mc.read ≡ read
  pub channel_is : mc.channel ≡ Page
  pub address_is : mc.address ≡ address

pub page_parts : (read : Bool) (address : ℕ) → address ≤ 31
    → PageParts read address (page_control read address)
unfolding control_of
page_parts true address h = record {
  read_is = grind (arith, nat_tests);
  channel_is = ap channel_of (let code : (0xA0 + address) / 32 % 4 ≡ 1 = omega arith in code);
  address_is = omega arith;
}
page_parts false address h = record {
  read_is = grind (arith, nat_tests);
  channel_is = ap channel_of (let code : (0x20 + address) / 32 % 4 ≡ 1 = omega arith in code);
  address_is = omega arith;
}

-- a control octet of these parts
pub page_control_is : (mc : Mc) → mc.channel ≡ Page → mc ≡ page_control mc.read mc.address
page_control_is mc page =
    let p = page_parts mc.read mc.address mc.in_range in
    let read = sym p.read_is in
    let channel = page ∙ sym p.channel_is in
    let address = sym p.address_is in
    λ i. record {
      read = read i;
      channel = channel i;
      address = address i;
      in_range = is_prop→PathP (λ j. address j ≤ 31) (λ j. le_prop) mc.in_range
          (page_control mc.read mc.address).in_range i;
    }

pub some_od : (od : ℕ) → IsTrue (is_size od) → 1 ≤ od
some_od od h = grind (arith, nat_tests, common_steps)

pub read_parts : (address : ℕ) → address ≤ 31 → HasMasterParts startup_shape (page_read address)
read_parts address h = record { out = refl; od = rw (page_parts true address h).read_is }

pub write_parts : (layout : Shape) (address octet : ℕ) → IsLayout layout → layout.pd_out ≡ 0
    → address ≤ 31 → HasMasterParts layout (page_write layout address octet)
write_parts layout address octet valid plain h = record {
  out = sym plain;
  od =
      let some = some_od layout.od valid.od in
      rw ((page_parts false address h).read_is, length-replicate) (omega (arith, some));
}
