-- The M-sequence control octet (IEC 61131-9, A.1.2).
use Rattle.std.specs.Prelude.{◌≡◌, ℕ, ◌+◌, ◌*◌, ◌/◌, ◌%◌, zero, suc, nat_le, if◌then◌else◌}
use Rattle.iol_octets.specs.declared.control.Channel.{Channel}
use Rattle.iol_octets.specs.declared.control.Channel.TheVariants.{Process, Page, Diagnosis, Isdu}
use Rattle.iol_octets.specs.declared.control.Mc.{Mc}
use Rattle.std.proofs.Math.Nat.{le-pred_of_lt, mod-lt, zero-lt-suc}

-- the number of a channel, in bits 6 and 5
-- OCT-1
abbrev pub channel_code : Channel → ℕ
channel_code Process = 0
channel_code Page = 1
channel_code Diagnosis = 2
channel_code Isdu = 3

-- bit 7 is 1 for a read, bits 6 and 5 are the channel, bits 4 to 0 the address
-- OCT-1
abbrev pub control_octet : Mc → ℕ
control_octet mc = (if mc.read then 128 else 0) + 32 * channel_code mc.channel + mc.address

-- the channel of a number
abbrev pub channel_of : ℕ → Channel
channel_of zero = Process
channel_of (suc zero) = Page
channel_of (suc (suc zero)) = Diagnosis
channel_of (suc (suc (suc n))) = Isdu

-- the one control octet that an octet is
unfoldable pub control_of : ℕ → Mc
control_of octet = record {
  read = nat_le 128 octet;
  channel = channel_of (octet / 32 % 4);
  address = octet % 32;
  in_range = le-pred_of_lt (mod-lt octet (zero-lt-suc 31));
}

-- what is written of a control octet is read back as it
abbrev pub ControlsAreReadBack : Type 0
ControlsAreReadBack = (mc : Mc) → control_of (control_octet mc) ≡ mc
