-- The layouts: an M-sequence type and three lengths (IEC 61131-9, A.2; the codes of OPERATE are
-- a profile of this project).
use Rattle.std.specs.Prelude.{◌≡◌, ℕ, ◌+◌, ◌≤◌, Bool, ◌==◌, ◌||◌, ◌&&◌, nat_lt, nat_le, if◌then◌else◌, Result, Ok, Err, Option, Some, None, IsTrue}
use Rattle.iol_octets.specs.declared.check_octets.SequenceType.{SequenceType}
use Rattle.iol_octets.specs.declared.check_octets.SequenceType.TheVariants.{Type0, Type1, Type2}
use Rattle.iol_mseq.specs.declared.fault.MseqFault.{MseqFault}
use Rattle.iol_mseq.specs.declared.fault.MseqFault.TheVariants.{UnsupportedCode, BadLength}

-- a layout: the M-sequence type, and how many octets each part has
pub record Shape : Type 0 where
  pub kind : SequenceType
  pub od : ℕ
  pub pd_in : ℕ
  pub pd_out : ℕ

-- the M-sequence type of these lengths: 0 and 1 without process data, 2 with it
-- LAY-1
abbrev pub kind_of : ℕ → ℕ → ℕ → SequenceType
kind_of od pd_in pd_out =
    if (pd_in + pd_out == 0) then (if (od == 1) then Type0 else Type1) else Type2

-- the layout with these lengths
abbrev pub shape : ℕ → ℕ → ℕ → Shape
shape od pd_in pd_out =
    record { kind = kind_of od pd_in pd_out; od = od; pd_in = pd_in; pd_out = pd_out }

-- a number of octets that on-request data has
abbrev pub is_size : ℕ → Bool
is_size od = od == 1 || od == 2 || od == 8 || od == 32

-- a layout that some mode has
-- LAY-1
pub record IsLayout (l : Shape) : Type 0 where
  pub kind : l.kind ≡ kind_of l.od l.pd_in l.pd_out
  pub od : IsTrue (is_size l.od)
  pub pd_in : l.pd_in ≤ 32
  pub pd_out : l.pd_out ≤ 32

-- STARTUP
-- LAY-2
abbrev pub startup_shape : Shape
startup_shape = shape 1 0 0

-- PREOPERATE: 1, 2, 8 or 32 octets by the code, without process data
-- LAY-3
abbrev pub preoperate_shape : ℕ → Result Shape MseqFault
preoperate_shape code =
    if (code == 0) then Ok (shape 1 0 0) else
    if (code == 1) then Ok (shape 2 0 0) else
    if (code == 2) then Ok (shape 8 0 0) else
    if (code == 3) then Ok (shape 32 0 0) else Err UnsupportedCode

-- the octets of on-request data in OPERATE, by the code and whether there is process data
-- LAY-4
abbrev pub operate_od : ℕ → Bool → Option ℕ
operate_od code process =
    if (code == 0 || code == 4) then Some 1 else
    if (code == 5) then Some 2 else
    if (code == 6) then Some 8 else
    if (code == 7) then Some 32 else
    if (code == 1) then (if process then None else Some 2) else None

-- OPERATE: the code is looked at first, then the lengths
-- LAY-4
abbrev pub operate_shape : ℕ → ℕ → ℕ → Result Shape MseqFault
operate_shape code pd_in pd_out =
    operate_with (operate_od code (nat_lt 0 (pd_in + pd_out))) pd_in pd_out
  where
    operate_with : Option ℕ → ℕ → ℕ → Result Shape MseqFault
    operate_with None i o = Err UnsupportedCode
    operate_with (Some od) i o =
        if (nat_le i 32 && nat_le o 32) then Ok (shape od i o) else Err BadLength
