-- How every ISDU text is made: first octet, ExtLength in long ones, a body, CHKPDU
-- (IEC 61131-9, A.5.1, A.5.3, A.5.6).
use Rattle.std.specs.Prelude.{◌≡◌, ℕ, ◌+◌, ◌*◌, ◌/◌, ◌%◌, Bool, ◌==◌, nat_lt, nat_le, not, ◌&&◌, if◌then◌else◌, List, [], ◌∷◌, ◌++◌, length, fold, bit_xor, take, Option, Some, None, Result, Ok, Err, slice_index}
use Rattle.iol_isdu.specs.declared.fault.IsduFault.{IsduFault}
use Rattle.iol_isdu.specs.declared.fault.IsduFault.TheVariants.{Truncated, BadIsduLength, BadService, BadChkpdu}

-- the XOR of all octets
abbrev pub xor_of : List ℕ → ℕ
xor_of octets = fold bit_xor 0 octets

-- what stands before a body of this length: the service and the total length, which
-- from 17 on is in an ExtLength
-- ISDU-1
abbrev pub head : ℕ → ℕ → List ℕ
head service size = if (nat_lt size 14) then (16 * service + (size + 2)) ∷ []
    else (16 * service + 1) ∷ (size + 3) ∷ []

-- the total length of the text of a body of this length
-- ISDU-2
abbrev pub total_of : ℕ → ℕ
total_of size = if (nat_lt size 14) then size + 2 else size + 3

-- the text of a service and a body; the CHKPDU makes the XOR of all octets 0
-- ISDU-1
pub record IsFrame (service : ℕ) (body text : List ℕ) : Type 0 where
  pub chkpdu : ℕ
  pub parts : text ≡ head service (length body) ++ body ++ chkpdu ∷ []
  pub even : xor_of text ≡ 0

-- the total length that the octets begin with: 2 to 15 in the first octet, 17 to
-- 238 in the ExtLength
-- ISDU-2
abbrev pub total_at : List ℕ → Result ℕ IsduFault
total_at [] = Err Truncated
total_at (first ∷ rest) =
    if (first % 16 == 0) then Err BadIsduLength else
    if (first % 16 == 1) then extended_length rest else Ok (first % 16)
  where
    extended_length : List ℕ → Result ℕ IsduFault
    extended_length [] = Err Truncated
    extended_length (total ∷ _) =
        if (nat_le 17 total && nat_le total 238) then Ok total else Err BadIsduLength

-- why the octets don't begin with as many as their total length
abbrev pub frame_fault : List ℕ → Option IsduFault
frame_fault octets = fault_by (total_at octets) (length octets)
  where
    fault_by : Result ℕ IsduFault → ℕ → Option IsduFault
    fault_by (Err fault) n = Some fault
    fault_by (Ok total) n = if (nat_lt n total) then Some Truncated else None

-- the front of the octets, of a total length
abbrev pub front_by : Result ℕ IsduFault → List ℕ → List ℕ
front_by (Err fault) octets = []
front_by (Ok total) octets = take total octets

-- the front of the octets that is as long as it says
-- ISDU-10
abbrev pub text_at : List ℕ → List ℕ
text_at octets = front_by (total_at octets) octets

-- the octets begin with a text of this service and body, but that the XOR may be wrong
pub record Frames (octets : List ℕ) (service : ℕ) (body text : List ℕ) : Type 0 where
  pub high : service ≡ slice_index octets 0 / 16
  pub front : text ≡ text_at octets
  pub total : length text ≡ total_of (length body)
  pub chkpdu : ℕ
  pub parts : text ≡ head service (length body) ++ body ++ chkpdu ∷ []

-- the first refusal, where there is one, else the second
abbrev pub first_of : Option IsduFault → Option IsduFault → Option IsduFault
first_of None other = other
first_of (Some fault) other = Some fault

-- the first refusal: no whole text, no service of this direction with this total
-- length, a wrong XOR
-- ISDU-9
abbrev pub isdu_fault : (ℕ → ℕ → Bool) → List ℕ → Option IsduFault
isdu_fault accepts octets =
    first_of (frame_fault octets) (
    if not (accepts (slice_index octets 0 / 16) (length (text_at octets))) then Some BadService else
    if not (xor_of (text_at octets) == 0) then Some BadChkpdu else None)
