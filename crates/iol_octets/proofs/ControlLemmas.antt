-- A control octet is pinned by its octet: begin at `same_from_octet`, which the clauses `only` and
-- `read` of `from_octet` need.
-- For the clauses of `Mc::from_octet` and `laws::control_octets_are_read_back`.
use Rattle.std.proofs.Common.{◌≡◌, ℕ, ◌<◌, ◌≤◌, arith}
use Rattle.std.proofs.lemmas.Bool.Decides.{nat_tests}
use Rattle.std.proofs.lemmas.Grind.{common_steps}
use Rattle.std.proofs.Math.Bridge.{le_prop}
use mathlib.Core.HLevel.{is_prop→PathP}
use Rattle.iol_octets.specs.Control.{control_octet, control_of, ControlsAreReadBack}
use Rattle.iol_octets.specs.declared.control.Mc.{Mc}

-- two control octets with the same parts are one: the range has one proof
same_mc : (a b : Mc) → a.read ≡ b.read → a.channel ≡ b.channel → a.address ≡ b.address → a ≡ b
same_mc a b r c x =
    λ i. record {
      read = r i;
      channel = c i;
      address = x i;
      in_range = is_prop→PathP (λ j. x j ≤ 31) (λ j. le_prop) a.in_range b.in_range i;
    }

parts : (a b : Mc) → control_octet a ≡ control_octet b
    → (a.read ≡ b.read) × (a.channel ≡ b.channel) × (a.address ≡ b.address)
parts a b e = grind (arith, nat_tests, common_steps)

pub same_from_octet : (a b : Mc) → control_octet a ≡ control_octet b → a ≡ b
same_from_octet a b e = let same = parts a b e in same_mc a b same.0 same.1 same.2

pub control_octet-of : (octet : ℕ) → octet < 256 → control_octet (control_of octet) ≡ octet
unfolding control_of
control_octet-of octet h = grind (arith, nat_tests, common_steps)

small : (mc : Mc) → control_octet mc < 256
small mc = grind (arith, common_steps)

pub controls_are_read_back : ControlsAreReadBack
controls_are_read_back mc =
    same_from_octet (control_of (control_octet mc)) mc
    (control_octet-of (control_octet mc) (small mc))
