-- What is written of a master message is read back as it: laws.
-- For the clauses of `laws::what_is_written_is_read`.
use Rattle.std.proofs.Common.{◌≡◌, ℕ, ◌+◌, ◌*◌, ◌<◌, List, ◌∷◌, ◌++◌, take, drop, refl, ap, arith, true, Some}
use Rattle.std.proofs.lemmas.Bool.{eq-eqb}
use Rattle.std.proofs.lemmas.Bool.Decides.{nat_tests}
use Rattle.std.proofs.lemmas.Grind.{common_steps}
use Rattle.iol_octets.specs.CheckOctets.{type_bits}
use Rattle.iol_octets.specs.Checksum.{checksum_of, ChecksumsFit}
use Rattle.iol_octets.specs.Control.{control_octet, ControlsAreReadBack}
use Rattle.iol_mseq.specs.Shape.{Shape}
use Rattle.iol_mseq.specs.Master.{HasMasterParts, SpellsMaster, has_master_length, message_of}
use Rattle.iol_mseq.specs.ReadBack.{SpelledIsRead, MasterIsReadBack}
use Rattle.iol_mseq.specs.Texts.{master_text}
use Rattle.iol_mseq.specs.declared.master.MasterMsg.{MasterMsg}

long_enough : (layout : Shape) (m : MasterMsg) → HasMasterParts layout m
    → has_master_length layout (master_text layout m) ≡ true
long_enough layout m sizes = grind (arith, nat_tests, common_steps)

module _ (controls : ControlsAreReadBack) where
  message_back : (layout : Shape) (m : MasterMsg) (octets : List ℕ)
      → SpellsMaster layout m octets → message_of layout octets ≡ m
  message_back layout m octets s =
      let out : take layout.pd_out (drop 2 octets) ≡ m.out.items = grind (arith, common_steps) in
      let od : drop layout.pd_out (drop 2 octets) ≡ m.od.items = grind (arith, common_steps) in
      rw (out, od, s.parts.1, controls m.mc) refl

  pub spelled_is_read : SpelledIsRead
  spelled_is_read layout m octets s =
      rw (s.good.length, s.good.kind, s.good.checksum) (ap Some (message_back layout m octets s))

  pub master_is_read_back : ChecksumsFit → MasterIsReadBack
  master_is_read_back sums layout m sizes =
      let rest : List ℕ = m.out.items ++ m.od.items in
      let open_octets : List ℕ = control_octet m.mc ∷ (64 * type_bits layout.kind) ∷ rest in
      let small : checksum_of open_octets < 64 = (sums open_octets).0 in
      spelled_is_read layout m (master_text layout m) (record {
        sizes = sizes;
        parts = (64 * type_bits layout.kind + checksum_of open_octets, refl);
        good = record {
          length = long_enough layout m sizes;
          kind = eq-eqb _ _ (omega (arith, small));
          checksum = (sums open_octets).1 1 (omega arith) (omega arith);
        };
      })
