-- What a contract sees of a link.
use Rattle.std.specs.Prelude.{refl}
use Rattle.std.specs.Coded.{Coded, code_by, coded×}

-- the wire that it owns, and what it keeps in its mode
pub record LinkValue (W S : Type 0) : Type 0 where
  pub wire : W
  pub state : S

abbrev pub link_code : {W S : Type 0} → Coded W → Coded S → Coded (LinkValue W S)
link_code {W} {S} w s =
    code_by (W × S) (coded× w s) (λ k. (k.wire, k.state)) (λ p. record { wire = p.0; state = p.1 })
    (λ _. refl)

abbrev pub link_over : {W S : Type 0} → W → S → LinkValue W S
link_over wire state = record { wire = wire; state = state }
