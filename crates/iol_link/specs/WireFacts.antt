-- What a wire is to a contract.
use Rattle.std.specs.Prelude.{ℕ, Bool, false, List, [], Option, None, is_some, IsTrue, ⊤}
use Rattle.arrayvec.specs.ArrayVec.{ArrayVec}
use Rattle.iol_far.specs.Octets.{octets_in}
use Rattle.iol_far.specs.Far.{Far, new_far}
use Rattle.iol_link.specs.Honest.{HonestExchange, HonestWake}
use Rattle.iol_link.specs.declared.wire.Rate.{Rate}

-- WIRE-5
pub record WireFacts (W : Type 0) : Type 1 where
  -- whether the wire is honest: it loses messages and replies, and alters none into
  -- another good one
  pub honest : W → Bool
  -- the device at the far end
  pub far : W → Far
  -- how many exchanges in a row, up to now, brought no unaltered reply, counted up to the most
  -- attempts
  pub silence : W → ℕ
  -- whether nothing goes wrong from now on
  pub clean : W → Bool
  -- what one wake gives: the wire before it, the answer, the wire after it
  pub wake_gives : W → Option Rate → W → Type 0
  -- what one exchange gives: the wire before it, the octets sent, the answer, the wire after it
  pub exchange_gives : W → List ℕ → Option (ArrayVec ℕ) → W → Type 0

-- a wire that claims nothing
abbrev pub unknown : {W : Type 0} → WireFacts W
unknown = record {
  honest = λ w. false;
  far = λ w. new_far [] None;
  silence = λ w. 0;
  clean = λ w. false;
  wake_gives = λ w answer next. ⊤;
  exchange_gives = λ w sent answer next. ⊤;
}

module _ {W : Type 0} (facts : WireFacts W) where
  open facts use {honest, far, silence}

  -- on an honest wire a wake is an honest one
  abbrev pub Wakes : W → Option Rate → W → Type 0
  Wakes old answer new = IsTrue (honest old) → HonestWake (far old) (is_some answer) (far new)

  -- and so is an exchange
  abbrev pub Passes : W → List ℕ → Option (ArrayVec ℕ) → W → Type 0
  Passes old sent answer new = IsTrue (honest old)
      → HonestExchange (far old) (silence old) sent (octets_in answer) (far new) (silence new)
