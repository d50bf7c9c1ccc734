-- What a wire becomes by calls, one after another.
use Rattle.std.specs.Prelude.{◌≡◌, List, [], ◌∷◌}
use Rattle.iol_link.specs.WireFacts.{WireFacts}
use Rattle.iol_app.specs.declared.transmission.Transmission.{Transmission}
use Rattle.iol_app.specs.Asking.{IsCall}

module _ {W : Type 0} (facts : WireFacts W) where
  -- these, in order
  abbrev pub AreCalls : List Transmission → W → W → Type 0
  AreCalls [] old new = new ≡ old
  AreCalls (asked ∷ more) old new = (mid : W) × IsCall facts asked old mid × AreCalls more mid new

  -- The wire is what the first one became by wakes and exchanges, and by nothing else: so what
  -- holds
  -- of a wire and itself, and is kept by each of these, holds of these two
  abbrev pub ComesFrom : W → W → Type 0
  ComesFrom first now = (calls : List Transmission) × AreCalls calls first now
