-- A wire with a tap round it, and what the tap notes.
use Rattle.std.specs.Prelude.{◌≡◌, ℕ, List, take, Option, Some}
use Rattle.arrayvec.specs.ArrayVec.{ArrayVec}
use Rattle.iol_link.specs.declared.wire.Rate.{Rate}
use Rattle.iol_link.specs.WireFacts.{WireFacts}
use Rattle.iol_sim.specs.declared.tap.TapNote.{TapNote}
use Rattle.iol_sim.specs.declared.tap.TapNote.TheVariants.{Wake, Exchange}

-- the wire within, and the last call that passed
pub record TappedWire (W : Type 0) : Type 0 where
  pub wire : W
  pub last : Option TapNote

-- what holds of the wire within holds of the tap
abbrev pub through : {W X : Type 0} → (W → X) → TappedWire W → X
through of tap = of tap.wire

-- the note of a wake: what was answered
abbrev pub wake_noted : Option Rate → TapNote
wake_noted answer = Wake answer

-- the note of an exchange: the octets sent, the first 66 where there are more, and the answer
abbrev pub exchange_noted : List ℕ → Option (ArrayVec ℕ) → TapNote
exchange_noted sent answer = Exchange (record { items = take 66 sent }) answer

module _ {W : Type 0} (facts : WireFacts W) where
  open facts use {wake_gives, exchange_gives}

  -- a wake of the tap: one of the wire within, and its note
  abbrev pub TapWakes : TappedWire W → Option Rate → TappedWire W → Type 0
  TapWakes old answer new = wake_gives old.wire answer new.wire
      × (new.last ≡ Some (wake_noted answer))

  -- an exchange of the tap: one of the wire within, and its note
  abbrev pub TapGives : TappedWire W → List ℕ → Option (ArrayVec ℕ) → TappedWire W → Type 0
  TapGives old sent answer new = exchange_gives old.wire sent answer new.wire
      × (new.last ≡ Some (exchange_noted sent answer))

  -- what the tap is to a contract: it claims what the wire within claims, and is told nothing
  abbrev pub tap_facts : WireFacts (TappedWire W)
  tap_facts = record {
    honest = through facts.honest;
    far = through facts.far;
    silence = through facts.silence;
    clean = through facts.clean;
    wake_gives = TapWakes;
    exchange_gives = TapGives;
  }

  -- a note is of one call of a wire, which led from the one state of it to the other
  abbrev pub IsNoteOf : TapNote → W → W → Type 0
  IsNoteOf (Wake answer) old new = wake_gives old answer new
  IsNoteOf (Exchange first answer) old new = (sent : List ℕ) × (first.items ≡ take 66 sent)
      × exchange_gives old sent answer new
