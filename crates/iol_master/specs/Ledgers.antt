-- The blanks that name a master's ledgers.
use Rattle.std.specs.Prelude.{◌≡◌, ℕ}
use Rattle.std.specs.declared.sync.ledger.Blank.{Blank}

-- a blank for the ledger of this name, which has so many parts, as many as are wanted
abbrev pub IsBlankFor : Blank → ℕ → ℕ → ℕ → Type 0
IsBlankFor blank name parts wanted =
    (blank.name ≡ name) × (blank.parts ≡ parts) × (blank.parts ≡ wanted)
