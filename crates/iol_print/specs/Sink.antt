-- How text is added to a sink.
use Rattle.std.specs.Prelude.{◌≡◌, ℕ, ◌+◌, ◌<◌, Result, OnOk, IsOk, List, ◌++◌, length}

-- where it's `Ok`, this text was added
abbrev pub Puts : {T E : Type 0} → Result T E → List ℕ → List ℕ → List ℕ → Type 0
Puts result old new text = OnOk result (new ≡ old ++ text)

-- a text stands behind what was printed before, and this holds of it
abbrev pub Adds : List ℕ → List ℕ → (List ℕ → Type 0) → Type 0
Adds before after holds = (text : List ℕ) × (after ≡ before ++ text) × holds text

-- where it's `Ok`, some text was added, and this holds of it
abbrev pub PutsSome : {T E : Type 0} → Result T E → List ℕ → List ℕ → (List ℕ → Type 0) → Type 0
PutsSome result old new holds = OnOk result (Adds old new holds)

-- it's `Ok` where so many more bytes surely fit
abbrev pub PutsWithin : {T E : Type 0} → Result T E → ℕ → List ℕ → ℕ → Type 0
PutsWithin result limit old more = length old + more < limit → IsOk result
