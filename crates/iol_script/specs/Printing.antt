-- How the crates above say what a call prints.
use Rattle.std.specs.Prelude.{◌≡◌, ℕ, Result, OnOk, List, ◌++◌, String, string_bytes}

-- where it's `Ok`, this text was added
abbrev pub Prints : {T E A : Type 0} → Result T E → String A → String A → List ℕ → Type 0
Prints result old new text = OnOk result (string_bytes new ≡ string_bytes old ++ text)
