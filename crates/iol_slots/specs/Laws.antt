-- What a reader may conclude of slots, wherever the power fails.
use Rattle.std.specs.Prelude.{◌≡◌, ℕ, ◌<◌, ◌≤◌, Bool, nat_le, if◌then◌else◌, List, [], ◌∷◌, length, take, Option, Some}
use Rattle.iol_slots.specs.Memory.{Memory, after_stores}
use Rattle.iol_slots.specs.Images.{newest_content, keeping, FitsIn}

-- a save that is cut off behind so many octets leaves what was loaded before; only with its last
-- octet it brings the new content
abbrev pub EachSaveIsWholeOrNothing : Type 0
EachSaveIsWholeOrNothing = (m : Memory) (content : List ℕ) (count : ℕ) → FitsIn m content
    → let stores = keeping m content in
    let left = after_stores m (take count stores) in
    (count < length stores → newest_content left ≡ newest_content m)
    × (length stores ≤ count → newest_content left ≡ Some content)

-- a content that is saved, and behind how many octets the power fails
pub record CutSave : Type 0 where
  pub content : List ℕ
  pub octets : ℕ

abbrev pub after_attempt : Memory → CutSave → Memory
after_attempt m a = after_stores m (take a.octets (keeping m a.content))

abbrev pub after_attempts : Memory → List CutSave → Memory
after_attempts m [] = m
after_attempts m (a ∷ others) = after_attempts (after_attempt m a) others

-- whether it was done before the power failed
abbrev pub is_done : Memory → CutSave → Bool
is_done m a = nat_le (length (keeping m a.content)) a.octets

-- the content of the last one that was done; what there was before, where none was
abbrev pub last_done : Memory → Option (List ℕ) → List CutSave → Option (List ℕ)
last_done m last [] = last
last_done m last (a ∷ others) =
    last_done (after_attempt m a) (if is_done m a then Some a.content else last) others

abbrev pub AllFit : Memory → List CutSave → Type 0
AllFit m [] = Unit {0}
AllFit m (a ∷ others) = FitsIn m a.content × AllFit m others

abbrev pub SavesOutlivePowerCuts : Type 0
SavesOutlivePowerCuts = (m : Memory) (attempts : List CutSave) → AllFit m attempts
    → newest_content (after_attempts m attempts) ≡ last_done m (newest_content m) attempts
