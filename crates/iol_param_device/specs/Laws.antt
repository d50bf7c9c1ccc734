-- What a reader may conclude of a saved manager, wherever the power fails.
use Rattle.std.specs.Prelude.{◌≡◌, ℕ, ◌<◌, ◌≤◌, List, length, take, Some}
use Rattle.iol_slots.specs.Memory.{Memory, after_stores}
use Rattle.iol_slots.specs.Images.{newest_content, keeping, FitsIn}
use Rattle.iol_params.specs.Table.{ParamTable}
use Rattle.iol_params.specs.State.{ParamState}
use Rattle.iol_params.specs.Image.{lasting_of, lasting_in, power_up}

-- a state that is saved, an image of the next one, and behind how many octets the power fails:
-- what a manager then has that is opened anew
abbrev pub CutChangesAreWhole : Type 0
CutChangesAreWhole = (table : ParamTable) (memory : Memory) (old new : ParamState)
    (image : List ℕ) (count : ℕ) → FitsIn memory image
    → lasting_in table image ≡ Some (lasting_of new)
    → lasting_of old ≡ lasting_of (power_up table (newest_content memory))
    → let stores = keeping memory image in
    let left = after_stores memory (take count stores) in
    let restarted = power_up table (newest_content left) in
    (count < length stores → lasting_of restarted ≡ lasting_of old)
    × (length stores ≤ count → lasting_of restarted ≡ lasting_of new)
