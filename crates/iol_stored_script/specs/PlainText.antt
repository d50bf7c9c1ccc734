-- A script of a port with Data Storage, as a script of a plain port is read.
use Rattle.std.specs.Prelude.{ℕ, Bool, true, false, if◌then◌else◌, Option, Some, None, List, [], ◌∷◌, codes}
use Rattle.iol_script.specs.RunLines.{run_form}
use Rattle.iol_script.specs.declared.run_line.RunLine.{RunLine}
use Rattle.iol_script.specs.declared.run_line.RunLine.TheVariants as line
use Rattle.iol_storage.specs.declared.attempt.StorageMode.{StorageMode}
use Rattle.iol_stored_script.specs.declared.as_plain.StoreLine.{StoreLine}
use Rattle.iol_stored_script.specs.declared.as_plain.StoreLine.TheVariants.{Awaited, Present}
use Rattle.iol_stored_script.specs.declared.storage_line.StorageLine.{StorageLine}
use Rattle.iol_stored_script.specs.declared.storage_line.StorageLine.TheVariants.{Store, Call}
use Rattle.iol_stored_script.specs.StorageLines.{storage_form}

-- whether a line sets something up, or says nothing
abbrev pub sets_up : Option RunLine → Bool
sets_up (Some line.Skip) = true
sets_up (Some (line.Setting setting)) = true
sets_up other = false

-- the mode that the first of these lines says, or one behind it
abbrev pub mode_from : Option StorageLine → Bool → Option StorageMode → Option StorageMode
mode_from (Some (Store mode)) sets later = Some mode
mode_from other sets later = if sets then later else None

-- the mode of Data Storage that lines ask for: a line `store` stands behind settings alone
abbrev pub storage_mode_in : List (ℕ × List ℕ) → Option StorageMode
storage_mode_in [] = None
storage_mode_in (line ∷ lines) =
    mode_from (storage_form line.1) (sets_up (run_form line.1)) (storage_mode_in lines)

-- whether the setting was given behind a line
abbrev pub store_behind : StoreLine → Option StorageLine → StoreLine
store_behind store (Some (Store mode)) = Present
store_behind store other = store

-- what stands where this line does: a call of Data Storage is another call there, and the line
-- `store` a blank one
abbrev pub plain_line : StoreLine → Option StorageLine → List ℕ → List ℕ
plain_line Awaited (Some (Store mode)) line = []
plain_line store (Some (Call call)) line = codes "status"
plain_line store other line = line

-- the lines that are read as those of a plain port
abbrev pub plain_lines : StoreLine → List (ℕ × List ℕ) → List (ℕ × List ℕ)
plain_lines store [] = []
plain_lines store (line ∷ lines) = (line.0, plain_line store (storage_form line.1) line.1)
    ∷ plain_lines (store_behind store (storage_form line.1)) lines
