-- A manager whose values outlive the power.
use Rattle.std.specs.Prelude.{◌≡◌, ℕ, Bool, true, false, List, length, Some}
use Rattle.iol_slots.specs.declared.slots.Store.{Store}
use Rattle.iol_slots.specs.Memory.{Memory, AreStored}
use Rattle.iol_slots.specs.Images.{newest_content, keeping, FitsIn}
use Rattle.iol_params.specs.Table.{ParamTable}
use Rattle.iol_params.specs.Manager.{ManagerValue}
use Rattle.iol_params.specs.Image.{lasting_of, lasting_in, power_up, image_size}

pub record SavedValue (S : Type 0) : Type 0 where
  pub manager : ManagerValue
  pub slots : S

-- what a manager is that is opened with a memory
-- SAVE-2
abbrev pub opened_manager : ParamTable → Memory → ManagerValue
opened_manager table memory = record
    { table = table; state = power_up table (newest_content memory) }

-- what the slots are, and what is stored in them, is the driver's
module _ {S : Type 0} (memory : S → Memory) where
  -- the power undoes nothing: what is newest_content has these values, locks and this flag
  -- SAVE-3
  abbrev pub IsSaved : SavedValue S → Type 0
  IsSaved m = lasting_of m.manager.state
      ≡ lasting_of (power_up m.manager.table (newest_content (memory m.slots)))

  -- an image of the state is stored by a save of it, octet by octet, and nothing else is
  -- SAVE-3
  pub record Saves (gives : S → Store → S → Type 0) (old : S) (new : SavedValue S)
      : Type 0 where
    pub image : List ℕ
    pub says : lasting_in new.manager.table image ≡ Some (lasting_of new.manager.state)
    pub fits : FitsIn (memory old) image
    pub stores : AreStored gives old (keeping (memory old) image) new.slots

  abbrev pub SavesUnless : Bool → (S → Store → S → Type 0) → S → SavedValue S → Type 0
  SavesUnless true gives old new = new.slots ≡ old
  SavesUnless false gives old new = Saves gives old new

  pub record IsSavedIn (manager : ManagerValue) (slots : S) (image : List ℕ) : Type 0 where
    pub room : length image ≡ image_size manager.table
    pub fits : FitsIn (memory slots) image
    pub saved : IsSaved (record { manager = manager; slots = slots })
