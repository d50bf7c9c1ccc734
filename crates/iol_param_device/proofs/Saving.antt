-- What outlives the power, by what a manager does.
-- For the clauses of `ParamDevice::work`, `SavedManager::power_cycle`, `SavedManager::set` and 2
--     more.
use Rattle.std.proofs.Common.{◌≡◌, ◌∙◌, ℕ, List, Bool, true, false, Option, Some, None, refl, sym, ap, subst, []}
use Rattle.std.specs.Prelude.{if◌then◌else◌}
use Rattle.iol_isdu.specs.declared.values.Place.{Place}
use Rattle.iol_slots.specs.declared.slots.Store.{Store}
use Rattle.iol_slots.specs.Memory.{Memory, AreStored}
use Rattle.iol_slots.specs.Laws.{EachSaveIsWholeOrNothing}
use Rattle.iol_slots.specs.Images.{keeping, newest_content}
use Rattle.iol_params.specs.declared.error_type.ErrorType.{ErrorType}
use Rattle.iol_params.specs.declared.error_type.ErrorType.TheVariants.{FunctionUnavailable}
use Rattle.iol_params.specs.declared.state.Scope.TheVariants.{Block}
use Rattle.iol_params.specs.declared.state.Command.TheVariants.{FactoryReset}
use Rattle.iol_params.specs.declared.state.Activity.{Activity}
use Rattle.iol_params.specs.declared.state.Activity.TheVariants.{Idle, Upload, Download, CutOff}
use Rattle.iol_params.specs.declared.state.Restart.TheVariants.{NotDue}
use Rattle.iol_params.specs.Table.{ParamTable}
use Rattle.iol_params.specs.State.{ParamState, is_at_rest, is_foreign}
use Rattle.iol_params.specs.Carry.{local_change, local_refusal, local_settled, local_reset, own_command, unless_foreign, with_activity}
use Rattle.iol_params.specs.Manager.{ManagerValue}
use Rattle.iol_params.specs.Image.{LastingState, lasting_of, lasting_in, with_lasting, power_up}
use Rattle.iol_param_device.specs.Saved.{SavedValue, SavesUnless, IsSaved, IsSavedIn, opened_manager}
use Rattle.iol_param_device.specs.Device.{Both, event_reported}
use Rattle.iol_param_device.specs.Laws.{CutChangesAreWhole}

-- a change that is refused changes nothing
pub local_refused : (table : ParamTable) (s : ParamState) (place : Place) (octets : List ℕ)
    (why : ErrorType) → Some why ≡ (local_change table s place octets).0
    → (local_change table s place octets).1 ≡ s
local_refused table s place octets why e = by (local_refusal table s place octets) (sym e)
  where
    by : (r : Option ErrorType) → (local_settled r table s place octets).0 ≡ Some why
        → (local_settled r table s place octets).1 ≡ s
    by (Some other) k = refl
    by None k = absurd (cc)

pub reset_refused : (table : ParamTable) (s : ParamState) (why : ErrorType)
    → (local_reset table s).0 ≡ Some why → (local_reset table s).1 ≡ s
reset_refused table s why e = by s.activity e
  where
    reset : Activity → Option ErrorType × ParamState
    reset a = if is_at_rest a then with_activity s.activity
        (unless_foreign (is_foreign Block a) s (own_command table s Block FactoryReset))
        else (Some FunctionUnavailable, s)

    by : (a : Activity) → (reset a).0 ≡ Some why → (reset a).1 ≡ s
    by Idle k = absurd (cc)
    by CutOff k = absurd (cc)
    by (Upload scope) k = refl
    by (Download scope writes) k = refl

-- a state that is what was kept
abbrev fresh : LastingState → ParamState
fresh lasting = record {
  values = lasting.values;
  copy = [];
  activity = Idle;
  locks = lasting.locks;
  flag = lasting.flag;
  event_due = lasting.flag;
  restart = NotDue;
}

power-up-fresh : (table : ParamTable) (l : Option (List ℕ))
    → power_up table l ≡ fresh (lasting_of (power_up table l))
power-up-fresh table None = refl
power-up-fresh table (Some octets) = by (lasting_in table octets)
  where
    by : (k : Option LastingState) → with_lasting (power_up table None) k
        ≡ fresh (lasting_of (with_lasting (power_up table None) k))
    by None = refl
    by (Some lasting) = refl

-- the power fails and comes back: what is newest_content is what was kept
pub power_same : (table : ParamTable) (s : ParamState) (l : Option (List ℕ))
    → lasting_of s ≡ lasting_of (power_up table l)
    → with_lasting s (Some (lasting_of s)) ≡ power_up table l
power_same table s l e = ap fresh e ∙ sym (power-up-fresh table l)

-- wherever the power fails, a change is whole or it isn't there
pub cut-whole : EachSaveIsWholeOrNothing → CutChangesAreWhole
cut-whole law table memory old new image count fits says saved =
    let restarted : Option (List ℕ) → LastingState = λ l. lasting_of (power_up table l) in
    let first : Option LastingState → LastingState =
    λ k. lasting_of (with_lasting (power_up table None) k) in (
      λ part. ap restarted ((law memory image count fits).0 part) ∙ sym saved,
      λ all. ap restarted ((law memory image count fits).1 all) ∙ ap first says,
    )

-- a manager that is as it was is saved as it was
pub same-saved : {S : Type 0} (memory : S → Memory) (old new : ManagerValue) (slots : S)
    (image : List ℕ) → IsSavedIn memory old slots image → new ≡ old
    → IsSavedIn memory new slots image
same-saved memory old new slots image saved same =
    subst (λ m. IsSavedIn memory m slots image) (sym same) saved

-- what a power cycle makes of a saved manager, by what it is seen as
pub cycled : {S : Type 0} (memory : S → Memory) (old new : ManagerValue) (slots : S)
    (shown : SavedValue S) → record { manager = old; slots = slots } ≡ shown
    → IsSaved memory (record { manager = old; slots = slots })
    → new ≡ record old { state = with_lasting old.state (Some (lasting_of old.state)) }
    → record { manager = new; slots = slots }
    ≡ record shown { manager = opened_manager shown.manager.table (memory shown.slots) }
cycled {S} memory old new slots shown view saved restarted =
    let made : ManagerValue → SavedValue S = λ m. record { manager = m; slots = slots } in
    let state : with_lasting old.state (Some (lasting_of old.state))
    ≡ power_up old.table (newest_content (memory slots)) =
    power_same old.table old.state (newest_content (memory slots)) saved in
    let opened : SavedValue S → SavedValue S =
    λ v. record v { manager = opened_manager v.manager.table (memory v.slots) } in
    ap made (restarted ∙ ap (λ s. record old { state = s }) state) ∙ ap opened view

-- an event that was told changes nothing that outlives the power
pub reported_lasting : (reported : Bool) (b : Both)
    → lasting_of (event_reported reported b).state ≡ lasting_of b.state
reported_lasting true b = refl
reported_lasting false b = refl

module _ {S : Type 0} (memory : S → Memory) (gives : S → Store → S → Type 0) where
  -- saved is what outlives the power, whatever else a manager has
  pub saves_lasting : (unless : Bool) (old : S) (mid new : SavedValue S)
      → SavesUnless memory unless gives old mid
      → new.slots ≡ mid.slots → new.manager.table ≡ mid.manager.table
      → lasting_of new.manager.state ≡ lasting_of mid.manager.state
      → SavesUnless memory unless gives old new
  saves_lasting true old mid new done slots table lasting = slots ∙ done
  saves_lasting false old mid new done slots table lasting = record {
    image = done.image;
    says = ap (λ t. lasting_in t done.image) table ∙ (done.says ∙ ap Some (sym lasting));
    fits = done.fits;
    stores = subst (λ s. AreStored gives old (keeping (memory old) done.image) s) (sym slots)
        done.stores;
  }
