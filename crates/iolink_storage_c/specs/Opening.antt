-- What C opens a port with Data Storage with.
use Rattle.std.specs.Prelude.{◌≡◌, ℕ, true, nat_eq, nat_le, if◌then◌else◌, List, [], Option, Some, None, IfSome, IsTrue, IsFalse, ◌||◌}
use Rattle.iol_book.specs.declared.limits.Limits.{Limits}
use Rattle.iol_mode.specs.declared.configuration.Devices.{Devices}
use Rattle.iol_port.specs.CorePort.{CoreOpensFor}
use Rattle.iol_port.specs.View.{IsNewFor}
use Rattle.iol_storage.specs.declared.attempt.StorageMode.{StorageMode}
use Rattle.iol_storage.specs.declared.attempt.StorageMode.TheVariants.{Off, Restore, Both, Own}
use Rattle.iol_storage.specs.declared.set.Set.{Set}
use Rattle.iol_storage.specs.Sets.{set_image}
use Rattle.iol_storage.specs.Stored.{storage_at_opening}
use Rattle.iol_storage.specs.StoredPort.{StoredParts, places_with_room}
use Rattle.iolink_port_forms.specs.Arguments.{AreInRange}
use Rattle.iolink_port_forms.specs.Journal.{KeepsNone}
use Rattle.iolink_storage_c.specs.declared.held.IolStore.{IolStore}
use Rattle.iolink_storage_c.specs.Calls.{store_parts}

-- how Data Storage is used, by its number
abbrev pub storage_mode_of : ℕ → Option StorageMode
storage_mode_of number = if nat_eq number 0 then Some Off else if nat_eq number 1 then Some Restore
    else if nat_eq number 2 then Some Both else if nat_eq number 3 then Some Own else None

-- the set that C has saved: that of these octets, none of none
abbrev pub IsBackupOf : List ℕ → Option Set → Type 0
IsBackupOf octets None = octets ≡ []
IsBackupOf octets (Some set) = set_image set ≡ octets

-- a port with that set, before its first session
pub record IsNewStore (devices : Devices) (mode : StorageMode) (limits : Limits) (octets : List ℕ)
    (p : StoredParts) : Type 0 where
  pub backup : Option Set
  pub is_backup : IsBackupOf octets backup
  pub storage : p.storage ≡ storage_at_opening mode backup
  pub output : p.output ≡ None
  pub parts : IsNewFor devices limits p.port
  pub opens : CoreOpensFor devices limits p.port

-- why there is none: no memory, a set that has no parameters' values, octets of no set, and too few
-- tickets
abbrev is_opening_refusal : ℕ → Type 0
is_opening_refusal code = IsTrue (nat_eq code 24 || nat_eq code 41 || nat_eq code 44
    || nat_eq code 48)

pub record IsStoreRefusal (limits : Limits) (code : ℕ) : Type 0 where
  pub number : is_opening_refusal code
  pub small : code ≡ 48 → IsTrue (nat_le (places_with_room limits) 2)

-- What an opening answers and leaves: 253 where the handle is open, 254 where a number is out of
-- its range, else 0 or a refusal of the port
pub record StoreOpens (devices : Option Devices) (mode : Option StorageMode) (limits : Limits)
    (octets : List ℕ) (old : IolStore) (number : ℕ) (new : IolStore) : Type 0 where
  pub once : IsTrue old.is_open → number ≡ 253
  pub unknown : IsFalse old.is_open → devices ≡ None → number ≡ 254
  pub strange : IsFalse old.is_open → mode ≡ None → number ≡ 254
  pub range : IsFalse old.is_open → ¬ AreInRange limits → number ≡ 254
  pub lacks : IsFalse old.is_open → IfSome devices (λ those. IfSome mode (λ how.
      AreInRange limits → ¬ (number ≡ 0) → IsStoreRefusal limits number))
  pub refused : ¬ (number ≡ 0) → new ≡ old
  pub opened : number ≡ 0 → new.is_open ≡ true
  pub port : number ≡ 0 → IfSome devices (λ those. IfSome mode (λ how.
      IsNewStore those how limits octets (store_parts new)))
  pub journal : number ≡ 0 → KeepsNone new.held.value.journal
  pub writes : number ≡ 0 → new.held.value.writes ≡ None
