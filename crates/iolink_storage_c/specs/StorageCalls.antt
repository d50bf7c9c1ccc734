-- What the calls of C on Data Storage answer and leave, where the handle is open.
use Rattle.std.specs.Prelude.{◌≡◌, ℕ, List, Option, Some, None, IfSome, IfNone, IsSome, IsNone, unwrap_or}
use Rattle.std.specs.Option.{option_map}
use Rattle.iol_storage.specs.declared.set.Set.{Set}
use Rattle.iol_storage.specs.declared.stored.fault.StoredFault.{StoredFault}
use Rattle.iol_storage.specs.declared.stored.storage.Storage.{Storage}
use Rattle.iol_storage.specs.Sets.{set_image}
use Rattle.iol_storage.specs.Stored.{set_unsaved, number_unsaved, load_refusal, storage_loaded}
use Rattle.iol_storage.specs.StoredFaults.{stored_fault_number}
use Rattle.iol_storage.specs.StoredPort.{StoredParts}
use Rattle.iolink_storage_c.specs.declared.shown.IolSet.{IolSet}
use Rattle.iolink_storage_c.specs.Shown.{SetIsShown}

-- the set that waits to be saved, with its number; 0 where none does
abbrev pub UnsavedIsShown : Storage → ℕ → IolSet → Type 0
UnsavedIsShown s number out =
    (number ≡ unwrap_or (option_map (λ n. n.0) (number_unsaved s)) 0)
    × SetIsShown (set_unsaved s) out

-- the number of a refusal, 0 where there is none
abbrev pub refusal_number : Option StoredFault → ℕ
refusal_number None = 0
refusal_number (Some why) = stored_fault_number why

-- a call of Data Storage leaves this where it isn't refused, and else all as it was
pub record StorageSettles (refusal : Option StoredFault) (made : Storage) (old : StoredParts)
    (number : ℕ) (new : StoredParts) : Type 0 where
  pub number_is : number ≡ refusal_number refusal
  pub done : IsNone refusal → new ≡ record old { storage = made }
  pub unchanged : IsSome refusal → new ≡ old

-- the set of these octets is kept; 44 where there is none
pub record StoreLoads (octets : List ℕ) (old : StoredParts) (number : ℕ) (new : StoredParts) :
    Type 0 where
  pub set : Option Set
  pub read : IfSome set (λ s. set_image s ≡ octets)
  pub none : IfNone set ((number ≡ 44) × (new ≡ old))
  pub loads : IfSome set (λ s. StorageSettles (load_refusal old.storage (Some s))
      (storage_loaded old.storage (Some s)) old number new)
