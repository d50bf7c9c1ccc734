-- The calls of a port with Data Storage, as C sees them: by a handle, and with numbers in place of
-- answers.
use Rattle.std.specs.Prelude.{◌≡◌, ℕ, IsFalse, Result, Ok, Err}
use Rattle.iol_storage.specs.declared.stored.fault.StoredFault.{StoredFault}
use Rattle.iol_storage.specs.StoredFaults.{stored_fault_number}
use Rattle.iol_storage.specs.StoredPort.{StoredParts}
use Rattle.iolink_storage_c.specs.declared.held.IolStore.{IolStore}

-- the parts of the port that a handle holds
abbrev pub store_parts : IolStore → StoredParts
store_parts handle = handle.held.value.port

-- a call of a closed handle: refused, with nothing changed
abbrev pub StoreIsRefused : ℕ → IolStore → IolStore → Type 0
StoreIsRefused result old new = (result ≡ 252) × (new ≡ old)

-- a closed handle is refused, and an open one stays open, with all but the parts of its port
pub record GuardsStore (result : ℕ) (old new : IolStore) : Type 0 where
  pub closed : IsFalse old.is_open → StoreIsRefused result old new
  pub stays : new.is_open ≡ old.is_open
  pub rest : new.held.value ≡ record old.held.value { port = store_parts new }

-- and what is written elsewhere stays where it is closed
pub record GuardsStoreOut {X : Type 0} (result : ℕ) (old new : IolStore) (out after : X) : Type 0
  where
    pub guards : GuardsStore result old new
    pub unwritten : IsFalse old.is_open → after ≡ out

-- a closed handle is refused, with nothing written elsewhere, and an open one stays open
pub record OutsideStore {X : Type 0} (result : ℕ) (old new : IolStore) (out after : X) : Type 0
  where
    pub closed : IsFalse old.is_open → StoreIsRefused result old new
    pub stays : new.is_open ≡ old.is_open
    pub unwritten : IsFalse old.is_open → after ≡ out

-- a call that only looks
pub record LooksAtStore {X : Type 0} (result : ℕ) (old new : IolStore) (out after : X) : Type 0
  where
    pub outside : OutsideStore result old new out after
    pub same : new.held.value ≡ old.held.value

-- a call that doesn't fit what waits for its answer: refused, with nothing changed
abbrev pub StoreNotAsked : ℕ → StoredParts → StoredParts → Type 0
StoreNotAsked result old new = (result ≡ 255) × (new ≡ old)

-- the number of an answer: that of its refusal, or 0
abbrev pub stored_number : {X : Type 0} → Result X StoredFault → ℕ
stored_number (Ok value) = 0
stored_number (Err why) = stored_fault_number why
