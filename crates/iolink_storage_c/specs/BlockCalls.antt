-- What the calls of C on blocks answer and leave, where the handle is open.
use Rattle.std.specs.Prelude.{◌≡◌, ℕ, nat_eq, if◌then◌else◌, List, [], ◌∷◌, ◌++◌, Option, Some, None, Result, Ok, Err, IfOk, OnErr, IfSome, IfNone}
use Rattle.std.specs.Option.{option_map}
use Rattle.iol_isdu.specs.declared.values.Place.{Place}
use Rattle.iol_storage.specs.declared.download.DownloadResult.{DownloadResult}
use Rattle.iol_storage.specs.declared.download.Keep.{Keep}
use Rattle.iol_storage.specs.declared.download.Keep.TheVariants.{No, Yes}
use Rattle.iol_storage.specs.declared.stored.fault.StoredFault.{StoredFault}
use Rattle.iol_storage.specs.declared.stored.storage.BlockTicket.{BlockTicket}
use Rattle.iol_storage.specs.Objects.{fits_behind}
use Rattle.iol_storage.specs.Stored.{block_answer, storage_with_block, block_collected, storage_behind_block}
use Rattle.iol_storage.specs.StoredFaults.{stored_fault_number}
use Rattle.iol_storage.specs.StoredPort.{StoredParts}
use Rattle.iolink_storage_c.specs.declared.held.HeldStore.{HeldStore}
use Rattle.iolink_storage_c.specs.declared.shown.IolBlockEnd.{IolBlockEnd}
use Rattle.iolink_storage_c.specs.Calls.{stored_number}
use Rattle.iolink_storage_c.specs.Shown.{block_shown}

-- whether Data Storage keeps what a block writes, by its number
abbrev pub keep_of : ℕ → Option Keep
keep_of number =
    if nat_eq number 0 then Some No else if nat_eq number 1 then Some Yes else None

-- a place, by its numbers
abbrev pub write_place : ℕ → ℕ → Place
write_place index sub = record { index = index; sub = sub }

-- the writes of the block that was begun
abbrev pub writes_begun : HeldStore → Option (List (Place × List ℕ))
writes_begun store = option_map (λ writes. writes.value) store.writes

-- a block is begun, without a write, or there is no memory for one
pub record BlockBegins (old : HeldStore) (code : ℕ) (new : HeldStore) : Type 0 where
  pub begun : code ≡ 0 → writes_begun new ≡ Some []
  pub lacks : ¬ (code ≡ 0) → (code ≡ 24) × (new ≡ old)
  pub rest : new ≡ record old { writes = new.writes }

-- one more write, behind the others, where there is room for it
abbrev pub IsGathered : Option (List (Place × List ℕ)) → Place → List ℕ → ℕ
    → Option (List (Place × List ℕ)) → Type 0
IsGathered None place octets code after = (code ≡ 255) × (after ≡ None)
IsGathered (Some writes) place octets code after =
    (code ≡ (if fits_behind writes octets then 0 else 43))
    × (after ≡ Some (if fits_behind writes octets then writes ++ (place, octets) ∷ []
    else writes))

pub record BlockGathers (place : Place) (octets : List ℕ) (old : HeldStore) (code : ℕ)
    (new : HeldStore) : Type 0 where
  pub gathers : IsGathered (writes_begun old) place octets code (writes_begun new)
  pub rest : new ≡ record old { writes = new.writes }

-- an answer with the number of its refusal
abbrev pub answer_numbered : Result BlockTicket StoredFault → Result BlockTicket ℕ
answer_numbered (Ok block) = Ok block
answer_numbered (Err why) = Err (stored_fault_number why)

-- these writes are submitted, and then there are none; refused, they stay
abbrev pub WritesAreSubmitted : List (Place × List ℕ) → Keep → HeldStore
    → Result BlockTicket StoredFault → HeldStore → Type 0
WritesAreSubmitted writes keep old (Ok block) new = new ≡ record old {
  port = record old.port { storage = storage_with_block old.port.storage writes keep };
  writes = None;
}
WritesAreSubmitted writes keep old (Err why) new =
    (new ≡ record old { writes = new.writes }) × (writes_begun new ≡ Some writes)

pub record BlockIsSubmitted (keep : Keep) (old : HeldStore) (answer : Result BlockTicket ℕ)
    (new : HeldStore) : Type 0 where
  pub none : IfNone (writes_begun old) ((answer ≡ Err 255) × (new ≡ old))
  pub answers : IfSome (writes_begun old) (λ writes.
      answer ≡ answer_numbered (block_answer old.port.storage writes))
  pub submits : IfSome (writes_begun old) (λ writes.
      WritesAreSubmitted writes keep old (block_answer old.port.storage writes) new)

abbrev pub code_in : Result BlockTicket ℕ → ℕ
code_in (Ok block) = 0
code_in (Err code) = code

abbrev pub block_out : Result BlockTicket ℕ → ℕ
block_out (Ok block) = block.0
block_out (Err code) = 0

pub record BlockSubmits (keep : Keep) (old : HeldStore) (number ticket : ℕ) (new : HeldStore) :
    Type 0 where
  pub answer : Result BlockTicket ℕ
  pub number_is : number ≡ code_in answer
  pub ticket_is : ticket ≡ block_out answer
  pub submitted : BlockIsSubmitted keep old answer new

-- how a block ended is handed out, or refused and nothing is written for C
pub record BlockCollects (ticket : ℕ) (old : StoredParts) (number : ℕ)
    (before after : IolBlockEnd) (new : StoredParts) : Type 0 where
  pub answer : Result DownloadResult StoredFault
  pub answer_is : answer ≡ block_collected old.storage (record { 0 = ticket })
  pub number_is : number ≡ stored_number answer
  pub rest : new
      ≡ record old { storage = storage_behind_block old.storage (record { 0 = ticket }) }
  pub shown : IfOk answer (λ end. after ≡ block_shown end)
  pub unwritten : OnErr answer (after ≡ before)
