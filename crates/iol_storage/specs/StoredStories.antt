-- What happens to the storage of a port, what its jobs ask and hear meanwhile, and what a block
-- comes to.
use Rattle.std.specs.Prelude.{◌≡◌, ◌<◌, ◌⊎◌, ℕ, Bool, true, false, ◌&&◌, IsTrue, is_some, is_ok, nat_lt, if◌then◌else◌, List, [], ◌∷◌, ◌++◌, length, take, Option, Some}
use Rattle.iol_isdu.specs.declared.values.Place.{Place}
use Rattle.iol_isdu.specs.declared.values.Request.{Request}
use Rattle.iol_event.specs.declared.event.Event.{Event}
use Rattle.iol_book.specs.declared.entries.Outcome.{Outcome}
use Rattle.iol_book.specs.declared.entries.Ticket.{Ticket}
use Rattle.iol_storage.specs.declared.download.Keep.{Keep}
use Rattle.iol_storage.specs.declared.download.DownloadPurpose.{DownloadPurpose}
use Rattle.iol_storage.specs.declared.download.DownloadPurpose.TheVariants.{Block as BlockPurpose}
use Rattle.iol_storage.specs.declared.download.DownloadResult.{DownloadResult}
use Rattle.iol_storage.specs.declared.download.DownloadResult.TheVariants.{Applied, NotApplied}
use Rattle.iol_storage.specs.declared.set.Set.{Set}
use Rattle.iol_storage.specs.declared.stored.storage.BlockTicket.{BlockTicket}
use Rattle.iol_storage.specs.declared.stored.storage.Storage.{Storage}
use Rattle.iol_storage.specs.Downloads.{download_requests}
use Rattle.iol_storage.specs.Laws.{asked_with, AreTaken, IsDownloadCut}
use Rattle.iol_storage.specs.Stored.{storage_asks, storage_heard, is_breaking, is_cut_off, storage_watched, storage_saved, storage_noticed, storage_loaded, storage_released, storage_with_block, storage_behind_block, block_answer, load_refusal, is_block}
use Rattle.iol_storage.specs.StoredPort.{to_submit}

-- what may happen to it: each call of a stored port is some of these
pub data StorageEvent : Type 0 where
  -- the outcome of the job's request was collected
  Heard : Outcome → StorageEvent
  -- a turn begins, in this session or in none
  Watched : Option (List ℕ) → StorageEvent
  -- what the job asks was submitted under this ticket
  Asked : Ticket → StorageEvent
  Saved : StorageEvent
  Noticed : Event → StorageEvent
  Loaded : Option Set → StorageEvent
  Released : StorageEvent
  Submitted : List (Place × List ℕ) → Keep → StorageEvent
  Collected : BlockTicket → StorageEvent

abbrev pub storage_after : Storage → StorageEvent → Storage
storage_after s (Heard outcome) = if is_some s.asked then storage_heard s outcome else s
storage_after s (Watched session) = storage_watched s session
storage_after s (Asked ticket) =
    if is_some (to_submit s) then record s { asked = Some ticket } else s
storage_after s Saved = storage_saved s
storage_after s (Noticed event) = storage_noticed s event
storage_after s (Loaded backup) =
    if is_some (load_refusal s backup) then s else storage_loaded s backup
storage_after s Released = storage_released s
storage_after s (Submitted writes keep) =
    if is_ok (block_answer s writes) then storage_with_block s writes keep else s
storage_after s (Collected block) = storage_behind_block s block

abbrev pub storage_behind : Storage → List StorageEvent → Storage
storage_behind s [] = s
storage_behind s (event ∷ events) = storage_behind (storage_after s event) events

-- What a job asks stays until it hears what came of that

abbrev pub is_outcome_event : StorageEvent → Bool
is_outcome_event (Heard outcome) = true
is_outcome_event other = false

abbrev pub AskedRequestsStay : Type 0
AskedRequestsStay = (s : Storage) (event : StorageEvent) (ticket : Ticket) (request : Request)
    → s.asked ≡ Some ticket → storage_asks s ≡ Some request → is_outcome_event event ≡ false
    → ((storage_after s event).asked ≡ Some ticket)
    × (storage_asks (storage_after s event) ≡ Some request)

-- What a block comes to

-- a break that was cut off goes out again, and the job doesn't hear of it
abbrev pub is_repeated : Storage → Outcome → Bool
is_repeated s outcome = nat_lt s.breaks 20 && is_breaking s.job && is_cut_off outcome

-- what was asked, with what the job heard of it
abbrev pub story_of : Storage → StorageEvent → List (Request × Outcome)
story_of s (Heard outcome) = if is_some s.asked
    then (if is_repeated s outcome then [] else asked_with (storage_asks s) outcome) else []
story_of s other = []

abbrev pub story_behind : Storage → List StorageEvent → List (Request × Outcome)
story_behind s [] = []
story_behind s (event ∷ events) = story_of s event ++ story_behind (storage_after s event) events

-- a block stays the job through all of these
abbrev pub BlockGoesOn : Storage → List StorageEvent → Type 0
BlockGoesOn s [] = Unit {0}
BlockGoesOn s (event ∷ events) = IsTrue (is_block (storage_after s event).job)
    × BlockGoesOn (storage_after s event) events

-- so many of its requests were taken, in order, and nothing else was asked. Its end isn't one of
-- them
pub record IsLeft (purpose : DownloadPurpose) (writes : List (Place × List ℕ))
    (asked : List (Request × Outcome)) :
    Type 0 where
  pub count : ℕ
  pub short : count < length (download_requests purpose writes)
  pub taken : AreTaken purpose 0 (take count (download_requests purpose writes)) asked

abbrev pub BlockEndsAs : DownloadPurpose → List (Place × List ℕ) → DownloadResult
    → List (Request × Outcome) → Type 0
BlockEndsAs purpose writes Applied asked =
    AreTaken purpose 0 (download_requests purpose writes) asked
BlockEndsAs purpose writes result asked =
    IsDownloadCut purpose writes 0 (download_requests purpose writes) asked result
    ⊎ (IsLeft purpose writes asked × (result ≡ NotApplied))

-- from its submit on, whatever happens, up to what ends it
abbrev pub BlocksAreWhole : Type 0
BlocksAreWhole =
    (s : Storage) (writes : List (Place × List ℕ)) (keep : Keep) (events : List StorageEvent)
    (last : StorageEvent)
    → let begun = storage_with_block s writes keep in
    let end = storage_after (storage_behind begun events) last in
    BlockGoesOn begun events → is_block end.job ≡ false
    → (result : DownloadResult) × (end.ended ≡ Some result)
    × BlockEndsAs (BlockPurpose keep) writes result (story_behind begun (events ++ last ∷ []))
