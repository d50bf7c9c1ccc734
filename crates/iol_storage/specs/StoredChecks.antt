-- What a check at a stored port comes to, whatever happens meanwhile.
use Rattle.std.specs.Prelude.{◌≡◌, ℕ, Bool, true, false, IsTrue, List, [], ◌∷◌, ◌++◌, Option, Some}
use Rattle.iol_storage.specs.declared.set.Set.{Set}
use Rattle.iol_storage.specs.declared.attempt.StorageMode.{StorageMode}
use Rattle.iol_storage.specs.declared.stored.standing.StorageStanding.{StorageStanding}
use Rattle.iol_storage.specs.declared.stored.standing.StorageStanding.TheVariants.{Served}
use Rattle.iol_storage.specs.declared.stored.standing.Agreement.TheVariants.{Restored}
use Rattle.iol_storage.specs.declared.stored.storage.Storage.{Storage}
use Rattle.iol_storage.specs.declared.stored.storage.StorageJob.{StorageJob}
use Rattle.iol_storage.specs.declared.stored.storage.StorageJob.TheVariants.{Check}
use Rattle.iol_storage.specs.Attempts.{is_unsaved}
use Rattle.iol_storage.specs.AttemptLaws.{EndsInWholeSet, IsRestored}
use Rattle.iol_storage.specs.Sets.{is_no_set}
use Rattle.iol_storage.specs.Stored.{storage_asks, storage_at_opening, storage_saved, storage_watched, is_check, page_device}
use Rattle.iol_storage.specs.StoredStories.{StorageEvent, Saved, storage_after, storage_behind, story_behind}
use Rattle.iol_storage.specs.Uploads.{storage_command}

-- a check stays the job through all of these
abbrev pub CheckGoesOn : Storage → List StorageEvent → Type 0
CheckGoesOn s [] = Unit {0}
CheckGoesOn s (event ∷ events) = IsTrue (is_check (storage_after s event).job)
    × CheckGoesOn (storage_after s event) events

-- at the beginning of a turn, in the session with this page
abbrev pub check_begun : Storage → List ℕ → Storage
check_begun s page = storage_watched s (Some page)

-- a check begins there, and goes on through all of these
pub record IsChecking (s : Storage) (page : List ℕ) (events : List StorageEvent) : Type 0 where
  pub idle : is_check s.job ≡ false
  pub begins : IsTrue (is_check (check_begun s page).job)
  pub goes_on : CheckGoesOn (check_begun s page) events

-- The set that is kept

-- a set that was fetched waits to be saved
abbrev pub job_waits : StorageJob → Bool
job_waits (Check attempt) = is_unsaved attempt.stage
job_waits other = false

-- it is of the session's device, and a whole one, by the last upload that was asked
abbrev pub FetchedSetsAreWhole : Type 0
FetchedSetsAreWhole = (s : Storage) (page : List ℕ) (events : List StorageEvent)
    → let begun = check_begun s page in
    let now = storage_behind begun events in
    IsChecking s page events → job_waits now.job ≡ true
    → (set : Set) × (now.backup ≡ Some set) × (set.device ≡ page_device page)
    × EndsInWholeSet set.checksum set.objects (story_behind begun events)

-- from an opening on no value of it lies where commands are written
abbrev pub BackupsHoldNoCommand : Type 0
BackupsHoldNoCommand = (mode : StorageMode) (backup : Option Set) (events : List StorageEvent)
    → is_no_set backup ≡ false
    → is_no_set (storage_behind (storage_at_opening mode backup) events).backup ≡ false

-- The end of an upload

-- a set waited, was saved, and is kept still; nothing was asked since
pub record WasSavedSince (begun : Storage) (events : List StorageEvent) : Type 0 where
  pub before : List StorageEvent
  pub after : List StorageEvent
  pub is : events ≡ before ++ Saved ∷ after
  pub waited : job_waits (storage_behind begun before).job ≡ true
  pub backup : (storage_behind begun events).backup ≡ (storage_behind begun before).backup
  pub silent : story_behind (storage_saved (storage_behind begun before)) after ≡ []

abbrev pub EndedUploadsWereSaved : Type 0
EndedUploadsWereSaved = (s : Storage) (page : List ℕ) (events : List StorageEvent)
    → let begun = check_begun s page in
    let now = storage_behind begun events in
    IsChecking s page events → is_no_set s.backup ≡ false
    → storage_asks now ≡ Some (storage_command 2)
    → WasSavedSince begun events

-- A restore

abbrev pub is_restored : StorageStanding → Bool
is_restored (Served Restored) = true
is_restored other = false

-- where a check ends with this standing, the kept set was restored at one unit, whole
abbrev pub RestoredStandingsAreTaken : Type 0
RestoredStandingsAreTaken =
    (s : Storage) (page : List ℕ) (events : List StorageEvent) (last : StorageEvent)
    → let begun = check_begun s page in
    let end = storage_after (storage_behind begun events) last in
    IsChecking s page events → is_check end.job ≡ false
    → is_restored s.standing ≡ false → is_restored end.standing ≡ true
    → (unit : List ℕ) × (end.backup ≡ s.backup)
    × IsRestored s.mode s.backup unit (story_behind begun (events ++ last ∷ []))
