-- What a reader may conclude of an attempt, whatever comes of its requests, and whenever its set is
-- saved.
use Rattle.std.specs.Prelude.{◌≡◌, ◌≤◌, ◌⊎◌, ℕ, true, false, if◌then◌else◌, List, [], ◌∷◌, ◌++◌, length, map, take, slice_get, Option, Some, None}
use Rattle.iol_isdu.specs.declared.values.Place.{Place}
use Rattle.iol_isdu.specs.declared.values.Request.{Request}
use Rattle.iol_isdu.specs.declared.values.Request.TheVariants.{Read as ReadRequest, Write as WriteRequest}
use Rattle.iol_book.specs.declared.entries.Outcome.{Outcome}
use Rattle.iol_storage.specs.declared.download.DownloadPurpose.{DownloadPurpose}
use Rattle.iol_storage.specs.declared.set.Set.{Set}
use Rattle.iol_storage.specs.declared.attempt.StorageMode.{StorageMode}
use Rattle.iol_storage.specs.declared.attempt.StorageMode.TheVariants.{Own}
use Rattle.iol_storage.specs.declared.attempt.AttemptPurpose.{AttemptPurpose}
use Rattle.iol_storage.specs.declared.attempt.AttemptResult.TheVariants.{Restored}
use Rattle.iol_storage.specs.declared.attempt.AttemptStage.TheVariants.{Over}
use Rattle.iol_storage.specs.declared.attempt.StorageAttempt.{StorageAttempt}
use Rattle.iol_storage.specs.Downloads.{download_requests}
use Rattle.iol_storage.specs.Uploads.{storage_place, storage_command, names_more, place_named}
use Rattle.iol_storage.specs.Laws.{asked_with, AreTaken, IsWholeSet}
use Rattle.iol_storage.specs.Sets.{is_no_set}
use Rattle.iol_storage.specs.Attempts.{attempt_begun, attempt_asks, attempt_after, attempt_saved, is_unsaved, restore_purpose, serial_place}

abbrev pub Values : Type 0
Values = List (Place × List ℕ)

-- what happens to an attempt: something comes of what it asked, or the set that it fetched is
-- saved, so that this one is kept from then on. The draft may be any then
pub data AttemptEvent : Type 0 where
  Heard : Outcome → AttemptEvent
  Saved : Option Set → Values → AttemptEvent

-- an attempt, the kept set, and what was fetched so far
pub record AttemptRun : Type 0 where
  pub attempt : StorageAttempt
  pub backup : Option Set
  pub draft : Values

abbrev pub run_begun : StorageMode → AttemptPurpose → Option Set → Values → AttemptRun
run_begun mode purpose backup draft =
    record { attempt = attempt_begun mode purpose; backup = backup; draft = draft }

abbrev pub run_asks : AttemptRun → Option Request
run_asks run = attempt_asks run.attempt run.backup run.draft

-- where no set waits, nothing is saved
abbrev pub run_after : AttemptRun → AttemptEvent → AttemptRun
run_after run (Heard outcome) = record {
  attempt = (attempt_after run.attempt run.backup run.draft outcome).0;
  backup = run.backup;
  draft = (attempt_after run.attempt run.backup run.draft outcome).1;
}
run_after run (Saved backup draft) = if is_unsaved run.attempt.stage
    then record { attempt = attempt_saved run.attempt; backup = backup; draft = draft } else run

abbrev pub event_asked : AttemptRun → AttemptEvent → List (Request × Outcome)
event_asked run (Heard outcome) = asked_with (run_asks run) outcome
event_asked run (Saved backup draft) = []

abbrev pub run_behind : AttemptRun → List AttemptEvent → AttemptRun
run_behind run [] = run
run_behind run (event ∷ events) = run_behind (run_after run event) events

-- what was asked, with what came of it
abbrev pub run_asked : AttemptRun → List AttemptEvent → List (Request × Outcome)
run_asked run [] = []
run_asked run (event ∷ events) = event_asked run event ++ run_asked (run_after run event) events

-- The set that waits to be saved

-- the last that was asked is an upload, whole, and these are its values
pub record EndsInWholeSet (checksum : List ℕ) (objects : Values)
    (asked : List (Request × Outcome)) :
    Type 0 where
  pub before : List (Request × Outcome)
  pub fetched : List (Request × Outcome)
  pub is : asked ≡ before ++ fetched
  pub whole : IsWholeSet checksum objects fetched

abbrev pub UnsavedSetsAreWhole : Type 0
UnsavedSetsAreWhole =
    (mode : StorageMode) (purpose : AttemptPurpose) (backup : Option Set) (draft : Values)
    (events : List AttemptEvent)
    → let begun = run_begun mode purpose backup draft in
    let run = run_behind begun events in
    is_unsaved run.attempt.stage ≡ true
    → EndsInWholeSet run.attempt.upload.checksum run.draft (run_asked begun events)

-- The end of an upload

-- a set that waited was saved, and nothing was asked since
pub record IsSavedSince (begun : AttemptRun) (events : List AttemptEvent) : Type 0 where
  pub before : List AttemptEvent
  pub backup : Option Set
  pub draft : Values
  pub after : List AttemptEvent
  pub is : events ≡ before ++ Saved backup draft ∷ after
  pub waited : is_unsaved (run_behind begun before).attempt.stage ≡ true
  pub silent : run_asked (run_after (run_behind begun before) (Saved backup draft)) after ≡ []

abbrev pub AcknowledgedSetsAreSaved : Type 0
AcknowledgedSetsAreSaved =
    (mode : StorageMode) (purpose : AttemptPurpose) (backup : Option Set) (draft : Values)
    (events : List AttemptEvent)
    → let begun = run_begun mode purpose backup draft in
    is_no_set backup ≡ false
    → run_asks (run_behind begun events) ≡ Some (storage_command 2)
    → IsSavedSince begun events

-- A restore

-- the looks, by their requests
abbrev pub look_requests : StorageMode → List Request
look_requests Own = ReadRequest (storage_place 2) ∷ (ReadRequest (storage_place 3)
    ∷ (ReadRequest (storage_place 4) ∷ (ReadRequest serial_place ∷ [])))
look_requests other = ReadRequest (storage_place 2) ∷ (ReadRequest (storage_place 3)
    ∷ (ReadRequest (storage_place 4) ∷ []))

abbrev pub requests_of : List (Request × Outcome) → List Request
requests_of asked = map (λ one. one.0) asked

-- behind the looks, so many of the requests of a restore were taken, and nothing else was asked
pub record AreLooksThenTaken (mode : StorageMode) (purpose : DownloadPurpose)
    (requests : List Request) (asked : List (Request × Outcome)) :
    Type 0 where
  pub looks : List (Request × Outcome)
  pub are : requests_of looks ≡ look_requests mode
  pub restored : List (Request × Outcome)
  pub taken : AreTaken purpose 0 requests restored
  pub is : asked ≡ looks ++ restored

-- all of those of the kept set were, at this unit
pub record IsRestored (mode : StorageMode) (backup : Option Set) (unit : List ℕ)
    (asked : List (Request × Outcome)) :
    Type 0 where
  pub set : Set
  pub is_backup : backup ≡ Some set
  pub whole : AreLooksThenTaken mode (restore_purpose mode unit set)
      (download_requests (restore_purpose mode unit set) set.objects) asked

abbrev pub RestoredSetsAreTaken : Type 0
RestoredSetsAreTaken =
    (mode : StorageMode) (purpose : AttemptPurpose) (backup : Option Set) (draft : Values)
    (events : List AttemptEvent)
    → let begun = run_begun mode purpose backup draft in
    let run = run_behind begun events in
    run.attempt.stage ≡ Over Restored
    → (run.backup ≡ backup) × IsRestored mode backup run.attempt.unit.items (run_asked begun events)

-- Nothing else

-- the next request of a restore of the kept set, behind the looks and those before it
pub record IsNextOfRestore (mode : StorageMode) (backup : Option Set) (unit : List ℕ)
    (asked : List (Request × Outcome)) (request : Request) :
    Type 0 where
  pub set : Set
  pub is_backup : backup ≡ Some set
  pub count : ℕ
  pub behind : AreLooksThenTaken mode (restore_purpose mode unit set)
      (take count (download_requests (restore_purpose mode unit set) set.objects)) asked
  pub is : slice_get (download_requests (restore_purpose mode unit set) set.objects) count
      ≡ Some request

-- Data Storage's own places, but for the commands
abbrev pub IsOwnPlace : Place → Type 0
IsOwnPlace place = (place ≡ serial_place)
    ⊎ ((sub : ℕ) × (2 ≤ sub) × (sub ≤ 5) × (place ≡ storage_place sub))

-- one that the Index_List names
abbrev pub IsNamed : List ℕ → Place → Type 0
IsNamed list place = (count : ℕ) × (names_more list count ≡ true)
    × (place ≡ place_named list count)

abbrev pub IsCommand : Request → Type 0
IsCommand request = (octet : ℕ) × (1 ≤ octet) × (octet ≤ 5) × (request ≡ storage_command octet)

abbrev pub IsAllowed : StorageMode → Option Set → StorageAttempt → List (Request × Outcome)
    → Request → Type 0
IsAllowed mode backup attempt asked (ReadRequest place) =
    IsOwnPlace place ⊎ IsNamed attempt.upload.list.items place
IsAllowed mode backup attempt asked (WriteRequest place octets) =
    IsCommand (WriteRequest place octets)
    ⊎ IsNextOfRestore mode backup attempt.unit.items asked (WriteRequest place octets)

-- only this is asked: reads of Data Storage's own places and of those that the device's Index_List
-- names, its commands, and the writes of the kept set in a restore
abbrev pub AttemptsAskNoMore : Type 0
AttemptsAskNoMore =
    (mode : StorageMode) (purpose : AttemptPurpose) (backup : Option Set) (draft : Values)
    (events : List AttemptEvent) (request : Request)
    → let begun = run_begun mode purpose backup draft in
    let run = run_behind begun events in
    run_asks run ≡ Some request
    → IsAllowed mode backup run.attempt (run_asked begun events) request

-- How much is asked

abbrev pub HasFewObjects : Option Set → Type 0
HasFewObjects None = Unit {0}
HasFewObjects (Some set) = length set.objects ≤ 76

-- whatever comes of it: four looks, and three fetches of 76 values, each with five requests beside
abbrev pub AttemptsAskFew : Type 0
AttemptsAskFew =
    (mode : StorageMode) (purpose : AttemptPurpose) (backup : Option Set) (draft : Values)
    (events : List AttemptEvent) → HasFewObjects backup
    → length (run_asked (run_begun mode purpose backup draft) events) ≤ 247
