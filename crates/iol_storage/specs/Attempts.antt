-- One attempt of a check of Data Storage: what it asks, and what it becomes by what comes of that.
use Rattle.std.specs.Prelude.{ℕ, ◌+◌, ◌*◌, ◌/◌, ◌%◌, ◌==◌, Bool, true, false, ◌&&◌, ◌||◌, not, nat_le, nat_lt, if◌then◌else◌, List, [], ◌∷◌, length, bytes_eq, Option, Some, None}
use Rattle.iol_isdu.specs.declared.values.Place.{Place}
use Rattle.iol_isdu.specs.declared.values.Request.{Request}
use Rattle.iol_isdu.specs.declared.values.Request.TheVariants.{Read as ReadRequest}
use Rattle.iol_isdu.specs.declared.values.Answer.TheVariants.{Read, Written, Refused as AnswerRefused}
use Rattle.iol_book.specs.declared.entries.Outcome.{Outcome}
use Rattle.iol_book.specs.declared.entries.Outcome.TheVariants.{Done, Unknown, Withdrawn, NoIsdu}
use Rattle.iol_storage.specs.declared.download.Flag.TheVariants.{Ignored, Counts}
use Rattle.iol_storage.specs.declared.download.DownloadPurpose.{DownloadPurpose}
use Rattle.iol_storage.specs.declared.download.DownloadPurpose.TheVariants.{Restore as RestorePurpose}
use Rattle.iol_storage.specs.declared.download.Refusal.{Refusal}
use Rattle.iol_storage.specs.declared.download.DownloadResult.{DownloadResult}
use Rattle.iol_storage.specs.declared.download.DownloadResult.TheVariants as download
use Rattle.iol_storage.specs.declared.download.DownloadStage.{DownloadStage}
use Rattle.iol_storage.specs.declared.download.DownloadStage.TheVariants as download_stage
use Rattle.iol_storage.specs.declared.upload.UploadResult.{UploadResult}
use Rattle.iol_storage.specs.declared.upload.UploadResult.TheVariants as upload
use Rattle.iol_storage.specs.declared.upload.UploadStage.{UploadStage}
use Rattle.iol_storage.specs.declared.upload.UploadStage.TheVariants as upload_stage
use Rattle.iol_storage.specs.declared.upload.Upload.{Upload}
use Rattle.iol_storage.specs.declared.set.Set.{Set}
use Rattle.iol_storage.specs.declared.attempt.StorageMode.{StorageMode}
use Rattle.iol_storage.specs.declared.attempt.StorageMode.TheVariants.{Off, Restore, Both, Own}
use Rattle.iol_storage.specs.declared.attempt.AttemptPurpose.{AttemptPurpose}
use Rattle.iol_storage.specs.declared.attempt.AttemptPurpose.TheVariants.{StartUp, InService}
use Rattle.iol_storage.specs.declared.attempt.AttemptResult.{AttemptResult}
use Rattle.iol_storage.specs.declared.attempt.AttemptResult.TheVariants.{Unsupported, Locked, TooLarge, BadList, Empty, Same, Unchanged, Restored, Fetched, Refused, Transient}
use Rattle.iol_storage.specs.declared.attempt.AttemptStage.{AttemptStage}
use Rattle.iol_storage.specs.declared.attempt.AttemptStage.TheVariants.{State, Size, Checksum, SerialNumber, Fetching, Unsaved, Ending, Confirming, Restoring, Breaking, Over}
use Rattle.iol_storage.specs.declared.attempt.StorageAttempt.{StorageAttempt}
use Rattle.iol_storage.specs.Downloads.{session_lasts, stage_asks, stage_after}
use Rattle.iol_storage.specs.Uploads.{storage_place, storage_command, upload_asks, upload_after}
use Rattle.iol_storage.specs.Laws.{upload_begun}

abbrev pub first_stage : StorageMode → AttemptStage
first_stage Off = Over Unchanged
first_stage other = State

abbrev pub attempt_begun : StorageMode → AttemptPurpose → StorageAttempt
attempt_begun mode purpose = record {
  mode = mode;
  purpose = purpose;
  stage = first_stage mode;
  flag = false;
  unit = record { items = [] };
  upload = upload_begun (0 ∷ (0 ∷ (0 ∷ (0 ∷ []))));
  fetches = 1;
}

abbrev pub with_attempt_stage : StorageAttempt → AttemptStage → StorageAttempt
with_attempt_stage attempt stage = record attempt { stage = stage }

-- a fetch begins, from a device with this checksum
abbrev pub with_upload_begun : StorageAttempt → List ℕ → StorageAttempt
with_upload_begun attempt checksum = record attempt { upload = upload_begun checksum }

-- What it decides

-- whether the unit is the set's; one without a SerialNumber is none
abbrev pub is_unit_of : List ℕ → Set → Bool
is_unit_of unit set = not (length unit == 0) && bytes_eq unit set.unit.items

-- whether a flag of the device counts, beside this kept set
-- STO-1
abbrev pub counts_flag : StorageMode → List ℕ → Set → Bool
counts_flag Off unit set = false
counts_flag Restore unit set = false
counts_flag Both unit set = true
counts_flag Own unit set = is_unit_of unit set

abbrev pub decision_without : StorageMode → AttemptStage
decision_without Off = Over Empty
decision_without Restore = Over Empty
decision_without Both = Fetching
decision_without Own = Fetching

-- a device that was served already is not restored
-- STO-13
abbrev pub is_in_service : AttemptPurpose → Bool
is_in_service StartUp = false
is_in_service InService = true

abbrev pub decision_beside : StorageAttempt → Set → AttemptStage
decision_beside attempt set =
    if attempt.flag && counts_flag attempt.mode attempt.unit.items set then Fetching else
    if is_in_service attempt.purpose then Over Unchanged else
    if bytes_eq attempt.upload.checksum set.checksum then Over Same
    else Restoring (download_stage.Asking 0)

-- STO-6
abbrev pub decision : StorageAttempt → Option Set → AttemptStage
decision attempt None = decision_without attempt.mode
decision attempt (Some set) = decision_beside attempt set

-- What it asks

abbrev pub serial_place : Place
serial_place = record { index = 21; sub = 0 }

abbrev pub restore_purpose : StorageMode → List ℕ → Set → DownloadPurpose
restore_purpose mode unit set =
    RestorePurpose (if counts_flag mode unit set then Counts else Ignored)

abbrev pub restore_asks : StorageAttempt → DownloadStage → Option Set → Option Request
restore_asks attempt stage None = None
restore_asks attempt stage (Some set) =
    stage_asks (restore_purpose attempt.mode attempt.unit.items set) stage set.objects

abbrev pub attempt_stage_asks : AttemptStage → StorageAttempt → Option Set → List (Place × List ℕ)
    → Option Request
attempt_stage_asks State attempt backup draft = Some (ReadRequest (storage_place 2))
attempt_stage_asks Size attempt backup draft = Some (ReadRequest (storage_place 3))
attempt_stage_asks Checksum attempt backup draft = Some (ReadRequest (storage_place 4))
attempt_stage_asks SerialNumber attempt backup draft = Some (ReadRequest serial_place)
attempt_stage_asks Fetching attempt backup draft = upload_asks attempt.upload draft
attempt_stage_asks Unsaved attempt backup draft = None
attempt_stage_asks Ending attempt backup draft = Some (storage_command 2)
attempt_stage_asks Confirming attempt backup draft = Some (ReadRequest (storage_place 4))
attempt_stage_asks (Restoring stage) attempt backup draft = restore_asks attempt stage backup
attempt_stage_asks (Breaking result) attempt backup draft = Some (storage_command 5)
attempt_stage_asks (Over result) attempt backup draft = None

-- STO-5
abbrev pub attempt_asks : StorageAttempt → Option Set → List (Place × List ℕ) → Option Request
attempt_asks attempt backup draft = attempt_stage_asks attempt.stage attempt backup draft

-- What it becomes

-- refusals that pass: the service is not available now, or an activity of another is under way
-- STO-11
abbrev pub passes : ℕ → ℕ → Bool
passes error additional = (error == 128)
    && ((nat_le 32 additional && nat_le additional 34) || (additional == 54))

-- no such Index, no such Subindex
abbrev pub is_unsupported : ℕ → ℕ → Bool
is_unsupported error additional = (error == 128) && ((additional == 17) || (additional == 18))

abbrev pub refusal_result : Refusal → AttemptResult
refusal_result refusal =
    if passes refusal.error refusal.additional then Transient else Refused refusal

-- behind any other outcome of a read at this place than what was read
abbrev pub look_result : Place → Outcome → AttemptResult
look_result place (Done (AnswerRefused error additional)) =
    refusal_result (record { place = place; error = error; additional = additional })
look_result place NoIsdu = Unsupported
look_result place other = Transient

-- bits 2 and 1 are both set
abbrev pub is_locked : ℕ → Bool
is_locked state = ((state / 2) % 4) == 3

abbrev pub state_read : StorageAttempt → List ℕ → StorageAttempt
state_read attempt (state ∷ []) = if is_locked state
    then with_attempt_stage attempt (Over Locked)
    else record attempt { flag = nat_le 128 state; stage = Size }
state_read attempt _ = with_attempt_stage attempt (Over Transient)

abbrev pub state_refused : ℕ → ℕ → AttemptResult
state_refused error additional = if is_unsupported error additional then Unsupported
    else refusal_result
    (record { place = storage_place 2; error = error; additional = additional })

abbrev pub after_state : StorageAttempt → Outcome → StorageAttempt
after_state attempt (Done (Read octets)) = state_read attempt octets.items
after_state attempt (Done (AnswerRefused error additional)) =
    with_attempt_stage attempt (Over (state_refused error additional))
after_state attempt other = with_attempt_stage attempt (Over (look_result (storage_place 2) other))

-- the size is a number of four octets
abbrev pub size_read : List ℕ → AttemptStage
size_read (first ∷ second ∷ third ∷ last ∷ []) =
    if nat_le (16777216 * first + 65536 * second + 256 * third + last) 2048 then Checksum
    else Over TooLarge
size_read _ = Over Transient

abbrev pub behind_size : Outcome → AttemptStage
behind_size (Done (Read octets)) = size_read octets.items
behind_size other = Over (look_result (storage_place 3) other)

-- so is the checksum
abbrev pub checksum_octets : List ℕ → Option (List ℕ)
checksum_octets (first ∷ second ∷ third ∷ last ∷ []) =
    Some (first ∷ second ∷ third ∷ last ∷ [])
checksum_octets _ = None

-- behind the checksum: in mode Own the unit is read, too
abbrev pub next_look : StorageMode → StorageAttempt → Option Set → AttemptStage
next_look Own attempt backup = SerialNumber
next_look other attempt backup = decision attempt backup

abbrev pub checksum_read : StorageAttempt → Option Set → Option (List ℕ) → StorageAttempt
checksum_read attempt backup None = with_attempt_stage attempt (Over Transient)
checksum_read attempt backup (Some checksum) =
    with_attempt_stage (with_upload_begun attempt checksum)
    (next_look attempt.mode (with_upload_begun attempt checksum) backup)

abbrev pub after_checksum : StorageAttempt → Option Set → Outcome → StorageAttempt
after_checksum attempt backup (Done (Read octets)) =
    checksum_read attempt backup (checksum_octets octets.items)
after_checksum attempt backup other =
    with_attempt_stage attempt (Over (look_result (storage_place 4) other))

-- a SerialNumber that is longer is none
abbrev pub serial_number_read : List ℕ → List ℕ
serial_number_read octets = if nat_le (length octets) 16 then octets else []

-- the unit is known, and it is decided
abbrev pub unit_looked : StorageAttempt → Option Set → List ℕ → StorageAttempt
unit_looked attempt backup unit =
    let known = record attempt { unit = record { items = unit } } in
    with_attempt_stage known (decision known backup)

abbrev pub after_serial_number : StorageAttempt → Option Set → Outcome → StorageAttempt
after_serial_number attempt backup (Done (Read octets)) =
    unit_looked attempt backup (serial_number_read octets.items)
after_serial_number attempt backup (Done (AnswerRefused error additional)) =
    if passes error additional then with_attempt_stage attempt (Over Transient)
    else unit_looked attempt backup []
after_serial_number attempt backup other =
    with_attempt_stage attempt (Over (look_result serial_place other))

abbrev pub fetch_result : UploadResult → AttemptStage
fetch_result upload.Whole = Unsaved
fetch_result (upload.Refused refusal) = Over (refusal_result refusal)
fetch_result upload.BadList = Over BadList
fetch_result upload.TooLarge = Over TooLarge
fetch_result upload.Changed = Over Transient
fetch_result upload.CutOff = Over Transient

abbrev pub behind_fetch : UploadStage → AttemptStage
behind_fetch (upload_stage.Over result) = fetch_result result
behind_fetch other = Fetching

abbrev pub with_upload : StorageAttempt → Upload → StorageAttempt
with_upload attempt upload = record attempt {
  upload = upload;
  stage = behind_fetch upload.stage;
}

abbrev pub after_fetch : StorageAttempt → List (Place × List ℕ) → Outcome
    → StorageAttempt × List (Place × List ℕ)
after_fetch attempt draft outcome = (
  with_upload attempt (upload_after attempt.upload draft outcome).0,
  (upload_after attempt.upload draft outcome).1,
)

-- the end of an upload; cut off, it is broken off if the session goes on
abbrev pub behind_end : Outcome → AttemptStage
behind_end (Done Written) = Confirming
behind_end (Done (AnswerRefused error additional)) = Over (refusal_result
    (record { place = storage_place 1; error = error; additional = additional }))
behind_end (Done (Read octets)) = Breaking Transient
behind_end (Unknown cause) = if session_lasts cause then Breaking Transient else Over Transient
behind_end Withdrawn = Over Transient
behind_end NoIsdu = Over Transient

-- the checksum once more: if it differs, the set is fetched again, in all at most three times
-- STO-9
abbrev pub checksum_confirmed : StorageAttempt → Option (List ℕ) → StorageAttempt
checksum_confirmed attempt None = with_attempt_stage attempt (Over Transient)
checksum_confirmed attempt (Some checksum) = if bytes_eq checksum attempt.upload.checksum
    then with_attempt_stage attempt (Over Fetched) else
    if nat_lt attempt.fetches 3
    then record attempt {
      upload = upload_begun checksum;
      fetches = attempt.fetches + 1;
      stage = Fetching;
    }
    else with_attempt_stage attempt (Over Transient)

abbrev pub after_confirmed : StorageAttempt → Outcome → StorageAttempt
after_confirmed attempt (Done (Read octets)) =
    checksum_confirmed attempt (checksum_octets octets.items)
after_confirmed attempt other =
    with_attempt_stage attempt (Over (look_result (storage_place 4) other))

abbrev pub restore_result : DownloadResult → AttemptResult
restore_result download.Applied = Restored
restore_result (download.Refused refusal) = refusal_result refusal
restore_result download.FlagSet = Transient
restore_result download.NotApplied = Transient
restore_result (download.Unknown cause) = Transient
restore_result download.NoIsdu = Unsupported

abbrev pub behind_download : DownloadStage → AttemptStage
behind_download (download_stage.Over result) = Over (restore_result result)
behind_download other = Restoring other

abbrev pub behind_restore : StorageAttempt → DownloadStage → Option Set → Outcome → AttemptStage
behind_restore attempt stage None outcome = Over Transient
behind_restore attempt stage (Some set) outcome = behind_download
    (stage_after (restore_purpose attempt.mode attempt.unit.items set) set.objects stage outcome)

-- by the stage, what is left of the attempt and of what was fetched
abbrev pub behind_attempt : AttemptStage → StorageAttempt → Option Set → List (Place × List ℕ)
    → Outcome → StorageAttempt × List (Place × List ℕ)
behind_attempt State attempt backup draft outcome = (after_state attempt outcome, draft)
behind_attempt Size attempt backup draft outcome =
    (with_attempt_stage attempt (behind_size outcome), draft)
behind_attempt Checksum attempt backup draft outcome =
    (after_checksum attempt backup outcome, draft)
behind_attempt SerialNumber attempt backup draft outcome =
    (after_serial_number attempt backup outcome, draft)
behind_attempt Fetching attempt backup draft outcome = after_fetch attempt draft outcome
behind_attempt Unsaved attempt backup draft outcome = (attempt, draft)
behind_attempt Ending attempt backup draft outcome =
    (with_attempt_stage attempt (behind_end outcome), draft)
behind_attempt Confirming attempt backup draft outcome = (after_confirmed attempt outcome, draft)
behind_attempt (Restoring stage) attempt backup draft outcome =
    (with_attempt_stage attempt (behind_restore attempt stage backup outcome), draft)
behind_attempt (Breaking result) attempt backup draft outcome =
    (with_attempt_stage attempt (Over result), draft)
behind_attempt (Over result) attempt backup draft outcome = (attempt, draft)

abbrev pub attempt_after : StorageAttempt → Option Set → List (Place × List ℕ) → Outcome
    → StorageAttempt × List (Place × List ℕ)
attempt_after attempt backup draft outcome =
    behind_attempt attempt.stage attempt backup draft outcome

-- a set that is whole waits to be saved, and the device is told behind that
abbrev pub is_unsaved : AttemptStage → Bool
is_unsaved Unsaved = true
is_unsaved _ = false

-- STO-8
abbrev pub attempt_saved : StorageAttempt → StorageAttempt
attempt_saved attempt =
    if is_unsaved attempt.stage then with_attempt_stage attempt Ending else attempt

abbrev pub stage_attempt_result : AttemptStage → Option AttemptResult
stage_attempt_result (Over result) = Some result
stage_attempt_result _ = None

abbrev pub result_of_attempt : StorageAttempt → Option AttemptResult
result_of_attempt attempt = stage_attempt_result attempt.stage
