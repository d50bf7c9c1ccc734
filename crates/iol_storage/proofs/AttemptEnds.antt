-- No outcome leads to the end of an upload: the program's saving alone does. What the laws of
-- checks at a stored port rest on (StoredChecks).
-- For the clauses of `laws::ended_uploads_were_saved`, `laws::fetched_sets_are_whole` and
--     `laws::restored_standings_are_taken`.
use Rattle.std.proofs.Common.{◌≡◌, ℕ, Bool, true, false, List, [], ◌∷◌, Option, None, Some, ap, refl, cond, ◌+◌, ◌*◌, ◌&&◌}
use Rattle.std.specs.Prelude.{if◌then◌else◌, bytes_eq, nat_le, nat_lt}
use Rattle.iol_isdu.specs.declared.values.Answer.TheVariants.{Refused as AnswerRefused, Read, Written}
use Rattle.iol_book.specs.declared.entries.Outcome.TheVariants.{Done, NoIsdu, Unknown, Withdrawn}
use Rattle.iol_book.specs.declared.entries.Outcome.{Outcome}
use Rattle.iol_storage.specs.AttemptLaws.{Values}
use Rattle.iol_storage.specs.Attempts.{behind_attempt, behind_download, behind_end, behind_fetch, behind_restore, checksum_confirmed, checksum_octets, checksum_read, counts_flag, decision, decision_without, fetch_result, is_in_service, is_locked, next_look, passes, restore_purpose, serial_number_read, size_read, state_read, unit_looked, with_attempt_stage, with_upload_begun}
use Rattle.iol_storage.specs.Downloads.{session_lasts, stage_after}
use Rattle.iol_storage.specs.Laws.{upload_begun}
use Rattle.iol_storage.specs.Uploads.{upload_after}
use Rattle.iol_storage.specs.declared.attempt.AttemptResult.TheVariants.{Transient, Fetched, Locked, Same, TooLarge, Unchanged}
use Rattle.iol_storage.specs.declared.attempt.AttemptStage.TheVariants.{Breaking, Checksum, Confirming, Ending, Fetching, Over, Restoring, SerialNumber, Size, State, Unsaved}
use Rattle.iol_storage.specs.declared.attempt.AttemptStage.{AttemptStage}
use Rattle.iol_storage.specs.declared.attempt.StorageAttempt.{StorageAttempt}
use Rattle.iol_storage.specs.declared.attempt.StorageMode.TheVariants.{Both, Off, Own, Restore}
use Rattle.iol_storage.specs.declared.attempt.StorageMode.{StorageMode}
use Rattle.iol_storage.specs.declared.download.DownloadStage.TheVariants as download_stage
use Rattle.iol_storage.specs.declared.download.DownloadStage.TheVariants.{Asking}
use Rattle.iol_storage.specs.declared.download.DownloadStage.{DownloadStage}
use Rattle.iol_storage.specs.declared.set.Set.{Set}
use Rattle.iol_storage.specs.declared.upload.UploadResult.TheVariants as upload
use Rattle.iol_storage.specs.declared.upload.UploadResult.TheVariants.{Changed, CutOff}
use Rattle.iol_storage.specs.declared.upload.UploadResult.{UploadResult}
use Rattle.iol_storage.specs.declared.upload.UploadStage.TheVariants as upload_stage
use Rattle.iol_storage.specs.declared.upload.UploadStage.TheVariants.{Listing, Reading, Starting}
use Rattle.iol_storage.specs.declared.upload.UploadStage.{UploadStage}

abbrev pub is_ending : AttemptStage → Bool
is_ending Ending = true
is_ending other = false

abbrev pub NotEnding : AttemptStage → Type 0
NotEnding stage = is_ending stage ≡ false

either-not : (b : Bool) (x y : AttemptStage) → NotEnding x → NotEnding y → NotEnding (cond b x y)
either-not true x y first second = first
either-not false x y first second = second

either-attempt : (b : Bool) (x y : StorageAttempt) → NotEnding x.stage → NotEnding y.stage
    → NotEnding (cond b x y).stage
either-attempt true x y first second = first
either-attempt false x y first second = second

state-not : (a : StorageAttempt) (octets : List ℕ) → NotEnding (state_read a octets).stage
state-not a [] = refl
state-not a (state ∷ []) = either-attempt (is_locked state) (with_attempt_stage a (Over Locked))
    (record a { flag = nat_le 128 state; stage = Size }) refl refl
state-not a (state ∷ (other ∷ more)) = refl

size-not : (octets : List ℕ) → NotEnding (size_read octets)
size-not (first ∷ (second ∷ (third ∷ (last ∷ [])))) = either-not
    (nat_le (16777216 * first + 65536 * second + 256 * third + last) 2048) Checksum
    (Over TooLarge) refl refl
size-not [] = refl
size-not (x ∷ []) = refl
size-not (x ∷ (y ∷ [])) = refl
size-not (x ∷ (y ∷ (z ∷ []))) = refl
size-not (x ∷ (y ∷ (z ∷ (v ∷ (w ∷ more))))) = refl

decision-without-not : (mode : StorageMode) → NotEnding (decision_without mode)
decision-without-not Off = refl
decision-without-not Restore = refl
decision-without-not Both = refl
decision-without-not Own = refl

decision-not : (a : StorageAttempt) (backup : Option Set) → NotEnding (decision a backup)
decision-not a None = decision-without-not a.mode
decision-not a (Some set) =
    let to : AttemptStage = Restoring (download_stage.Asking 0) in
    let by_checksum : AttemptStage =
    if bytes_eq a.upload.checksum set.checksum then Over Same else to in
    let by_purpose : AttemptStage =
    if is_in_service a.purpose then Over Unchanged else by_checksum in
    either-not (a.flag && counts_flag a.mode a.unit.items set) Fetching by_purpose refl
    (either-not (is_in_service a.purpose) (Over Unchanged) by_checksum refl
    (either-not (bytes_eq a.upload.checksum set.checksum) (Over Same) to refl refl))

next-look-not : (mode : StorageMode) (a : StorageAttempt) (backup : Option Set)
    → NotEnding (next_look mode a backup)
next-look-not Off a backup = decision-not a backup
next-look-not Restore a backup = decision-not a backup
next-look-not Both a backup = decision-not a backup
next-look-not Own a backup = refl

checksum-not : (a : StorageAttempt) (backup : Option Set) (octets : Option (List ℕ))
    → NotEnding (checksum_read a backup octets).stage
checksum-not a backup None = refl
checksum-not a backup (Some checksum) =
    next-look-not a.mode (with_upload_begun a checksum) backup

confirmed-not : (a : StorageAttempt) (octets : Option (List ℕ))
    → NotEnding (checksum_confirmed a octets).stage
confirmed-not a None = refl
confirmed-not a (Some checksum) =
    let fetches : StorageAttempt = record a {
      upload = upload_begun checksum;
      fetches = a.fetches + 1;
      stage = Fetching;
    } in
    let gives_up : StorageAttempt = with_attempt_stage a (Over Transient) in
    either-attempt (bytes_eq checksum a.upload.checksum) (with_attempt_stage a (Over Fetched))
    (if nat_lt a.fetches 3 then fetches else gives_up) refl
    (either-attempt (nat_lt a.fetches 3) fetches gives_up refl refl)

fetch-not : (result : UploadResult) → NotEnding (fetch_result result)
fetch-not upload.Whole = refl
fetch-not (upload.Refused refusal) = refl
fetch-not upload.BadList = refl
fetch-not upload.TooLarge = refl
fetch-not upload.Changed = refl
fetch-not upload.CutOff = refl

fetching-not : (stage : UploadStage) → NotEnding (behind_fetch stage)
fetching-not upload_stage.Starting = refl
fetching-not upload_stage.Listing = refl
fetching-not upload_stage.Reading = refl
fetching-not (upload_stage.Breaking result) = refl
fetching-not (upload_stage.Over result) = fetch-not result

download-not : (stage : DownloadStage) → NotEnding (behind_download stage)
download-not (download_stage.Asking index) = refl
download-not (download_stage.Breaking result) = refl
download-not (download_stage.Over result) = refl

restore-not : (a : StorageAttempt) (stage : DownloadStage) (backup : Option Set) (o : Outcome)
    → NotEnding (behind_restore a stage backup o)
restore-not a stage None o = refl
restore-not a stage (Some set) o = download-not
    (stage_after (restore_purpose a.mode a.unit.items set) set.objects stage o)

end-not : (o : Outcome) → NotEnding (behind_end o)
end-not (Done Written) = refl
end-not (Done (AnswerRefused error additional)) = refl
end-not (Done (Read octets)) = refl
end-not (Unknown cause) = either-not (session_lasts cause) (Breaking Transient) (Over Transient)
    refl refl
end-not Withdrawn = refl
end-not NoIsdu = refl

module _ (a : StorageAttempt) (backup : Option Set) (draft : Values) where
  abbrev next_at : AttemptStage → Outcome → AttemptStage
  next_at stage o = (behind_attempt stage a backup draft o).0.stage

  state-heard-not : (o : Outcome) → NotEnding (next_at State o)
  state-heard-not (Done (Read octets)) = state-not a octets.items
  state-heard-not (Done (AnswerRefused error additional)) = refl
  state-heard-not (Done Written) = refl
  state-heard-not (Unknown cause) = refl
  state-heard-not Withdrawn = refl
  state-heard-not NoIsdu = refl

  size-heard-not : (o : Outcome) → NotEnding (next_at Size o)
  size-heard-not (Done (Read octets)) = size-not octets.items
  size-heard-not (Done (AnswerRefused error additional)) = refl
  size-heard-not (Done Written) = refl
  size-heard-not (Unknown cause) = refl
  size-heard-not Withdrawn = refl
  size-heard-not NoIsdu = refl

  checksum-heard-not : (o : Outcome) → NotEnding (next_at Checksum o)
  checksum-heard-not (Done (Read octets)) = checksum-not a backup (checksum_octets octets.items)
  checksum-heard-not (Done (AnswerRefused error additional)) = refl
  checksum-heard-not (Done Written) = refl
  checksum-heard-not (Unknown cause) = refl
  checksum-heard-not Withdrawn = refl
  checksum-heard-not NoIsdu = refl

  serial-heard-not : (o : Outcome) → NotEnding (next_at SerialNumber o)
  serial-heard-not (Done (Read octets)) = decision-not
      (record a { unit = record { items = serial_number_read octets.items } }) backup
  serial-heard-not (Done (AnswerRefused error additional)) =
      either-attempt (passes error additional) (with_attempt_stage a (Over Transient))
      (unit_looked a backup []) refl
      (decision-not (record a { unit = record { items = [] } }) backup)
  serial-heard-not (Done Written) = refl
  serial-heard-not (Unknown cause) = refl
  serial-heard-not Withdrawn = refl
  serial-heard-not NoIsdu = refl

  confirmed-heard-not : (o : Outcome) → NotEnding (next_at Confirming o)
  confirmed-heard-not (Done (Read octets)) = confirmed-not a (checksum_octets octets.items)
  confirmed-heard-not (Done (AnswerRefused error additional)) = refl
  confirmed-heard-not (Done Written) = refl
  confirmed-heard-not (Unknown cause) = refl
  confirmed-heard-not Withdrawn = refl
  confirmed-heard-not NoIsdu = refl

  pub heard-not : (stage : AttemptStage) (o : Outcome) → a.stage ≡ stage
      → NotEnding (next_at stage o)
  heard-not State o at = state-heard-not o
  heard-not Size o at = size-heard-not o
  heard-not Checksum o at = checksum-heard-not o
  heard-not SerialNumber o at = serial-heard-not o
  heard-not Fetching o at = fetching-not (upload_after a.upload draft o).0.stage
  heard-not Unsaved o at = ap is_ending at
  heard-not Ending o at = end-not o
  heard-not Confirming o at = confirmed-heard-not o
  heard-not (Restoring stage) o at = restore-not a stage backup o
  heard-not (Breaking result) o at = refl
  heard-not (Over result) o at = ap is_ending at
