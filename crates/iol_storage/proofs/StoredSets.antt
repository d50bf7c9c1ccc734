-- No set that is kept has a value where commands are written: what `backups_hold_no_command`
-- rests on.
-- For the clauses of `laws::backups_hold_no_command`.
use Rattle.std.proofs.Common.{◌≡◌, ◌||◌, ℕ, Bool, true, false, List, [], ◌∷◌, ◌++◌, Option, None, Some, ap, refl, cond, length, ◌+◌, ◌==◌, ◌-◌}
use Rattle.std.specs.Option.{option_map}
use Rattle.std.specs.Prelude.{if◌then◌else◌, Err, Ok, is_ok, is_some, nat_lt}
use Rattle.iol_isdu.specs.declared.values.Answer.TheVariants.{Refused as AnswerRefused, Read, Written}
use Rattle.iol_isdu.specs.declared.values.Place.{Place}
use Rattle.iol_book.specs.declared.entries.Outcome.TheVariants.{Done, NoIsdu, Unknown, Withdrawn}
use Rattle.iol_book.specs.declared.entries.Outcome.{Outcome}
use Rattle.iol_storage.specs.AttemptLaws.{Values}
use Rattle.iol_storage.specs.Attempts.{behind_attempt}
use Rattle.iol_storage.specs.Objects.{any_owned, fits_behind, is_command_place}
use Rattle.iol_storage.specs.Sets.{is_no_set}
use Rattle.iol_storage.specs.Stored.{block_answer_by, block_refusal, has_no_job, is_check, job_end, job_heard, job_keeping, no_retry, number_behind, obstacle, purpose_due, standing_released, storage_at_opening, storage_begins, storage_concluded, storage_due, storage_ended, storage_heard, storage_loaded, storage_looked, storage_observed, storage_with_block}
use Rattle.iol_storage.specs.StoredChecks.{BackupsHoldNoCommand}
use Rattle.iol_storage.specs.StoredPort.{to_submit}
use Rattle.iol_storage.specs.StoredStories.{Heard, Saved, Asked, Collected, Loaded, Noticed, Released, StorageEvent, Submitted, Watched, is_repeated, storage_after, storage_behind}
use Rattle.iol_storage.specs.Uploads.{behind_list, behind_read, behind_start, behind_upload, is_list, names_more, objects_with, place_named}
use Rattle.iol_storage.specs.declared.attempt.AttemptPurpose.{AttemptPurpose}
use Rattle.iol_storage.specs.declared.attempt.AttemptStage.TheVariants.{Breaking, Checksum, Confirming, Ending, Fetching, Over, Restoring, SerialNumber, Size, State, Unsaved}
use Rattle.iol_storage.specs.declared.attempt.AttemptStage.{AttemptStage}
use Rattle.iol_storage.specs.declared.attempt.StorageAttempt.{StorageAttempt}
use Rattle.iol_storage.specs.declared.download.Keep.{Keep}
use Rattle.iol_storage.specs.declared.set.Set.{Set}
use Rattle.iol_storage.specs.declared.stored.fault.StoredFault.TheVariants as fault
use Rattle.iol_storage.specs.declared.stored.fault.StoredFault.TheVariants.{OwnedIndex, Storing}
use Rattle.iol_storage.specs.declared.stored.fault.StoredFault.{StoredFault}
use Rattle.iol_storage.specs.declared.stored.standing.StorageStanding.{StorageStanding}
use Rattle.iol_storage.specs.declared.stored.storage.JobEnd.TheVariants as job_ends
use Rattle.iol_storage.specs.declared.stored.storage.JobEnd.{JobEnd}
use Rattle.iol_storage.specs.declared.stored.storage.Storage.{Storage}
use Rattle.iol_storage.specs.declared.stored.storage.StorageJob.TheVariants.{Block, Check, Idle}
use Rattle.iol_storage.specs.declared.stored.storage.StorageJob.{StorageJob}
use Rattle.iol_storage.specs.declared.upload.Upload.{Upload}
use Rattle.iol_storage.specs.declared.upload.UploadStage.TheVariants as upload_stage
use Rattle.iol_storage.specs.declared.upload.UploadStage.TheVariants.{Listing, Reading, Starting}
use Rattle.iol_storage.specs.declared.upload.UploadStage.{UploadStage}
use Rattle.iol_storage.proofs.Attempts.{either}

abbrev OwnsNone : Values → Type 0
OwnsNone objects = any_owned objects ≡ false

owns-none-more : (objects : Values) (place : Place) (octets : List ℕ) → OwnsNone objects
    → is_command_place place ≡ false → OwnsNone (objects ++ (place, octets) ∷ [])
owns-none-more [] place octets none free = ap (λ b. b || false) free
owns-none-more (object ∷ objects) place octets none free =
    by (is_command_place object.0) none
    (λ rest. owns-none-more objects place octets rest free)
  where
    by : (b : Bool) → (b || any_owned objects) ≡ false
        → (OwnsNone objects → OwnsNone (objects ++ (place, octets) ∷ []))
        → (b || any_owned (objects ++ (place, octets) ∷ [])) ≡ false
    by true none more = absurd (cc)
    by false none more = more none

-- What an upload fetches

with-none : (objects : Values) (place : Place) (octets : List ℕ) (b : Bool)
    → is_command_place place ≡ b → OwnsNone objects
    → OwnsNone (cond b objects (if fits_behind objects octets
    then objects ++ (place, octets) ∷ [] else objects))
with-none objects place octets true owned none = none
with-none objects place octets false free none =
    either OwnsNone (fits_behind objects octets) (objects ++ (place, octets) ∷ []) objects
    (owns-none-more objects place octets none free) none

start-none : (u : Upload) (d : Values) (o : Outcome) → OwnsNone d → OwnsNone (behind_start u d o).1
start-none u d (Done Written) none = none
start-none u d (Done (Read octets)) none = none
start-none u d (Done (AnswerRefused error additional)) none = none
start-none u d (Unknown cause) none = none
start-none u d Withdrawn none = none
start-none u d NoIsdu none = none

list-none : (u : Upload) (d : Values) (o : Outcome) → OwnsNone d → OwnsNone (behind_list u d o).1
list-none u d (Done (Read octets)) none = either OwnsNone (is_list octets.items) [] d refl none
list-none u d (Done Written) none = none
list-none u d (Done (AnswerRefused error additional)) none = none
list-none u d (Unknown cause) none = none
list-none u d Withdrawn none = none
list-none u d NoIsdu none = none

read-none : (u : Upload) (d : Values) (o : Outcome) → OwnsNone d → OwnsNone (behind_read u d o).1
read-none u d (Done (Read octets)) none =
    let place = place_named u.list.items (length d) in
    either OwnsNone (names_more u.list.items (length d)) (objects_with d place octets.items) d
    (with-none d place octets.items (is_command_place place) refl none) none
read-none u d (Done Written) none = none
read-none u d (Done (AnswerRefused error additional)) none = none
read-none u d (Unknown cause) none = none
read-none u d Withdrawn none = none
read-none u d NoIsdu none = none

upload-none : (stage : UploadStage) (u : Upload) (d : Values) (o : Outcome) → OwnsNone d
    → OwnsNone (behind_upload stage u d o).1
upload-none upload_stage.Starting u d o none = start-none u d o none
upload-none upload_stage.Listing u d o none = list-none u d o none
upload-none upload_stage.Reading u d o none = read-none u d o none
upload-none (upload_stage.Breaking result) u d o none = none
upload-none (upload_stage.Over result) u d o none = none

attempt-none : (stage : AttemptStage) (a : StorageAttempt) (backup : Option Set) (d : Values)
    (o : Outcome) → OwnsNone d → OwnsNone (behind_attempt stage a backup d o).1
attempt-none State a backup d o none = none
attempt-none Size a backup d o none = none
attempt-none Checksum a backup d o none = none
attempt-none SerialNumber a backup d o none = none
attempt-none Fetching a backup d o none = upload-none a.upload.stage a.upload d o none
attempt-none Unsaved a backup d o none = none
attempt-none Ending a backup d o none = none
attempt-none Confirming a backup d o none = none
attempt-none (Restoring stage) a backup d o none = none
attempt-none (Breaking result) a backup d o none = none
attempt-none (Over result) a backup d o none = none

-- What is kept, and what is to be

abbrev HoldsNone : Storage → Type 0
HoldsNone s = (is_no_set s.backup ≡ false) × OwnsNone s.draft

keeping-none : (job : StorageJob) (s : Storage) → HoldsNone s → HoldsNone (job_keeping job s)
keeping-none Idle s holds = holds
keeping-none (Check attempt) s holds = (holds.1, refl)
keeping-none (Block download) s holds = holds

ended-none : (end : JobEnd) (s : Storage) → HoldsNone s → HoldsNone (storage_ended end s)
ended-none job_ends.GoesOn s holds = holds
ended-none job_ends.Fetched s holds = keeping-none s.job s holds
ended-none (job_ends.Check result) s holds = holds
ended-none (job_ends.Block result) s holds = holds

heard-none : (job : StorageJob) (s : Storage) (o : Outcome) → HoldsNone s
    → HoldsNone (job_heard job s o)
heard-none Idle s o holds = holds
heard-none (Check a) s o holds = (holds.0, attempt-none a.stage a s.backup s.draft o holds.1)
heard-none (Block download) s o holds = holds

begins-none : (s : Storage) (page : List ℕ) (purpose : AttemptPurpose)
    (obstacle : Option StorageStanding) → HoldsNone s
    → HoldsNone (storage_begins s page purpose obstacle)
begins-none s page purpose None holds = holds
begins-none s page purpose (Some proposed) holds = holds

due-none : (s : Storage) (page : List ℕ) (purpose : Option AttemptPurpose) → HoldsNone s
    → HoldsNone (storage_due s page purpose)
due-none s page None holds = holds
due-none s page (Some purpose) holds = begins-none
    (record s { retry = record s.retry { due = false } }) page purpose
    (obstacle s.mode (option_map (λ set. set.device) s.backup) page) holds

observed-none : (s : Storage) (session : Option (List ℕ)) → HoldsNone s
    → HoldsNone (storage_observed s session)
observed-none s None holds = holds
observed-none s (Some page) holds = either HoldsNone (has_no_job s.job) (storage_looked s page) s
    (either HoldsNone (nat_lt 0 s.retry.pause)
    (record s { retry = record s.retry { pause = s.retry.pause - 1 } })
    (storage_due s page (purpose_due s.standing s.retry.due)) holds
    (due-none s page (purpose_due s.standing s.retry.due) holds)) holds

loaded-none : (s : Storage) (backup : Option Set) (job none : Bool) → is_no_set backup ≡ none
    → HoldsNone s
    → HoldsNone (cond (is_some (cond job (cond none (Some fault.OwnedIndex) None)
    (Some fault.Storing))) s (storage_loaded s backup))
loaded-none s backup false none is holds = holds
loaded-none s backup true true is holds = holds
loaded-none s backup true false is holds = (is, holds.1)

block-none : (s : Storage) (writes : Values) (keep : Keep) (refusal : Option StoredFault)
    (owned : Bool) → any_owned writes ≡ owned → HoldsNone s
    → HoldsNone (cond (is_ok (block_answer_by refusal (cond owned (Err fault.OwnedIndex)
    (Ok (record { 0 = number_behind s.blocks }))))) (storage_with_block s writes keep) s)
block-none s writes keep (Some why) owned is holds = holds
block-none s writes keep None true is holds = holds
block-none s writes keep None false is holds = (holds.0, is)

after-none : (s : Storage) (event : StorageEvent) → HoldsNone s → HoldsNone (storage_after s event)
after-none s (Heard o) holds = either HoldsNone (is_some s.asked) (storage_heard s o) s
    (either HoldsNone (is_repeated s o) (record s { asked = None; breaks = s.breaks + 1 })
    (storage_concluded (job_heard s.job (record s { asked = None; breaks = 0 }) o)) holds
    (ended-none (job_end (job_heard s.job (record s { asked = None; breaks = 0 }) o).job)
    (job_heard s.job (record s { asked = None; breaks = 0 }) o)
    (heard-none s.job (record s { asked = None; breaks = 0 }) o holds))) holds
after-none s (Watched session) holds = either HoldsNone (is_some s.asked) s
    (storage_observed s session) holds (observed-none s session holds)
after-none s (Asked ticket) holds = either HoldsNone (is_some (to_submit s))
    (record s { asked = Some ticket }) s holds holds
after-none s Saved holds = holds
after-none s (Noticed event) holds = either HoldsNone (event.code == 0xFF91)
    (record s { retry = no_retry true }) s holds holds
after-none s (Loaded backup) holds =
    loaded-none s backup (has_no_job s.job) (is_no_set backup) refl holds
after-none s Released holds = either HoldsNone (is_check s.job) s
    (record s { standing = standing_released s.standing }) holds holds
after-none s (Submitted writes keep) holds =
    block-none s writes keep (block_refusal s) (any_owned writes) refl holds
after-none s (Collected block) holds = either HoldsNone (block.0 == s.blocks)
    (record s { ended = None }) s holds holds

behind-none : (events : List StorageEvent) (s : Storage) → HoldsNone s
    → HoldsNone (storage_behind s events)
behind-none [] s holds = holds
behind-none (event ∷ events) s holds =
    behind-none events (storage_after s event) (after-none s event holds)

pub backups_hold_no_command : BackupsHoldNoCommand
backups_hold_no_command mode backup events none =
    (behind-none events (storage_at_opening mode backup) (none, refl)).0
