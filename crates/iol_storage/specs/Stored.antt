-- Data Storage and blocks at one port: what a job asks next, and what comes of an outcome, of a
-- turn, and of each call.
use Rattle.std.specs.Prelude.{ℕ, ◌+◌, ◌-◌, ◌==◌, Bool, true, false, ◌&&◌, ◌||◌, not, is_some, nat_eq, nat_le, nat_lt, if◌then◌else◌, List, [], ◌∷◌, bytes_eq, Option, Some, None, Result, Ok, Err}
use Rattle.std.specs.Option.{option_map}
use Rattle.iol_isdu.specs.declared.values.Place.{Place}
use Rattle.iol_isdu.specs.declared.values.Request.{Request}
use Rattle.iol_event.specs.declared.event.Event.{Event}
use Rattle.iol_page.specs.Page.{page_octet, knows_isdu}
use Rattle.iol_book.specs.declared.entries.Outcome.{Outcome}
use Rattle.iol_book.specs.declared.entries.Outcome.TheVariants.{Unknown}
use Rattle.iol_book.specs.declared.entries.Ticket.{Ticket}
use Rattle.iol_book.specs.declared.entries.Serve.{Serve}
use Rattle.iol_book.specs.declared.entries.Serve.TheVariants.{All, Only, Nobody}
use Rattle.iol_book.specs.Replay.{same_ticket}
use Rattle.iol_port.specs.declared.fault.PortFault.{PortFault}
use Rattle.iol_storage.specs.declared.attempt.StorageMode.{StorageMode}
use Rattle.iol_storage.specs.declared.attempt.StorageMode.TheVariants.{Off}
use Rattle.iol_storage.specs.declared.attempt.AttemptPurpose.{AttemptPurpose}
use Rattle.iol_storage.specs.declared.attempt.AttemptPurpose.TheVariants.{StartUp, InService}
use Rattle.iol_storage.specs.declared.attempt.AttemptResult.{AttemptResult}
use Rattle.iol_storage.specs.declared.attempt.AttemptResult.TheVariants as ended
use Rattle.iol_storage.specs.declared.attempt.AttemptStage.{AttemptStage}
use Rattle.iol_storage.specs.declared.attempt.AttemptStage.TheVariants as attempt_stage
use Rattle.iol_storage.specs.declared.download.Keep.{Keep}
use Rattle.iol_storage.specs.declared.download.DownloadPurpose.TheVariants.{Block as BlockPurpose}
use Rattle.iol_storage.specs.declared.download.DownloadResult.{DownloadResult}
use Rattle.iol_storage.specs.declared.download.DownloadResult.TheVariants.{NotApplied}
use Rattle.iol_storage.specs.declared.download.DownloadStage.{DownloadStage}
use Rattle.iol_storage.specs.declared.download.DownloadStage.TheVariants.{Asking, Breaking, Over}
use Rattle.iol_storage.specs.declared.set.Set.{Set}
use Rattle.iol_storage.specs.declared.stored.fault.StoredFault.{StoredFault}
use Rattle.iol_storage.specs.declared.stored.fault.StoredFault.TheVariants as fault
use Rattle.iol_storage.specs.declared.stored.standing.StorageStanding.{StorageStanding}
use Rattle.iol_storage.specs.declared.stored.standing.StorageStanding.TheVariants.{Awaited, Served, Trouble, Released}
use Rattle.iol_storage.specs.declared.stored.standing.Agreement.TheVariants as served
use Rattle.iol_storage.specs.declared.stored.standing.Trouble.TheVariants as trouble
use Rattle.iol_storage.specs.declared.stored.storage.BlockTicket.{BlockTicket}
use Rattle.iol_storage.specs.declared.stored.storage.SetNumber.{SetNumber}
use Rattle.iol_storage.specs.declared.stored.storage.StorageJob.{StorageJob}
use Rattle.iol_storage.specs.declared.stored.storage.StorageJob.TheVariants.{Idle, Check, Block}
use Rattle.iol_storage.specs.declared.stored.storage.JobEnd.{JobEnd}
use Rattle.iol_storage.specs.declared.stored.storage.JobEnd.TheVariants as job_ends
use Rattle.iol_storage.specs.declared.stored.storage.Retry.{Retry}
use Rattle.iol_storage.specs.declared.stored.storage.Storage.{Storage}
use Rattle.iol_storage.specs.Objects.{any_owned}
use Rattle.iol_storage.specs.Sets.{is_no_set}
use Rattle.iol_storage.specs.Attempts.{attempt_begun, attempt_asks, attempt_after, attempt_saved, result_of_attempt, is_unsaved}
use Rattle.iol_storage.specs.declared.upload.UploadStage.{UploadStage}
use Rattle.iol_storage.specs.declared.upload.UploadStage.TheVariants as upload_stage
use Rattle.iol_storage.specs.Downloads.{download_asks, download_after, session_lasts}

abbrev pub is_served_standing : StorageStanding → Bool
is_served_standing (Served how) = true
is_served_standing (Released why) = true
is_served_standing other = false

-- a device that is served stays so
-- STO-13
abbrev pub stays_served : StorageStanding → StorageStanding → Bool
stays_served standing proposed = is_served_standing standing && not (is_served_standing proposed)

abbrev pub standing_behind : StorageStanding → StorageStanding → StorageStanding
standing_behind standing proposed = if stays_served standing proposed then standing else proposed

abbrev pub is_standing_awaited : StorageStanding → Bool
is_standing_awaited Awaited = true
is_standing_awaited other = false

abbrev pub has_no_job : StorageJob → Bool
has_no_job Idle = true
has_no_job other = false

abbrev pub is_off : StorageMode → Bool
is_off Off = true
is_off other = false

abbrev pub no_retry : Bool → Retry
no_retry due = record { tries = 0; pause = 0; due = due }

abbrev pub storage_at_opening : StorageMode → Option Set → Storage
storage_at_opening mode backup = record {
  mode = mode;
  backup = backup;
  fetched = 0;
  unsaved = false;
  draft = [];
  device = 0 ∷ (0 ∷ (0 ∷ (0 ∷ (0 ∷ []))));
  job = Idle;
  asked = None;
  breaks = 0;
  blocks = 0;
  ended = None;
  standing = Awaited;
  retry = no_retry false;
}

-- What a job asks, and what it becomes by what comes of that

abbrev pub job_asks : StorageJob → Option Set → List (Place × List ℕ) → Option Request
job_asks Idle backup draft = None
job_asks (Check attempt) backup draft = attempt_asks attempt backup draft
job_asks (Block download) backup draft = download_asks download draft

abbrev pub storage_asks : Storage → Option Request
storage_asks s = job_asks s.job s.backup s.draft

-- the standing behind an attempt that is over
-- STO-3, STO-12
abbrev pub standing_without : Bool → StorageStanding
standing_without backup = if backup then Trouble trouble.NoStorage else Served served.Unsupported

abbrev pub settled_standing : StorageStanding → Bool → ℕ → AttemptResult → StorageStanding
settled_standing standing backup tries ended.Unsupported = standing_without backup
settled_standing standing backup tries ended.Locked = Trouble trouble.Locked
settled_standing standing backup tries ended.TooLarge = Trouble trouble.TooLarge
settled_standing standing backup tries ended.BadList = Trouble trouble.BadList
settled_standing standing backup tries (ended.Refused refusal) = Trouble (trouble.Refused refusal)
settled_standing standing backup tries ended.Empty = Served served.Empty
settled_standing standing backup tries ended.Same = Served served.Same
settled_standing standing backup tries ended.Restored = Served served.Restored
settled_standing standing backup tries ended.Fetched = Served served.Fetched
settled_standing standing backup tries ended.Unchanged = standing
settled_standing standing backup tries ended.Transient =
    if is_standing_awaited standing && nat_le 2 tries then Trouble trouble.Attempts else standing

-- STO-12
abbrev pub retry_later : Retry
retry_later = record { tries = 0; pause = 200; due = true }

abbrev pub retry_behind_vain : ℕ → Retry
retry_behind_vain tries = if tries == 0 then record { tries = 1; pause = 8; due = true }
    else if tries == 1 then record { tries = 2; pause = 16; due = true }
    else retry_later

abbrev pub retry_behind : Retry → AttemptResult → Retry
retry_behind retry ended.Transient = retry_behind_vain retry.tries
retry_behind retry other = no_retry retry.due

abbrev pub storage_standing : Storage → AttemptResult → StorageStanding
storage_standing s result = settled_standing s.standing (is_some s.backup) s.retry.tries result

abbrev pub storage_settled : Storage → AttemptResult → Storage
storage_settled s result = record s {
  job = Idle;
  standing = standing_behind s.standing (storage_standing s result);
  retry = if stays_served s.standing (storage_standing s result) then retry_later
      else retry_behind s.retry result;
}

-- the number of the next set, or block
abbrev pub number_behind : ℕ → ℕ
number_behind count = if nat_eq count 18446744073709551615 then 0 else count + 1

-- what was fetched is the kept set
-- STO-8
abbrev pub job_keeping : StorageJob → Storage → Storage
job_keeping (Check attempt) s = record s {
  backup = Some (record {
    checksum = attempt.upload.checksum;
    device = s.device;
    unit = attempt.unit;
    objects = s.draft;
  });
  fetched = number_behind s.fetched;
  draft = [];
  unsaved = true;
}
job_keeping other s = s

abbrev pub storage_keeping : Storage → Storage
storage_keeping s = job_keeping s.job s

abbrev pub check_end : Option AttemptResult → Bool → JobEnd
check_end (Some result) unsaved = job_ends.Check result
check_end None unsaved = if unsaved then job_ends.Fetched else job_ends.GoesOn

abbrev pub block_end : DownloadStage → JobEnd
block_end (Over result) = job_ends.Block result
block_end other = job_ends.GoesOn

abbrev pub job_end : StorageJob → JobEnd
job_end Idle = job_ends.GoesOn
job_end (Check attempt) = check_end (result_of_attempt attempt) (is_unsaved attempt.stage)
job_end (Block download) = block_end download.stage

abbrev pub storage_ended : JobEnd → Storage → Storage
storage_ended job_ends.GoesOn s = s
storage_ended job_ends.Fetched s = storage_keeping s
storage_ended (job_ends.Check result) s = storage_settled s result
storage_ended (job_ends.Block result) s = record s { ended = Some result; job = Idle }

abbrev pub storage_concluded : Storage → Storage
storage_concluded s = storage_ended (job_end s.job) s

abbrev pub job_heard : StorageJob → Storage → Outcome → Storage
job_heard Idle s outcome = s
job_heard (Check attempt) s outcome = record s {
  job = Check (attempt_after attempt s.backup s.draft outcome).0;
  draft = (attempt_after attempt s.backup s.draft outcome).1;
}
job_heard (Block download) s outcome =
    record s { job = Block (download_after download s.draft outcome) }

abbrev download_breaks : DownloadStage → Bool
download_breaks (Breaking result) = true
download_breaks other = false

abbrev upload_breaks : UploadStage → Bool
upload_breaks (upload_stage.Breaking result) = true
upload_breaks other = false

abbrev attempt_breaks : AttemptStage → UploadStage → Bool
attempt_breaks (attempt_stage.Breaking result) upload = true
attempt_breaks (attempt_stage.Restoring stage) upload = download_breaks stage
attempt_breaks attempt_stage.Fetching upload = upload_breaks upload
attempt_breaks other upload = false

-- a job has failed, and the device is told to break it off
abbrev pub is_breaking : StorageJob → Bool
is_breaking Idle = false
is_breaking (Check attempt) = attempt_breaks attempt.stage attempt.upload.stage
is_breaking (Block download) = download_breaks download.stage

abbrev pub is_cut_off : Outcome → Bool
is_cut_off (Unknown cause) = session_lasts cause
is_cut_off other = false

-- a break that was cut off goes out again, up to twenty times in a row
abbrev pub storage_heard : Storage → Outcome → Storage
storage_heard s outcome = if nat_lt s.breaks 20 && is_breaking s.job && is_cut_off outcome
    then record s { asked = None; breaks = s.breaks + 1 }
    else storage_concluded (job_heard s.job (record s { asked = None; breaks = 0 }) outcome)

-- Before a turn, by the page of the session that lasts, if one does

abbrev pub block_left : DownloadStage → DownloadResult
block_left (Asking index) = NotApplied
block_left (Breaking result) = result
block_left (Over result) = result

abbrev pub job_left : StorageJob → Option DownloadResult → Option DownloadResult
job_left (Block download) ended = Some (block_left download.stage)
job_left other ended = ended

-- where none does, no job goes on
abbrev pub storage_left : Storage → Storage
storage_left s = record s {
  ended = job_left s.job s.ended;
  job = Idle;
  standing = Awaited;
  retry = no_retry false;
}

-- VendorID and DeviceID, as the page has them
abbrev pub page_device : List ℕ → List ℕ
page_device page = page_octet page 7 ∷ (page_octet page 8 ∷ (page_octet page 9
    ∷ (page_octet page 10 ∷ (page_octet page 11 ∷ []))))

-- a device of V1.1 with ISDUs
abbrev pub has_storage : List ℕ → Bool
has_storage page = nat_le 17 (page_octet page 4) && knows_isdu page

-- what is said without a request
-- STO-3, STO-4
abbrev pub obstacle_for : Option (List ℕ) → List ℕ → Option StorageStanding
obstacle_for None page = None
obstacle_for (Some device) page =
    if bytes_eq device (page_device page) then None else Some (Trouble trouble.WrongIdentity)

abbrev pub obstacle : StorageMode → Option (List ℕ) → List ℕ → Option StorageStanding
obstacle mode backup page = if is_off mode then Some (Served served.Off)
    else if has_storage page then obstacle_for backup page
    else Some (standing_without (is_some backup))

abbrev pub storage_begins : Storage → List ℕ → AttemptPurpose → Option StorageStanding → Storage
storage_begins s page purpose (Some proposed) = record s {
  standing = standing_behind s.standing proposed;
  retry = if stays_served s.standing proposed then retry_later else s.retry;
}
storage_begins s page purpose None =
    record s { device = page_device page; job = Check (attempt_begun s.mode purpose) }

abbrev pub storage_begun : Storage → List ℕ → AttemptPurpose → Storage
storage_begun s page purpose =
    storage_begins (record s { retry = record s.retry { due = false } }) page purpose
    (obstacle s.mode (option_map (λ set. set.device) s.backup) page)

abbrev pub purpose_due : StorageStanding → Bool → Option AttemptPurpose
purpose_due Awaited due = Some StartUp
purpose_due (Served how) due = if due then Some InService else None
purpose_due (Trouble why) due = if due then Some StartUp else None
purpose_due (Released why) due = if due then Some InService else None

abbrev pub storage_due : Storage → List ℕ → Option AttemptPurpose → Storage
storage_due s page None = s
storage_due s page (Some purpose) = storage_begun s page purpose

abbrev pub storage_looked : Storage → List ℕ → Storage
storage_looked s page = if nat_lt 0 s.retry.pause
    then record s { retry = record s.retry { pause = s.retry.pause - 1 } }
    else storage_due s page (purpose_due s.standing s.retry.due)

abbrev pub storage_observed : Storage → Option (List ℕ) → Storage
storage_observed s None = storage_left s
storage_observed s (Some page) = if has_no_job s.job then storage_looked s page else s

abbrev pub storage_watched : Storage → Option (List ℕ) → Storage
storage_watched s page = if is_some s.asked then s else storage_observed s page

-- Calls

-- the set that was fetched and isn't saved, and its number
abbrev pub set_unsaved : Storage → Option Set
set_unsaved s = if s.unsaved then s.backup else None

abbrev pub number_unsaved : Storage → Option SetNumber
number_unsaved s = option_map (λ set. record { 0 = s.fetched }) (set_unsaved s)

abbrev pub saved_refusal : Storage → SetNumber → Option StoredFault
saved_refusal s number =
    if s.unsaved && number.0 == s.fetched then None else Some fault.OtherSet

-- the job's ticket
abbrev pub ticket_is : Option Ticket → Ticket → Bool
ticket_is None ticket = false
ticket_is (Some own) ticket = same_ticket own ticket

abbrev pub is_own : Storage → Ticket → Bool
is_own s ticket = ticket_is s.asked ticket

-- the event by which a device asks for a check
abbrev pub storage_noticed : Storage → Event → Storage
storage_noticed s event = if event.code == 0xFF91 then record s { retry = no_retry true } else s

abbrev pub storage_behind_event : Storage → Result Event PortFault → Storage
storage_behind_event s (Ok event) = storage_noticed s event
storage_behind_event s (Err why) = s

abbrev pub job_saved : StorageJob → StorageJob
job_saved (Check attempt) = Check (attempt_saved attempt)
job_saved other = other

abbrev pub storage_saved : Storage → Storage
storage_saved s = record s { unsaved = false; job = job_saved s.job }

-- why no block can begin now
abbrev pub block_refusal : Storage → Option StoredFault
block_refusal s = if not (has_no_job s.job) then Some fault.Storing
    else if is_standing_awaited s.standing then Some fault.NoStanding
    else if is_some s.ended then Some fault.Uncollected else None

abbrev pub block_answer_by : Option StoredFault → Result BlockTicket StoredFault
    → Result BlockTicket StoredFault
block_answer_by (Some why) answer = Err why
block_answer_by None answer = answer

abbrev pub block_answer : Storage → List (Place × List ℕ) → Result BlockTicket StoredFault
block_answer s writes = block_answer_by (block_refusal s)
    (if any_owned writes then Err fault.OwnedIndex else Ok (record { 0 = number_behind s.blocks }))

abbrev pub storage_with_block : Storage → List (Place × List ℕ) → Keep → Storage
storage_with_block s writes keep = record s {
  draft = writes;
  job = Block (record { purpose = BlockPurpose keep; stage = Asking 0 });
  blocks = number_behind s.blocks;
}

abbrev pub is_block : StorageJob → Bool
is_block (Block download) = true
is_block other = false

abbrev pub last_collected : Option DownloadResult → Bool → Result DownloadResult StoredFault
last_collected (Some result) runs = Ok result
last_collected None runs = Err (if runs then fault.BlockNotOver else fault.UnknownBlock)

abbrev pub block_collected : Storage → BlockTicket → Result DownloadResult StoredFault
block_collected s block = if block.0 == s.blocks then last_collected s.ended (is_block s.job)
    else Err fault.UnknownBlock

abbrev pub storage_behind_block : Storage → BlockTicket → Storage
storage_behind_block s block = if block.0 == s.blocks then record s { ended = None } else s

-- STO-16
abbrev pub load_refusal : Storage → Option Set → Option StoredFault
load_refusal s backup = if has_no_job s.job
    then (if is_no_set backup then Some fault.OwnedIndex else None) else Some fault.Storing

abbrev pub is_troubled : StorageStanding → Bool
is_troubled (Trouble why) = true
is_troubled (Released why) = true
is_troubled other = false

abbrev pub storage_loaded : Storage → Option Set → Storage
storage_loaded s backup = record s {
  backup = backup;
  unsaved = false;
  standing = if is_troubled s.standing then Awaited else s.standing;
  retry = if is_troubled s.standing then no_retry false else s.retry;
}

abbrev pub standing_released : StorageStanding → StorageStanding
standing_released (Trouble why) = Released why
standing_released other = other

abbrev pub is_check : StorageJob → Bool
is_check (Check attempt) = true
is_check other = false

-- in a check nothing: it may restore the set, and is for a device that isn't served
abbrev pub storage_released : Storage → Storage
storage_released s =
    if is_check s.job then s else record s { standing = standing_released s.standing }

-- Whom it serves

-- JOB-2, STO-14
abbrev pub clients_wait : Storage → Bool
clients_wait s = not (has_no_job s.job) || (is_standing_awaited s.standing && not (is_off s.mode))

abbrev pub serve_of : Option Ticket → Bool → Serve
serve_of (Some ticket) busy = Only ticket
serve_of None busy = if busy then Nobody else All

abbrev pub storage_serves : Storage → Serve
storage_serves s = serve_of s.asked (clients_wait s)

abbrev pub is_unserved : Storage → Bool
is_unserved s = not (is_off s.mode) && not (is_served_standing s.standing)
