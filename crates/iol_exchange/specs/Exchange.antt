-- Both ends of Data Storage: a job of a master, each request of which a device carries out.
use Rattle.std.specs.Prelude.{◌≡◌, ◌<◌, ◌+◌, ℕ, zero, suc, Bool, true, false, not, List, [], length, Option, Some, None}
use Rattle.iol_isdu.specs.declared.values.Place.{Place}
use Rattle.iol_isdu.specs.declared.values.Request.{Request}
use Rattle.iol_book.specs.declared.entries.Outcome.TheVariants.{Done}
use Rattle.iol_params.specs.Table.{ParamTable, table_fault}
use Rattle.iol_params.specs.State.{ParamState, is_at_rest}
use Rattle.iol_params.specs.Storage.{checksum_over, four_octets}
use Rattle.iol_params.specs.Requests.{request_result}
use Rattle.iol_params.specs.Laws.{IsConsistent, set_of}
use Rattle.iol_storage.specs.declared.download.Flag.{Flag}
use Rattle.iol_storage.specs.declared.download.Flag.TheVariants.{Ignored, Counts}
use Rattle.iol_storage.specs.declared.download.DownloadPurpose.{DownloadPurpose}
use Rattle.iol_storage.specs.declared.download.DownloadPurpose.TheVariants.{Restore}
use Rattle.iol_storage.specs.declared.download.DownloadResult.TheVariants.{Applied}
use Rattle.iol_storage.specs.declared.download.DownloadStage.{DownloadStage}
use Rattle.iol_storage.specs.declared.download.DownloadStage.TheVariants.{Asking, Over}
use Rattle.iol_storage.specs.declared.upload.UploadResult.TheVariants.{Whole}
use Rattle.iol_storage.specs.declared.upload.UploadStage.TheVariants.{Over as UploadOver}
use Rattle.iol_storage.specs.declared.upload.Upload.{Upload}
use Rattle.iol_storage.specs.Downloads.{download_requests, stage_asks, stage_after}
use Rattle.iol_storage.specs.Uploads.{upload_asks, upload_after}
use Rattle.iol_storage.specs.Laws.{upload_begun}

-- A restore at a device

module _ (table : ParamTable) (purpose : DownloadPurpose) (objects : List (Place × List ℕ)) where
  -- a download's stage and the device's state behind what is asked, if anything is: the device
  -- carries it out, and the download hears the answer
  abbrev pub download_exchange : DownloadStage → ParamState → Option Request
      → DownloadStage × ParamState
  download_exchange stage s None = (stage, s)
  download_exchange stage s (Some request) = (
    stage_after purpose objects stage (Done (request_result table s request).0),
    (request_result table s request).1,
  )

  -- both behind so many requests, with nothing between them
  abbrev pub download_at_device : DownloadStage → ParamState → ℕ → DownloadStage × ParamState
  download_at_device stage s zero = (stage, s)
  download_at_device stage s (suc count) =
      let next = download_exchange stage s (stage_asks purpose stage objects) in
      download_at_device next.0 next.1 count

-- whether a restore goes on at a device, by its flag
abbrev pub flag_lets : Flag → ParamState → Bool
flag_lets Ignored s = true
flag_lets Counts s = not s.flag

-- once the restore is over, one device's set is in force at another, without an activity or a flag
pub record IsInForce (table : ParamTable) (from : ParamState)
    (over : DownloadStage × ParamState) : Type 0 where
  pub applied : over.0 ≡ Over Applied
  pub same : set_of table over.1 ≡ set_of table from
  pub checksum : checksum_over table over.1 ≡ checksum_over table from
  pub rests : is_at_rest over.1.activity ≡ true
  pub clear : over.1.flag ≡ false

-- a device that a set can be restored to
pub record CanRestore (table : ParamTable) (flag : Flag) (to : ParamState) : Type 0 where
  pub consistent : IsConsistent table to
  pub rests : is_at_rest to.activity ≡ true
  pub parameters_open : to.locks.parameters ≡ false
  pub storage_open : to.locks.storage ≡ false
  pub allowed : flag_lets flag to ≡ true

-- each request of a restore is taken, and with the last one the set is in force
abbrev pub RestoredSetsAreInForce : Type 0
RestoredSetsAreInForce = (table : ParamTable) (from to : ParamState) (flag : Flag)
    → table_fault table.members table.rules ≡ None
    → IsConsistent table from → CanRestore table flag to
    → let set = set_of table from in
    let count = length (download_requests (Restore flag) set) in
    ((before : ℕ) → before < count
    → (download_at_device table (Restore flag) set (Asking 0) to before).0 ≡ Asking before)
    × IsInForce table from
    (download_at_device table (Restore flag) set (Asking 0) to count)

-- A fetch at a device

module _ (table : ParamTable) where
  -- an upload with its objects, and the device's state, behind what is asked
  abbrev pub upload_exchange : Upload × List (Place × List ℕ) → ParamState → Option Request
      → (Upload × List (Place × List ℕ)) × ParamState
  upload_exchange job s None = (job, s)
  upload_exchange job s (Some request) = (
    upload_after job.0 job.1 (Done (request_result table s request).0),
    (request_result table s request).1,
  )

  -- both behind so many requests, with nothing between them
  abbrev pub upload_at_device : Upload × List (Place × List ℕ) → ParamState → ℕ
      → (Upload × List (Place × List ℕ)) × ParamState
  upload_at_device job s zero = (job, s)
  upload_at_device job s (suc count) =
      let next = upload_exchange job s (upload_asks job.0 job.1) in
      upload_at_device next.0 next.1 count

  -- a fetch for the device's checksum behind its start, Index_List, each value and the checksum
  abbrev pub fetch_of : ParamState → (Upload × List (Place × List ℕ)) × ParamState
  fetch_of s = upload_at_device (upload_begun (four_octets (checksum_over table s)), []) s
      (3 + length (set_of table s))

-- the fetch brings the device's set, whole, and nothing changes there
pub record IsFetched (table : ParamTable) (s : ParamState)
    (over : (Upload × List (Place × List ℕ)) × ParamState) : Type 0 where
  pub whole : over.0.0.stage ≡ UploadOver Whole
  pub set : over.0.1 ≡ set_of table s
  pub values : over.1.values ≡ s.values
  pub flag : over.1.flag ≡ s.flag

-- a device that a set can be fetched of
pub record CanFetch (table : ParamTable) (from : ParamState) : Type 0 where
  pub consistent : IsConsistent table from
  pub rests : is_at_rest from.activity ≡ true
  pub storage_open : from.locks.storage ≡ false

abbrev pub FetchedSetsAreTheDevices : Type 0
FetchedSetsAreTheDevices = (table : ParamTable) (from : ParamState)
    → table_fault table.members table.rules ≡ None → CanFetch table from
    → IsFetched table from (fetch_of table from)

-- what was read of one device is in force at another, once it is restored there
abbrev pub SetsMove : Type 0
SetsMove = (table : ParamTable) (from to : ParamState) (flag : Flag)
    → table_fault table.members table.rules ≡ None
    → CanFetch table from → CanRestore table flag to
    → let set = (fetch_of table from).0.1 in
    let count = length (download_requests (Restore flag) set) in
    ((fetch_of table from).0.0.stage ≡ UploadOver Whole)
    × IsInForce table from
    (download_at_device table (Restore flag) set (Asking 0) to count)
