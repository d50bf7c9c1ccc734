-- What a reader may conclude of a download, and of an upload, whatever comes of their requests.
use Rattle.std.specs.Prelude.{◌≡◌, ℕ, ◌+◌, Bool, true, false, List, [], ◌∷◌, ◌++◌, map, take, slice_get, Option, Some, None}
use Rattle.iol_isdu.specs.declared.values.Place.{Place}
use Rattle.iol_isdu.specs.declared.values.Request.{Request}
use Rattle.iol_isdu.specs.declared.values.Request.TheVariants.{Read as ReadRequest}
use Rattle.iol_isdu.specs.declared.values.Answer.{Answer}
use Rattle.iol_isdu.specs.declared.values.Answer.TheVariants.{Read, Written}
use Rattle.iol_book.specs.declared.entries.Outcome.{Outcome}
use Rattle.iol_book.specs.declared.entries.Outcome.TheVariants.{Done}
use Rattle.iol_storage.specs.declared.download.DownloadPurpose.{DownloadPurpose}
use Rattle.iol_storage.specs.declared.download.DownloadResult.{DownloadResult}
use Rattle.iol_storage.specs.declared.download.DownloadResult.TheVariants.{Applied}
use Rattle.iol_storage.specs.declared.download.DownloadStage.{DownloadStage}
use Rattle.iol_storage.specs.declared.download.DownloadStage.TheVariants.{Asking, Breaking, Over}
use Rattle.iol_storage.specs.declared.upload.UploadResult.TheVariants.{Whole}
use Rattle.iol_storage.specs.declared.upload.UploadStage.TheVariants.{Starting, Over as UploadOver}
use Rattle.iol_storage.specs.declared.upload.Upload.{Upload}
use Rattle.iol_storage.specs.Uploads.{storage_place, storage_command, is_list, names_more, place_named, upload_asks, upload_after}
use Rattle.iol_storage.specs.Downloads.{download_command, break_command, download_requests, stage_asks, lets_go_on, stage_behind, stage_after}

-- a request that was asked, with what came of it
abbrev pub asked_with : Option Request → Outcome → List (Request × Outcome)
asked_with None outcome = []
asked_with (Some request) outcome = (request, outcome) ∷ []

-- one download, from a stage on, by what comes of each request that it asks
module _ (purpose : DownloadPurpose) (objects : List (Place × List ℕ)) where
  abbrev pub stage_behind_all : DownloadStage → List Outcome → DownloadStage
  stage_behind_all stage [] = stage
  stage_behind_all stage (outcome ∷ outcomes) =
      stage_behind_all (stage_after purpose objects stage outcome) outcomes

  abbrev pub all_asked : DownloadStage → List Outcome → List (Request × Outcome)
  all_asked stage [] = []
  all_asked stage (outcome ∷ outcomes) = asked_with (stage_asks purpose stage objects) outcome
      ++ all_asked (stage_after purpose objects stage outcome) outcomes

-- these requests were asked, from this index on, in order, each once, and the device's answer to
-- each let the download go on
abbrev pub AreTaken : DownloadPurpose → ℕ → List Request → List (Request × Outcome) → Type 0
AreTaken purpose index [] asked = asked ≡ []
AreTaken purpose index (request ∷ requests) [] = ⊥
AreTaken purpose index (request ∷ requests) (first ∷ asked) =
    (first.0 ≡ request)
    × ((answer : Answer) × (first.1 ≡ Done answer) × (lets_go_on purpose index answer ≡ true))
    × AreTaken purpose (index + 1) requests asked

-- Applied means that each request of the download was taken, each once, in order, and that nothing
-- else was asked
abbrev pub AppliedIsWhole : Type 0
AppliedIsWhole =
    (purpose : DownloadPurpose) (objects : List (Place × List ℕ)) (outcomes : List Outcome)
    → stage_behind_all purpose objects (Asking 0) outcomes ≡ Over Applied
    → AreTaken purpose 0 (download_requests purpose objects)
    (all_asked purpose objects (Asking 0) outcomes)

-- the result of a stage, if it has one
abbrev pub stage_result : DownloadStage → Option DownloadResult
stage_result (Asking index) = None
stage_result (Breaking result) = Some result
stage_result (Over result) = Some result

-- only a break was asked, if anything was
abbrev pub AreBreaks : DownloadPurpose → List (Request × Outcome) → Type 0
AreBreaks purpose [] = Unit {0}
AreBreaks purpose (first ∷ asked) =
    (first.0 ≡ download_command purpose (break_command purpose)) × (asked ≡ [])

-- from this index on some of these requests were taken, and the one behind them wasn't: what came
-- of it gives the result. So the end was never taken
pub record IsDownloadCut (purpose : DownloadPurpose) (objects : List (Place × List ℕ)) (index : ℕ)
    (requests : List Request) (asked : List (Request × Outcome)) (result : DownloadResult) :
    Type 0 where
  pub count : ℕ
  pub before : List (Request × Outcome)
  pub taken : AreTaken purpose index (take count requests) before
  pub request : Request
  pub is_next : slice_get requests count ≡ Some request
  pub outcome : Outcome
  pub brings : stage_result (stage_behind purpose objects (index + count) outcome) ≡ Some result
  pub breaks : List (Request × Outcome)
  pub are_breaks : AreBreaks purpose breaks
  pub is : asked ≡ before ++ (request, outcome) ∷ breaks

abbrev pub is_applied : DownloadResult → Bool
is_applied Applied = true
is_applied other = false

-- any other result means that the download was cut off
abbrev pub OthersAreCutOff : Type 0
OthersAreCutOff =
    (purpose : DownloadPurpose) (objects : List (Place × List ℕ)) (outcomes : List Outcome)
    (result : DownloadResult) → is_applied result ≡ false
    → stage_result (stage_behind_all purpose objects (Asking 0) outcomes) ≡ Some result
    → IsDownloadCut purpose objects 0 (download_requests purpose objects)
    (all_asked purpose objects (Asking 0) outcomes) result

-- An upload, by what comes of each request that it asks: what it becomes, with its objects

abbrev pub upload_behind_all : Upload → List (Place × List ℕ) → List Outcome
    → Upload × List (Place × List ℕ)
upload_behind_all upload objects [] = (upload, objects)
upload_behind_all upload objects (outcome ∷ outcomes) =
    upload_behind_all (upload_after upload objects outcome).0
    (upload_after upload objects outcome).1 outcomes

abbrev pub upload_asked : Upload → List (Place × List ℕ) → List Outcome
    → List (Request × Outcome)
upload_asked upload objects [] = []
upload_asked upload objects (outcome ∷ outcomes) =
    asked_with (upload_asks upload objects) outcome
    ++ upload_asked (upload_after upload objects outcome).0
    (upload_after upload objects outcome).1 outcomes

abbrev pub upload_begun : List ℕ → Upload
upload_begun checksum =
    record { checksum = checksum; list = record { items = [] }; stage = Starting }

-- a read of this place, done with these octets
abbrev pub read_done : Place × List ℕ → Request × Outcome
read_done object = (ReadRequest object.0, Done (Read (record { items = object.1 })))

-- these are the values that the list names from a count on: all of them, each once, in order
abbrev pub AreNamed : List ℕ → ℕ → List (Place × List ℕ) → Type 0
AreNamed list count [] = names_more list count ≡ false
AreNamed list count (object ∷ objects) = (names_more list count ≡ true)
    × (object.0 ≡ place_named list count) × AreNamed list (count + 1) objects

-- objects are a whole set: behind the start of an upload the device's list was read, then each
-- value that it names, each once, in order, and then the checksum. Nothing else was asked
pub record IsWholeSet (checksum : List ℕ) (objects : List (Place × List ℕ))
    (asked : List (Request × Outcome)) :
    Type 0 where
  pub list : List ℕ
  pub is_one : is_list list ≡ true
  pub named : AreNamed list 0 objects
  pub is : asked ≡ (storage_command 1, Done Written) ∷ (read_done (storage_place 5, list)
      ∷ (map read_done objects ++ read_done (storage_place 4, checksum) ∷ []))

abbrev pub SetsAreWhole : Type 0
SetsAreWhole =
    (checksum : List ℕ) (objects : List (Place × List ℕ)) (outcomes : List Outcome)
    → (upload_behind_all (upload_begun checksum) objects outcomes).0.stage ≡ UploadOver Whole
    → IsWholeSet checksum (upload_behind_all (upload_begun checksum) objects outcomes).1
    (upload_asked (upload_begun checksum) objects outcomes)
