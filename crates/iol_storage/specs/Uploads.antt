-- An upload: what it asks, and what it becomes by what comes of that.
use Rattle.std.specs.Prelude.{ℕ, ◌+◌, ◌*◌, ◌-◌, ◌%◌, ◌==◌, Bool, ◌&&◌, nat_le, if◌then◌else◌, List, [], ◌∷◌, ◌++◌, length, slice_index, bytes_eq, Option, Some, None}
use Rattle.iol_isdu.specs.declared.values.Place.{Place}
use Rattle.iol_isdu.specs.declared.values.Request.{Request}
use Rattle.iol_isdu.specs.declared.values.Request.TheVariants as request
use Rattle.iol_isdu.specs.declared.values.Answer.TheVariants as answer
use Rattle.iol_book.specs.declared.entries.Outcome.{Outcome}
use Rattle.iol_book.specs.declared.entries.Outcome.TheVariants as outcome
use Rattle.iol_storage.specs.declared.upload.UploadResult.{UploadResult}
use Rattle.iol_storage.specs.declared.upload.UploadResult.TheVariants as result
use Rattle.iol_storage.specs.declared.upload.UploadStage.{UploadStage}
use Rattle.iol_storage.specs.declared.upload.UploadStage.TheVariants.{Starting, Listing, Reading, Breaking, Over}
use Rattle.iol_storage.specs.declared.upload.Upload.{Upload}
use Rattle.iol_storage.specs.Objects.{fits_behind, is_command_place}
use Rattle.iol_storage.specs.Downloads.{session_lasts}

-- What it asks

abbrev pub storage_place : ℕ → Place
storage_place sub = record { index = 3; sub = sub }

abbrev pub storage_command : ℕ → Request
storage_command octet = request.Write (storage_place 1) (record { items = octet ∷ [] })

-- an Index_List has three octets of each place, and an Index 0 behind them
abbrev pub is_list : List ℕ → Bool
is_list list = ((length list % 3) == 2)
    && ((slice_index list (length list - 2) == 0) && (slice_index list (length list - 1) == 0))

-- whether it names a value behind so many, and the place of that
abbrev pub names_more : List ℕ → ℕ → Bool
names_more list count = nat_le (count * 3 + 3) (length list)

abbrev pub place_named : List ℕ → ℕ → Place
place_named list count = record {
  index = 256 * slice_index list (count * 3) + slice_index list (count * 3 + 1);
  sub = slice_index list (count * 3 + 2);
}

-- what is read once so many values were: the next one, and behind the last the checksum
abbrev pub place_read : List ℕ → ℕ → Place
place_read list count = if names_more list count then place_named list count else storage_place 4

abbrev pub upload_stage_asks : UploadStage → List ℕ → ℕ → Option Request
upload_stage_asks Starting list count = Some (storage_command 1)
upload_stage_asks Listing list count = Some (request.Read (storage_place 5))
upload_stage_asks Reading list count = Some (request.Read (place_read list count))
upload_stage_asks (Breaking result) list count = Some (storage_command 5)
upload_stage_asks (Over result) list count = None

-- STO-7
abbrev pub upload_asks : Upload → List (Place × List ℕ) → Option Request
upload_asks upload objects = upload_stage_asks upload.stage upload.list.items (length objects)

abbrev pub stage_place : UploadStage → List ℕ → ℕ → Place
stage_place Listing list count = storage_place 5
stage_place Reading list count = place_read list count
stage_place other list count = storage_place 1

abbrev pub upload_place : Upload → List (Place × List ℕ) → Place
upload_place upload objects = stage_place upload.stage upload.list.items (length objects)

-- What it becomes

abbrev pub stage_listed : List ℕ → UploadStage
stage_listed octets = if is_list octets then Reading else Breaking result.BadList

abbrev pub list_taken : List ℕ → List ℕ → List ℕ
list_taken list octets = if is_list octets then octets else list

abbrev pub objects_listed : List (Place × List ℕ) → List ℕ → List (Place × List ℕ)
objects_listed objects octets = if is_list octets then [] else objects

abbrev pub behind_checksum : List ℕ → List ℕ → UploadStage
behind_checksum checksum octets =
    if bytes_eq octets checksum then Over result.Whole else Breaking result.Changed

-- a value at this place, where commands are written, is none of a set
abbrev pub stage_with : List (Place × List ℕ) → Place → List ℕ → UploadStage
stage_with objects place octets = if is_command_place place then Breaking result.BadList
    else if fits_behind objects octets then Reading else Breaking result.TooLarge

abbrev pub objects_with : List (Place × List ℕ) → Place → List ℕ → List (Place × List ℕ)
objects_with objects place octets = if is_command_place place then objects
    else if fits_behind objects octets then objects ++ (place, octets) ∷ [] else objects

abbrev pub stage_read : Upload → List (Place × List ℕ) → List ℕ → UploadStage
stage_read upload objects octets = if names_more upload.list.items (length objects)
    then stage_with objects (place_named upload.list.items (length objects)) octets
    else behind_checksum upload.checksum octets

abbrev pub objects_read : Upload → List (Place × List ℕ) → List ℕ → List (Place × List ℕ)
objects_read upload objects octets = if names_more upload.list.items (length objects)
    then objects_with objects (place_named upload.list.items (length objects)) octets
    else objects

-- a start that is refused begins nothing
abbrev pub behind_refused : UploadStage → UploadResult → UploadStage
behind_refused Starting result = Over result
behind_refused other result = Breaking result

-- JOB-3
abbrev pub behind_other : UploadStage → Place → Outcome → UploadStage
behind_other stage place (outcome.Done (answer.Refused error additional)) =
    behind_refused stage (result.Refused
    (record { place = place; error = error; additional = additional }))
behind_other stage place (outcome.Done other) = Breaking result.CutOff
behind_other stage place (outcome.Unknown cause) =
    if session_lasts cause then Breaking result.CutOff else Over result.CutOff
behind_other stage place outcome.Withdrawn = Over result.CutOff
behind_other stage place outcome.NoIsdu = Over result.CutOff

abbrev pub with_stage : Upload → UploadStage → Upload
with_stage upload stage = record upload { stage = stage }

-- by the stage, what is left of the upload and of its objects
abbrev pub behind_start : Upload → List (Place × List ℕ) → Outcome
    → Upload × List (Place × List ℕ)
behind_start upload objects (outcome.Done answer.Written) = (with_stage upload Listing, objects)
behind_start upload objects other =
    (with_stage upload (behind_other Starting (storage_place 1) other), objects)

abbrev pub behind_list : Upload → List (Place × List ℕ) → Outcome
    → Upload × List (Place × List ℕ)
behind_list upload objects (outcome.Done (answer.Read octets)) = (
  record upload {
    list = record { items = list_taken upload.list.items octets.items };
    stage = stage_listed octets.items;
  },
  objects_listed objects octets.items,
)
behind_list upload objects other =
    (with_stage upload (behind_other Listing (storage_place 5) other), objects)

abbrev pub behind_read : Upload → List (Place × List ℕ) → Outcome
    → Upload × List (Place × List ℕ)
behind_read upload objects (outcome.Done (answer.Read octets)) = (
  with_stage upload (stage_read upload objects octets.items),
  objects_read upload objects octets.items,
)
behind_read upload objects other = (
  with_stage upload (behind_other Reading
      (place_read upload.list.items (length objects)) other),
  objects,
)

abbrev pub behind_upload : UploadStage → Upload → List (Place × List ℕ) → Outcome
    → Upload × List (Place × List ℕ)
behind_upload Starting upload objects outcome = behind_start upload objects outcome
behind_upload Listing upload objects outcome = behind_list upload objects outcome
behind_upload Reading upload objects outcome = behind_read upload objects outcome
behind_upload (Breaking result) upload objects outcome = (with_stage upload (Over result), objects)
behind_upload (Over result) upload objects outcome = (with_stage upload (Over result), objects)

abbrev pub upload_after : Upload → List (Place × List ℕ) → Outcome
    → Upload × List (Place × List ℕ)
upload_after upload objects outcome = behind_upload upload.stage upload objects outcome
