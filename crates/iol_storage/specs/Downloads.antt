-- A download: what it asks, and what it becomes by what comes of that.
use Rattle.std.specs.Prelude.{ℕ, ◌+◌, ◌==◌, Bool, true, false, ◌&&◌, ◌||◌, not, nat_lt, if◌then◌else◌, List, [], ◌∷◌, ◌++◌, length, map, slice_get, Option, Some, None}
use Rattle.iol_isdu.specs.declared.values.Place.{Place}
use Rattle.iol_isdu.specs.declared.values.Request.{Request}
use Rattle.iol_isdu.specs.declared.values.Request.TheVariants as request
use Rattle.iol_isdu.specs.declared.values.Answer.{Answer}
use Rattle.iol_isdu.specs.declared.values.Answer.TheVariants as answer
use Rattle.iol_isdu.specs.declared.values.Cause.{Cause}
use Rattle.iol_isdu.specs.declared.values.Cause.TheVariants as cause
use Rattle.iol_book.specs.declared.entries.Outcome.{Outcome}
use Rattle.iol_book.specs.declared.entries.Outcome.TheVariants as outcome
use Rattle.iol_storage.specs.declared.download.Keep.TheVariants as keep
use Rattle.iol_storage.specs.declared.download.Flag.{Flag}
use Rattle.iol_storage.specs.declared.download.Flag.TheVariants.{Ignored, Counts}
use Rattle.iol_storage.specs.declared.download.DownloadPurpose.{DownloadPurpose}
use Rattle.iol_storage.specs.declared.download.DownloadPurpose.TheVariants.{Block, Restore}
use Rattle.iol_storage.specs.declared.download.Refusal.{Refusal}
use Rattle.iol_storage.specs.declared.download.DownloadResult.TheVariants as result
use Rattle.iol_storage.specs.declared.download.DownloadStage.{DownloadStage}
use Rattle.iol_storage.specs.declared.download.DownloadStage.TheVariants.{Asking, Breaking, Over}
use Rattle.iol_storage.specs.declared.download.Download.{Download}

-- What it asks

abbrev pub command_place : DownloadPurpose → Place
command_place (Block keep) = record { index = 2; sub = 0 }
command_place (Restore flag) = record { index = 3; sub = 1 }

abbrev pub download_command : DownloadPurpose → ℕ → Request
download_command purpose octet =
    request.Write (command_place purpose) (record { items = octet ∷ [] })

abbrev pub end_command : DownloadPurpose → ℕ
end_command (Block keep.No) = 4
end_command (Block keep.Yes) = 5
end_command (Restore flag) = 4

abbrev pub break_command : DownloadPurpose → ℕ
break_command (Block keep) = 6
break_command (Restore flag) = 5

-- before the writes: the start, and for a restore the device's state
abbrev pub start_requests : DownloadPurpose → List Request
start_requests (Block keep) = download_command (Block keep) 3 ∷ []
start_requests (Restore flag) =
    download_command (Restore flag) 3 ∷ (request.Read (record { index = 3; sub = 2 }) ∷ [])

abbrev pub object_write : Place × List ℕ → Request
object_write object = request.Write object.0 (record { items = object.1 })

-- all of them, each once, in order
-- JOB-4, STO-10
abbrev pub download_requests : DownloadPurpose → List (Place × List ℕ) → List Request
download_requests purpose objects = start_requests purpose
    ++ (map object_write objects ++ download_command purpose (end_command purpose) ∷ [])

abbrev pub stage_asks : DownloadPurpose → DownloadStage → List (Place × List ℕ) → Option Request
stage_asks purpose (Asking taken) objects = slice_get (download_requests purpose objects) taken
stage_asks purpose (Breaking result) objects =
    Some (download_command purpose (break_command purpose))
stage_asks purpose (Over result) objects = None

abbrev pub download_asks : Download → List (Place × List ℕ) → Option Request
download_asks download objects = stage_asks download.purpose download.stage objects

-- the place of one of its requests
abbrev pub request_place : Request → Place
request_place (request.Read place) = place
request_place (request.Write place octets) = place

abbrev pub place_or : Place → Option Request → Place
place_or other None = other
place_or other (Some asked) = request_place asked

abbrev pub place_asked : DownloadPurpose → List (Place × List ℕ) → ℕ → Place
place_asked purpose objects index =
    place_or (command_place purpose) (slice_get (download_requests purpose objects) index)

-- What lets it go on

-- the request that reads the device's state
abbrev pub is_look : DownloadPurpose → ℕ → Bool
is_look (Block keep) index = false
is_look (Restore flag) index = index == 1

abbrev pub purpose_flag : DownloadPurpose → Flag
purpose_flag (Block keep) = Ignored
purpose_flag (Restore flag) = flag

-- a flag that counts is bit 7 of the one octet
abbrev pub flag_allows : Flag → List ℕ → Bool
flag_allows Ignored state = true
flag_allows Counts [] = false
flag_allows Counts (octet ∷ []) = nat_lt octet 128
flag_allows Counts (octet ∷ (other ∷ more)) = false

abbrev pub lets_go_on : DownloadPurpose → ℕ → Answer → Bool
lets_go_on purpose index answer.Written = not (is_look purpose index)
lets_go_on purpose index (answer.Read octets) =
    is_look purpose index && flag_allows (purpose_flag purpose) octets.items
lets_go_on purpose index (answer.Refused error additional) = false

-- What it becomes

abbrev pub behind_taken : ℕ → ℕ → DownloadStage
behind_taken index last = if nat_lt index last then Asking (index + 1) else Over result.Applied

-- a start that is refused begins nothing, and an end ends all
abbrev pub behind_refusal : ℕ → ℕ → Refusal → DownloadStage
behind_refusal index last refusal = if (index == 0) || (index == last)
    then Over (result.Refused refusal) else Breaking (result.Refused refusal)

-- whether the session goes on behind this
abbrev pub session_lasts : Cause → Bool
session_lasts cause.LinkLost = false
session_lasts cause.Restarted = false
session_lasts cause.BusyTooLong = true
session_lasts cause.Protocol = true
session_lasts cause.Cancelled = true

-- JOB-3
abbrev pub behind_cut : ℕ → ℕ → Cause → DownloadStage
behind_cut index last cause =
    let cut = if index == last then result.Unknown cause else result.NotApplied in
    if session_lasts cause then Breaking cut else Over cut

-- behind an answer that doesn't let it go on
abbrev pub behind_answer : DownloadPurpose → ℕ → ℕ → Place → Answer → DownloadStage
behind_answer purpose index last place (answer.Refused error additional) =
    behind_refusal index last
    (record { place = place; error = error; additional = additional })
behind_answer purpose index last place other =
    if is_look purpose index then Breaking result.FlagSet
    else behind_cut index last cause.Protocol

abbrev pub behind_outcome : DownloadPurpose → ℕ → ℕ → Place → Outcome → DownloadStage
behind_outcome purpose index last place (outcome.Done answer) =
    if lets_go_on purpose index answer then behind_taken index last
    else behind_answer purpose index last place answer
behind_outcome purpose index last place (outcome.Unknown cause) = behind_cut index last cause
behind_outcome purpose index last place outcome.Withdrawn = Over result.NotApplied
behind_outcome purpose index last place outcome.NoIsdu =
    if index == 0 then Over result.NoIsdu else Over result.NotApplied

abbrev pub stage_behind : DownloadPurpose → List (Place × List ℕ) → ℕ → Outcome → DownloadStage
stage_behind purpose objects index outcome =
    behind_outcome purpose index (length (start_requests purpose) + length objects)
    (place_asked purpose objects index) outcome

abbrev pub stage_after : DownloadPurpose → List (Place × List ℕ) → DownloadStage → Outcome
    → DownloadStage
stage_after purpose objects (Asking index) outcome = stage_behind purpose objects index outcome
stage_after purpose objects (Breaking result) outcome = Over result
stage_after purpose objects (Over result) outcome = Over result

abbrev pub download_after : Download → List (Place × List ℕ) → Outcome → Download
download_after download objects outcome = record download {
  stage = stage_after download.purpose objects download.stage outcome;
}
