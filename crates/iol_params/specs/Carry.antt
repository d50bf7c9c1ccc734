-- What a manager answers, and what it becomes.
use Rattle.std.specs.Prelude.{ℕ, Bool, true, false, ◌&&◌, ◌||◌, not, nat_lt, if◌then◌else◌, List, [], ◌∷◌, length, Option, Some, None}
use Rattle.std.specs.List.{list_any}
use Rattle.iol_isdu.specs.declared.values.Place.{Place}
use Rattle.iol_params.specs.declared.error_type.ErrorType.{ErrorType}
use Rattle.iol_params.specs.declared.error_type.ErrorType.TheVariants.{IndexNotAvailable, SubindexNotAvailable, AccessDenied, ValueOutOfRange, TooLong, TooShort, FunctionUnavailable, InvalidSet, InconsistentSet}
use Rattle.iol_params.specs.declared.member.Member.{Member}
use Rattle.iol_params.specs.declared.table.OrderRule.{OrderRule}
use Rattle.iol_params.specs.declared.state.Scope.{Scope}
use Rattle.iol_params.specs.declared.state.Scope.TheVariants.{Block, Storage}
use Rattle.iol_params.specs.declared.state.WritesSoFar.TheVariants.{AllTaken, OneRefused}
use Rattle.iol_params.specs.declared.state.Activity.{Activity}
use Rattle.iol_params.specs.declared.state.Activity.TheVariants.{Idle, Upload, Download, CutOff}
use Rattle.iol_params.specs.declared.state.Command.{Command}
use Rattle.iol_params.specs.declared.state.Command.TheVariants.{UploadStart, UploadEnd, DownloadStart, DownloadEnd, DownloadStore, Break, ApplicationReset, FactoryReset, DeviceReset, BackToBox}
use Rattle.iol_params.specs.declared.state.Restart.TheVariants.{Warm, Silent}
use Rattle.iol_params.specs.Members.{selects}
use Rattle.iol_params.specs.Values.{most_at, least_at, fits_place, overlay, holds_rule, is_writable, is_stored, reset_values}
use Rattle.iol_params.specs.Table.{ParamTable, is_of_index}
use Rattle.iol_params.specs.State.{ParamState, is_at_rest, is_uploading, takes_writes, is_foreign, after_end, with_flag_cleared, with_flag_set, no_locks}

-- whether each order rule holds
-- PAR-6
abbrev pub rules_hold : List Member → List OrderRule → List (List ℕ) → Bool
rules_hold members [] values = true
rules_hold members (rule ∷ rules) values =
    holds_rule members values rule && rules_hold members rules values

abbrev pub is_consistent : ParamTable → List (List ℕ) → Bool
is_consistent table values = rules_hold table.members table.rules values

-- the first refusal of two, if any
abbrev pub first_refusal : Option ErrorType → Option ErrorType → Option ErrorType
first_refusal (Some why) other = Some why
first_refusal None other = other

-- why there is nothing at a place
-- PAR-4
abbrev pub place_refusal : List Member → Place → Option ErrorType
place_refusal members place =
    if not (list_any (is_of_index place.index) members) then Some IndexNotAvailable else
    if not (list_any (selects place) members) then Some SubindexNotAvailable else None

-- why octets are no value of a place
abbrev pub content_refusal : List Member → Place → List ℕ → Option ErrorType
content_refusal members place octets =
    if nat_lt (most_at members place) (length octets) then Some TooLong else
    if nat_lt (length octets) (least_at members place) then Some TooShort else
    if not (fits_place members place octets) then Some ValueOutOfRange else None

abbrev pub is_read_only_at : Place → Member → Bool
is_read_only_at place member = selects place member && not (is_writable member.access)

-- why the master may not write there now
-- PAR-4
abbrev pub access_refusal : ParamTable → ParamState → Place → Option ErrorType
access_refusal table s place =
    if s.locks.parameters || list_any (is_read_only_at place) table.members then Some AccessDenied
    else if not (takes_writes s.activity) then Some FunctionUnavailable else None

-- why a write alone can't stand: it would break an order rule. In a download its end asks
-- PAR-6
abbrev pub alone_refusal : ParamTable → ParamState → Place → List ℕ → Option ErrorType
alone_refusal table s place octets =
    if is_at_rest s.activity && not (is_consistent table
    (overlay table.members s.values place octets))
    then Some InvalidSet else None

abbrev pub write_refusal : ParamTable → ParamState → Place → List ℕ → Option ErrorType
write_refusal table s place octets =
    first_refusal (place_refusal table.members place)
    (first_refusal (access_refusal table s place)
    (first_refusal (content_refusal table.members place octets)
    (alone_refusal table s place octets)))

-- the values that a write that is taken changes: the copy's in a download
-- ACT-2
abbrev pub with_write : Activity → ParamTable → ParamState → Place → List ℕ → ParamState
with_write Idle table s place octets =
    record s { values = overlay table.members s.values place octets }
with_write (Upload scope) table s place octets = s
with_write CutOff table s place octets = s
with_write (Download scope writes) table s place octets =
    record s { copy = overlay table.members s.copy place octets }

-- a block with a hole is none
-- ACT-3
abbrev pub after_refused_write : Activity → Activity
after_refused_write Idle = Idle
after_refused_write (Upload scope) = Upload scope
after_refused_write (Download scope writes) = Download scope OneRefused
after_refused_write CutOff = CutOff

-- a write's ErrorType, none if it is Written, and the state then
abbrev pub write_settled : Option ErrorType → ParamTable → ParamState → Place → List ℕ
    → Option ErrorType × ParamState
write_settled None table s place octets = (None, with_write s.activity table s place octets)
write_settled (Some why) table s place octets =
    (Some why, record s { activity = after_refused_write s.activity })

abbrev pub write : ParamTable → ParamState → Place → List ℕ → Option ErrorType × ParamState
write table s place octets =
    write_settled (write_refusal table s place octets) table s place octets

-- why the device may not change a value now: an activity would have a hole, or it is locked
-- ACT-4, PAR-7
abbrev pub local_access_refusal : ParamState → Option ErrorType
local_access_refusal s =
    if s.locks.local then Some AccessDenied else
    if not (is_at_rest s.activity) then Some FunctionUnavailable else None

abbrev pub local_refusal : ParamTable → ParamState → Place → List ℕ → Option ErrorType
local_refusal table s place octets =
    first_refusal (place_refusal table.members place)
    (first_refusal (local_access_refusal s)
    (first_refusal (content_refusal table.members place octets)
    (alone_refusal table s place octets)))

abbrev pub is_stored_at : Place → Member → Bool
is_stored_at place member = selects place member && is_stored member.access

abbrev pub with_flag_if : Bool → ParamState → ParamState
with_flag_if true s = with_flag_set s
with_flag_if false s = s

-- Data Storage is asked to keep what is new, if it keeps such a value
-- DSD-5
abbrev pub local_settled : Option ErrorType → ParamTable → ParamState → Place → List ℕ
    → Option ErrorType × ParamState
local_settled (Some why) table s place octets = (Some why, s)
local_settled None table s place octets = (
  None,
  with_flag_if (list_any (is_stored_at place) table.members)
      (record s { values = overlay table.members s.values place octets }),
)

-- a change at the device itself
-- ACT-4
abbrev pub local_change : ParamTable → ParamState → Place → List ℕ → Option ErrorType × ParamState
local_change table s place octets =
    local_settled (local_refusal table s place octets) table s place octets

-- the end of a download, by what is under way and whether its copy breaks no order rule. This is
-- what follows if it is applied
-- ACT-3, ACT-6
abbrev pub download_settled : Activity → Bool → ParamState → (ParamState → ParamState)
    → Option ErrorType × ParamState
download_settled Idle consistent s applied = (Some FunctionUnavailable, s)
download_settled (Upload scope) consistent s applied = (Some FunctionUnavailable, s)
download_settled CutOff consistent s applied = (Some FunctionUnavailable, s)
download_settled (Download scope OneRefused) consistent s applied =
    (Some InconsistentSet, after_end s)
download_settled (Download scope AllTaken) false s applied = (Some InconsistentSet, after_end s)
download_settled (Download scope AllTaken) true s applied =
    (None, applied (after_end (record s { values = s.copy })))

abbrev pub download_end : ParamTable → ParamState → (ParamState → ParamState)
    → Option ErrorType × ParamState
download_end table s applied =
    download_settled s.activity (is_consistent table s.copy) s applied

-- the values that were there at first, where the master may write, and no lock
-- PAR-8
abbrev pub with_reset : ParamTable → ParamState → ParamState
with_reset table s =
    record s { values = reset_values table.members s.values; locks = no_locks }

-- the end of an upload, if one is under way
abbrev pub upload_settled : Bool → Scope → ParamState → Option ErrorType × ParamState
upload_settled true scope s = (None, with_flag_cleared scope (after_end s))
upload_settled false scope s = (Some FunctionUnavailable, s)

-- a command while no activity of the other scope is under way
-- ACT-1
abbrev pub own_command : ParamTable → ParamState → Scope → Command → Option ErrorType × ParamState
own_command table s scope UploadStart =
    (None, record s { activity = Upload scope; copy = [] })
own_command table s scope UploadEnd = upload_settled (is_uploading s.activity) scope s
own_command table s scope DownloadStart =
    (None, record s { activity = Download scope AllTaken; copy = s.values })
own_command table s scope DownloadEnd = download_end table s (with_flag_cleared scope)
own_command table s scope DownloadStore = download_end table s with_flag_set
own_command table s scope Break = (None, after_end s)
own_command table s scope ApplicationReset = (None, with_flag_set (with_reset table (after_end s)))
own_command table s scope FactoryReset =
    (None, with_flag_cleared Storage (with_reset table (after_end s)))
own_command table s scope DeviceReset = (None, record (after_end s) { restart = Warm })
own_command table s scope BackToBox = (
  None,
  record (with_flag_cleared Storage (with_reset table (after_end s))) { restart = Silent },
)

abbrev pub unless_foreign : Bool → ParamState → Option ErrorType × ParamState
    → Option ErrorType × ParamState
unless_foreign true s own = (Some FunctionUnavailable, s)
unless_foreign false s own = own

-- ACT-6
abbrev pub command : ParamTable → ParamState → Scope → Command → Option ErrorType × ParamState
command table s scope asked =
    unless_foreign (is_foreign scope s.activity) s (own_command table s scope asked)

abbrev pub with_activity : Activity → Option ErrorType × ParamState
    → Option ErrorType × ParamState
with_activity activity after = (after.0, record after.1 { activity = activity })

-- a factory reset at the device itself, as the command makes it. An activity under way would have
-- a hole, and what silence cut off stays cut off: the master didn't ask for the reset
-- ACT-4
abbrev pub local_reset : ParamTable → ParamState → Option ErrorType × ParamState
local_reset table s = if is_at_rest s.activity
    then with_activity s.activity (command table s Block FactoryReset)
    else (Some FunctionUnavailable, s)
