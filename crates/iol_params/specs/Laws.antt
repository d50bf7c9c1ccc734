-- What a reader may conclude of a manager, whatever happens.
use Rattle.std.specs.Prelude.{◌≡◌, ℕ, Bool, true, false, ◌&&◌, ◌||◌, if◌then◌else◌, List, [], ◌∷◌, filter, Option, Some, None, is_none, is_some}
use Rattle.std.specs.List.{list_all}
use Rattle.iol_isdu.specs.declared.values.Place.{Place}
use Rattle.iol_params.specs.declared.error_type.ErrorType.{ErrorType}
use Rattle.iol_params.specs.declared.member.Member.{Member}
use Rattle.iol_params.specs.declared.state.Scope.{Scope}
use Rattle.iol_params.specs.declared.state.Scope.TheVariants.{Storage}
use Rattle.iol_params.specs.declared.state.WritesSoFar.{WritesSoFar}
use Rattle.iol_params.specs.declared.state.WritesSoFar.TheVariants.{AllTaken}
use Rattle.iol_params.specs.declared.state.Activity.{Activity}
use Rattle.iol_params.specs.declared.state.Activity.TheVariants.{Idle, Upload, Download, CutOff}
use Rattle.iol_params.specs.declared.state.Command.{Command}
use Rattle.iol_params.specs.declared.state.Command.TheVariants.{UploadEnd, DownloadStart, DownloadEnd, DownloadStore, FactoryReset, BackToBox}
use Rattle.iol_params.specs.Values.{all_fit, overlay, value_at}
use Rattle.iol_params.specs.Table.{ParamTable, table_fault, whole, begins_stored}
use Rattle.iol_params.specs.State.{ParamState, is_at_rest, is_foreign, is_downloading, after_end, after_quiet}
use Rattle.iol_params.specs.Storage.{checksum_over}
use Rattle.iol_params.specs.Carry.{write, local_change, command, local_reset, is_consistent}

-- what changes a manager: a write, a change at the device, a command, a factory reset at the
-- device, the end of an activity from outside, and silence of the master
pub data ParamChange : Type 0 where
  Writing : Place → List ℕ → ParamChange
  Setting : Place → List ℕ → ParamChange
  Commanding : Scope → Command → ParamChange
  Resetting : ParamChange
  Over : ParamChange
  Silent : ParamChange

abbrev pub after_change : ParamTable → ParamState → ParamChange → Option ErrorType × ParamState
after_change table s (Writing place octets) = write table s place octets
after_change table s (Setting place octets) = local_change table s place octets
after_change table s (Commanding scope asked) = command table s scope asked
after_change table s Resetting = local_reset table s
after_change table s Over = (None, after_end s)
after_change table s Silent = (None, after_quiet s)

-- the state behind changes, one after the other
abbrev pub after_changes : ParamTable → ParamState → List ParamChange → ParamState
after_changes table s [] = s
after_changes table s (c ∷ cs) = after_changes table (after_change table s c).1 cs

-- whether an answer is Written, if it is one to a write
abbrev pub is_written : ParamChange → Option ErrorType → Bool
is_written (Writing place octets) answer = is_none answer
is_written _ answer = true

-- whether each write among them is Written
abbrev pub all_written : ParamTable → ParamState → List ParamChange → Bool
all_written table s [] = true
all_written table s (c ∷ cs) = is_written c (after_change table s c).0
    && all_written table (after_change table s c).1 cs

abbrev pub with_write_of : List Member → List (List ℕ) → ParamChange → List (List ℕ)
with_write_of members values (Writing place octets) = overlay members values place octets
with_write_of members values _ = values

-- the values with all that is written, in order
abbrev pub with_writes : List Member → List (List ℕ) → List ParamChange → List (List ℕ)
with_writes members values [] = values
with_writes members values (c ∷ cs) = with_writes members (with_write_of members values c) cs

abbrev pub is_download_end : Command → Bool
is_download_end DownloadEnd = true
is_download_end DownloadStore = true
is_download_end _ = false

abbrev pub is_upload_end : Command → Bool
is_upload_end UploadEnd = true
is_upload_end _ = false

-- whether a command is the end of an activity that isn't the one under way
abbrev pub ends_another : Activity → Command → Bool
ends_another Idle asked = false
ends_another (Upload scope) asked = is_download_end asked
ends_another (Download scope writes) asked = is_upload_end asked
ends_another CutOff asked = false

-- what may come in an activity, which goes on: writes, changes and resets at the device, and the
-- commands that are refused. All others end it, or begin it anew
-- ACT-6
abbrev pub is_inside : Activity → ParamChange → Bool
is_inside activity (Writing place octets) = true
is_inside activity (Setting place octets) = true
is_inside activity (Commanding scope asked) =
    is_foreign scope activity || ends_another activity asked
is_inside activity Resetting = true
is_inside activity Over = false
is_inside activity Silent = false

-- a download is applied whole or not at all: from its start on the values in force stay as they
-- are, whatever comes inside. Its end, if it is Written, brings all of its writes, in order, each
-- of which was Written
pub record WholeOrNot (table : ParamTable) (s : ParamState) (cs : List ParamChange)
    (begun inside : ParamState) (last : Option ErrorType × ParamState) : Type 0 where
  pub waits : inside.values ≡ s.values
  pub whole : last.0 ≡ None → (all_written table begun cs ≡ true)
      × (last.1.values ≡ with_writes table.members s.values cs)
      × (is_consistent table last.1.values ≡ true)
  pub none : (why : ErrorType) → last.0 ≡ Some why → last.1.values ≡ s.values
  pub over : (after_end inside).values ≡ s.values

abbrev pub DownloadsAreWhole : Type 0
DownloadsAreWhole = (table : ParamTable) (s : ParamState) (scope : Scope) (asked : Command)
    (cs : List ParamChange) → is_foreign scope s.activity ≡ false
    → list_all (is_inside (Download scope AllTaken)) cs ≡ true
    → is_download_end asked ≡ true
    → let begun = (command table s scope DownloadStart).1 in
    let inside = after_changes table begun cs in
    WholeOrNot table s cs begun inside (command table inside scope asked)

-- what may be left of a download that was cut off: writes, and its end
abbrev pub is_left_over : ParamChange → Bool
is_left_over (Writing place octets) = true
is_left_over (Commanding scope asked) = is_download_end asked
is_left_over _ = false

-- what may come between, and lets none of it in: changes and resets at the device, and silence
abbrev pub is_between : ParamChange → Bool
is_between (Setting place octets) = true
is_between Resetting = true
is_between Silent = true
is_between _ = false

-- whether each of them is refused, but for what comes between
abbrev pub all_refused : ParamTable → ParamState → List ParamChange → Bool
all_refused table s [] = true
all_refused table s (c ∷ cs) = (is_between c || is_some (after_change table s c).0)
    && all_refused table (after_change table s c).1 cs

-- a download that the master's silence cut off is none: whatever is left of it is refused, and
-- changes nothing. All is as if only that had come which came between
-- ACT-7
abbrev pub CutOffsStayOut : Type 0
CutOffsStayOut = (table : ParamTable) (s : ParamState) (scope : Scope) (writes : WritesSoFar)
    (cs : List ParamChange) → s.activity ≡ Download scope writes
    → list_all (λ c. is_between c || is_left_over c) cs ≡ true
    → let silent = after_quiet s in (silent.values ≡ s.values)
    × (all_refused table silent cs ≡ true)
    × (after_changes table silent cs ≡ after_changes table silent (filter is_between cs))

-- always each member has a value that fits, in a copy too, and each order rule holds
pub record IsConsistent (table : ParamTable) (s : ParamState) : Type 0 where
  pub fit : all_fit table.members s.values ≡ true
  pub copy_fit : is_downloading s.activity ≡ true → all_fit table.members s.copy ≡ true
  pub rules : is_consistent table s.values ≡ true

abbrev pub StaysConsistent : Type 0
StaysConsistent = (table : ParamTable) (s : ParamState) (what : ParamChange)
    → table_fault table.members table.rules ≡ None
    → IsConsistent table s → IsConsistent table (after_change table s what).1

-- while an upload lasts nothing changes a value
abbrev pub UploadsAreOneMoment : Type 0
UploadsAreOneMoment = (table : ParamTable) (s : ParamState) (scope : Scope)
    (cs : List ParamChange) → s.activity ≡ Upload scope
    → list_all (is_inside (Upload scope)) cs ≡ true
    → (after_changes table s cs).values ≡ s.values

-- what Data Storage fetches of a device: each stored parameter, with its value
abbrev pub stored_set : List Member → List (List ℕ) → List Member → List (Place × List ℕ)
stored_set members values [] = []
stored_set members values (m ∷ ms) = if begins_stored m
    then (whole m.place.index, value_at members values (whole m.place.index))
    ∷ stored_set members values ms
    else stored_set members values ms

abbrev pub set_of : ParamTable → ParamState → List (Place × List ℕ)
set_of table s = stored_set table.members s.values table.members

abbrev pub writings : List (Place × List ℕ) → List ParamChange
writings [] = []
writings (w ∷ ws) = Writing w.0 w.1 ∷ writings ws

-- the set of one device is written to another: all of it is Written, and then that has this set
pub record SetFits (table : ParamTable) (from to : ParamState)
    (begun : Option ErrorType × ParamState) (last : Option ErrorType × ParamState) : Type 0 where
  pub begins : begun.0 ≡ None
  pub written : all_written table begun.1 (writings (set_of table from)) ≡ true
  pub ends : last.0 ≡ None
  pub same : set_of table last.1 ≡ set_of table from
  pub checksum : checksum_over table last.1 ≡ checksum_over table from

-- a set fits each device of its table that isn't locked and has no activity
abbrev pub SetsFit : Type 0
SetsFit = (table : ParamTable) (from to : ParamState)
    → table_fault table.members table.rules ≡ None
    → IsConsistent table from → IsConsistent table to
    → is_at_rest to.activity ≡ true → to.locks.parameters ≡ false
    → let begun = command table to Storage DownloadStart in
    let inside = after_changes table begun.1 (writings (set_of table from)) in
    SetFits table from to begun (command table inside Storage DownloadEnd)

-- what may clear the flag: the ends of Data Storage's activities, if they are Written, and a reset
abbrev pub may_clear : ParamChange → Bool
may_clear (Commanding Storage UploadEnd) = true
may_clear (Commanding Storage DownloadEnd) = true
may_clear (Commanding scope FactoryReset) = true
may_clear (Commanding scope BackToBox) = true
may_clear Resetting = true
may_clear _ = false

abbrev pub FlagStays : Type 0
FlagStays = (table : ParamTable) (s : ParamState) (what : ParamChange) → s.flag ≡ true
    → (may_clear what ≡ false → (after_change table s what).1.flag ≡ true)
    × ((why : ErrorType) → (after_change table s what).0 ≡ Some why
    → (after_change table s what).1.flag ≡ true)
