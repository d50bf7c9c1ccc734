-- What a manager keeps.
use Rattle.std.specs.Prelude.{ℕ, ◌+◌, ◌*◌, ◌/◌, ◌%◌, Bool, true, false, ◌==◌, ◌&&◌, ◌||◌, not, List, []}
use Rattle.iol_params.specs.declared.state.Scope.{Scope}
use Rattle.iol_params.specs.declared.state.Scope.TheVariants.{Block, Storage}
use Rattle.iol_params.specs.declared.state.WritesSoFar.TheVariants.{AllTaken, OneRefused}
use Rattle.iol_params.specs.declared.state.Activity.{Activity}
use Rattle.iol_params.specs.declared.state.Activity.TheVariants.{Idle, Upload, Download, CutOff}
use Rattle.iol_params.specs.declared.state.Locks.{Locks}
use Rattle.iol_params.specs.declared.state.Restart.{Restart}

pub record ParamState : Type 0 where
  -- the values in force, in the order of the table
  pub values : List (List ℕ)
  -- what a download writes to; none outside of one
  -- ACT-2
  pub copy : List (List ℕ)
  -- ACT-1
  pub activity : Activity
  pub locks : Locks
  -- DS_UPLOAD_FLAG
  pub flag : Bool
  -- whether the event FF91 is still to be raised
  pub event_due : Bool
  -- what the program has to do since a reset
  -- PAR-9
  pub restart : Restart

abbrev pub same_scope : Scope → Scope → Bool
same_scope Block Block = true
same_scope Storage Storage = true
same_scope Block Storage = false
same_scope Storage Block = false

abbrev pub is_at_rest : Activity → Bool
is_at_rest Idle = true
is_at_rest (Upload scope) = false
is_at_rest (Download scope writes) = false
is_at_rest CutOff = true

abbrev pub is_uploading : Activity → Bool
is_uploading Idle = false
is_uploading (Upload scope) = true
is_uploading (Download scope writes) = false
is_uploading CutOff = false

abbrev pub is_downloading : Activity → Bool
is_downloading Idle = false
is_downloading (Upload scope) = false
is_downloading (Download scope writes) = true
is_downloading CutOff = false

-- whether the master may write a parameter
abbrev pub takes_writes : Activity → Bool
takes_writes Idle = true
takes_writes (Upload scope) = false
takes_writes (Download scope writes) = true
takes_writes CutOff = false

-- whether a download is, of which each write was taken
abbrev pub took_each_write : Activity → Bool
took_each_write Idle = false
took_each_write (Upload scope) = false
took_each_write (Download scope AllTaken) = true
took_each_write (Download scope OneRefused) = false
took_each_write CutOff = false

-- whether an activity of this scope is under way
abbrev pub is_in : Scope → Activity → Bool
is_in scope Idle = false
is_in scope (Upload own) = same_scope scope own
is_in scope (Download own writes) = same_scope scope own
is_in scope CutOff = false

-- whether one of the other scope is
abbrev pub is_foreign : Scope → Activity → Bool
is_foreign scope activity = not (is_at_rest activity) && not (is_in scope activity)

-- the activity ends without effect. A block's end tells the master again that the flag is set
-- ACT-5, DSD-5
abbrev pub after_end : ParamState → ParamState
after_end s = record s {
  activity = Idle;
  copy = [];
  event_due = s.event_due || (is_in Block s.activity && s.flag);
}

-- what is left of an activity once the master was silent
abbrev pub left_in_silence : Activity → Activity
left_in_silence Idle = Idle
left_in_silence (Upload scope) = Idle
left_in_silence (Download scope writes) = CutOff
left_in_silence CutOff = CutOff

-- the master was silent: an activity ends without effect, and a download was cut off
-- ACT-7
abbrev pub after_quiet : ParamState → ParamState
after_quiet s = record (after_end s) { activity = left_in_silence s.activity }

-- Data Storage has what is new here
-- DSD-4
abbrev pub with_flag_cleared : Scope → ParamState → ParamState
with_flag_cleared Block s = s
with_flag_cleared Storage s = record s { flag = false; event_due = false }

-- Data Storage has to fetch what is new here
-- DSD-5
abbrev pub with_flag_set : ParamState → ParamState
with_flag_set s = record s { flag = true; event_due = true }

abbrev pub no_locks : Locks
no_locks = record { parameters = false; storage = false; local = false; user_interface = false }

abbrev pub bit_of : Bool → ℕ
bit_of true = 1
bit_of false = 0

-- the low octet of Index 12
-- PAR-7
abbrev pub locks_octet : Locks → ℕ
locks_octet locks = bit_of locks.parameters + 2 * bit_of locks.storage + 4 * bit_of locks.local
    + 8 * bit_of locks.user_interface

abbrev pub locks_in : ℕ → Locks
locks_in octet = record {
  parameters = (octet % 2) == 1;
  storage = ((octet / 2) % 2) == 1;
  local = ((octet / 4) % 2) == 1;
  user_interface = ((octet / 8) % 2) == 1;
}
