-- What of a manager outlives the power, and the image of it.
use Rattle.std.specs.Prelude.{ℕ, ◌+◌, ◌*◌, Bool, true, false, ◌==◌, ◌&&◌, nat_le, nat_lt, List, [], drop, length, slice_index, Option, Some, None}
use Rattle.iol_params.specs.declared.state.Locks.{Locks}
use Rattle.iol_params.specs.declared.state.Activity.TheVariants.{Idle}
use Rattle.iol_params.specs.declared.state.Restart.TheVariants.{NotDue}
use Rattle.iol_params.specs.Values.{values_in, room_for, all_fit}
use Rattle.iol_params.specs.Table.{ParamTable}
use Rattle.iol_params.specs.State.{ParamState, bit_of, locks_octet, locks_in}
use Rattle.iol_params.specs.Carry.{is_consistent}
use Rattle.iol_params.specs.Manager.{new_manager}

-- SAVE-1
pub record LastingState : Type 0 where
  pub values : List (List ℕ)
  pub locks : Locks
  pub flag : Bool

abbrev pub lasting_of : ParamState → LastingState
lasting_of s = record { values = s.values; locks = s.locks; flag = s.flag }

-- an octet of the locks and the flag, and the cells of the values
abbrev pub image_size : ParamTable → ℕ
image_size table = 1 + room_for table.members

abbrev pub lasting_octet : Locks → Bool → ℕ
lasting_octet locks flag = locks_octet locks + 16 * bit_of flag

-- whether octets are an image of values that this table allows
-- SAVE-2
abbrev pub is_image : ParamTable → List ℕ → Bool
is_image table octets = (length octets == image_size table) && nat_lt (slice_index octets 0) 32
    && all_fit table.members (values_in table.members (drop 1 octets))
    && is_consistent table (values_in table.members (drop 1 octets))

abbrev pub lasting_if : Bool → ParamTable → List ℕ → Option LastingState
lasting_if false table octets = None
lasting_if true table octets = Some (record {
  values = values_in table.members (drop 1 octets);
  locks = locks_in (slice_index octets 0);
  flag = nat_le 16 (slice_index octets 0);
})

-- what an image says
abbrev pub lasting_in : ParamTable → List ℕ → Option LastingState
lasting_in table octets = lasting_if (is_image table octets) table octets

-- a manager with what was kept; a flag that is set asks for its event again
abbrev pub with_lasting : ParamState → Option LastingState → ParamState
with_lasting s None = s
with_lasting s (Some lasting) = record {
  values = lasting.values;
  copy = [];
  activity = Idle;
  locks = lasting.locks;
  flag = lasting.flag;
  event_due = lasting.flag;
  restart = NotDue;
}

-- the state once the power is back, by the image that is loaded
-- SAVE-2
abbrev pub power_up : ParamTable → Option (List ℕ) → ParamState
power_up table None = (new_manager table).state
power_up table (Some octets) = with_lasting (new_manager table).state (lasting_in table octets)
