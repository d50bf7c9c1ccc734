-- What callers see of a manager, and what holds of it.
use Rattle.std.specs.Prelude.{◌≡◌, ℕ, if◌then◌else◌, true, false, List, [], length, Option, Some, None}
use Rattle.iol_isdu.specs.declared.values.Place.{Place}
use Rattle.iol_isdu.specs.declared.values.Answer.{Answer}
use Rattle.iol_isdu.specs.declared.values.Answer.TheVariants.{Read}
use Rattle.iol_params.specs.declared.error_type.ErrorType.{ErrorType}
use Rattle.iol_params.specs.declared.manager.Manager.TheInside.{Inside}
use Rattle.iol_params.specs.declared.parts.ManagerParts.{ManagerParts}
use Rattle.iol_params.specs.declared.state.Activity.{Activity}
use Rattle.iol_params.specs.declared.state.Activity.TheVariants.{Idle}
use Rattle.iol_params.specs.declared.state.Restart.TheVariants.{NotDue}
use Rattle.iol_params.specs.Errors.{refusal_answer}
use Rattle.iol_params.specs.Values.{values_in, room_for, all_fit, defaults, value_at}
use Rattle.iol_params.specs.Table.{ParamTable}
use Rattle.iol_params.specs.State.{ParamState, is_downloading, no_locks}
use Rattle.iol_params.specs.Carry.{is_consistent, place_refusal, content_refusal}

pub record ManagerValue : Type 0 where
  pub table : ParamTable
  pub state : ParamState

-- a manager that is new
abbrev pub new_manager : ParamTable → ManagerValue
new_manager table = record {
  table = table;
  state = record {
    values = defaults table.members;
    copy = [];
    activity = Idle;
    locks = no_locks;
    flag = false;
    event_due = false;
    restart = NotDue;
  };
}

abbrev pub read_settled : Option ErrorType → List ℕ → Answer
read_settled (Some why) octets = refusal_answer why
read_settled None octets = Read (record { items = octets })

-- what a read of a parameter answers
-- PAR-5
abbrev pub read_answer : ParamTable → ParamState → Place → Answer
read_answer table s place = read_settled (place_refusal table.members place)
    (value_at table.members s.values place)

-- the octets are values of a place
abbrev pub IsFitting : ManagerValue → Place → List ℕ → Type 0
IsFitting m place octets = content_refusal m.table.members place octets ≡ None

-- what a download writes to, none outside of one
abbrev pub copy_view : Activity → List (List ℕ) → List (List ℕ)
copy_view activity copy = if is_downloading activity then copy else []

-- cells of values and of a copy, as they fit a table and what is under way
pub record AreSound (table : ParamTable) (values copy : List ℕ) (activity : Activity)
    : Type 0 where
  pub values_room : room_for table.members ≡ length values
  pub copy_room : room_for table.members ≡ length copy
  -- each member has a value that fits, in a copy too
  pub fit : all_fit table.members (values_in table.members values) ≡ true
  pub copy_fit : is_downloading activity ≡ true
      → all_fit table.members (values_in table.members copy) ≡ true
  -- and each order rule holds
  pub consistent : is_consistent table (values_in table.members values) ≡ true

module _ {A : Type 0} where
  -- what the parts of a manager are beside a table
  abbrev pub parts_view : ParamTable → ManagerParts A → ManagerValue
  parts_view table parts = record {
    table = table;
    state = record {
      values = values_in table.members parts.values.items;
      copy = copy_view parts.activity (values_in table.members parts.copy.items);
      activity = parts.activity;
      locks = parts.locks;
      flag = parts.flag;
      event_due = parts.event_due;
      restart = parts.restart;
    };
  }

  abbrev pub ArePartsOf : ParamTable → ManagerParts A → Type 0
  ArePartsOf table parts =
      AreSound table parts.values.items parts.copy.items parts.activity

  abbrev pub manager_view : Inside A → ManagerValue
  manager_view m = record {
    table = m.table.now;
    state = record {
      values = values_in m.table.now.members m.values.items;
      copy = copy_view m.activity (values_in m.table.now.members m.copy.items);
      activity = m.activity;
      locks = m.locks;
      flag = m.flag;
      event_due = m.event_due;
      restart = m.restart;
    };
  }

  abbrev pub IsSoundManager : Inside A → Type 0
  IsSoundManager m = AreSound m.table.now m.values.items m.copy.items m.activity
