-- The calls of a device with parameters, as C sees them: by a handle, and with numbers in place of
-- answers.
use Rattle.std.specs.Prelude.{◌≡◌, ℕ, IsTrue, IsFalse, IfSome, IfErr, IsOk, Bool, true, false, List, Option, Some, None, ◌&&◌, nat_le}
use Rattle.std.specs.List.{list_all}
use Rattle.iol_page.specs.Fault.{page_fault_number}
use Rattle.iol_page.specs.Page.{layouts_of}
use Rattle.iol_far.specs.Far.{Far, new_far}
use Rattle.iol_device.specs.Device.{Running}
use Rattle.iol_device.specs.declared.app.Apart.{Apart}
use Rattle.iol_isdu.specs.declared.values.Place.{Place}
use Rattle.iol_isdu.specs.declared.values.Answer.{Answer}
use Rattle.iol_isdu.specs.declared.values.Answer.TheVariants.{Read, Written, Refused}
use Rattle.iol_params.specs.declared.error_type.ErrorType.{ErrorType}
use Rattle.iol_params.specs.declared.table.TableFault.{TableFault}
use Rattle.iol_params.specs.declared.state.Restart.{Restart}
use Rattle.iol_params.specs.declared.state.Restart.TheVariants.{NotDue, Warm, Silent}
use Rattle.iol_params.specs.Errors.{additional_code}
use Rattle.iol_params.specs.Flaws.{flaw_number}
use Rattle.iol_params.specs.Table.{ParamTable, table_fault}
use Rattle.iol_params.specs.Image.{power_up}
use Rattle.iol_params.specs.Manager.{ManagerValue}
use Rattle.iolink_handle.specs.Shown.{AreShown}
use Rattle.iolink_params_c.specs.declared.held.IolParams.{IolParams}
use Rattle.iolink_params_c.specs.declared.parameters.IolValue.{IolValue}
use Rattle.iolink_params_c.specs.declared.rows.IolParamRow.{IolParamRow}
use Rattle.iolink_params_c.specs.declared.rows.IolOrderRule.{IolOrderRule}
use Rattle.iolink_params_c.specs.declared.sensor.ParamSensor.{ParamSensor}
use Rattle.iolink_params_c.specs.declared.sensor.Unsaved.TheVariants.{Nothing}
use Rattle.iolink_params_c.specs.Rows.{is_row, table_of}

-- the device with parameters that a handle holds
abbrev pub params_sensor : IolParams → ParamSensor
params_sensor handle = handle.held.value

abbrev pub params_far : IolParams → Far
params_far handle = (params_sensor handle).device.far

abbrev pub params_manager : IolParams → ManagerValue
params_manager handle = (params_sensor handle).manager

-- a call of a closed handle: refused, with nothing changed
abbrev pub ParamsAreRefused : ℕ → IolParams → IolParams → Type 0
ParamsAreRefused result old new = (result ≡ 252) × (new ≡ old)

-- a closed handle is refused, and an open one stays open
pub record GuardsParams (result : ℕ) (old new : IolParams) : Type 0 where
  pub closed : IsFalse old.is_open → ParamsAreRefused result old new
  pub stays : new.is_open ≡ old.is_open

-- the call makes this of what an open handle holds
abbrev pub Makes : (ParamSensor → ParamSensor) → IolParams → IolParams → Type 0
Makes f old new = IsTrue old.is_open → params_sensor new ≡ f (params_sensor old)

-- 1 where something is to be saved
abbrev pub unsaved_number : Bool → ℕ
unsaved_number true = 0
unsaved_number false = 1

-- the flaw of a table that is told by this number, and its row
abbrev pub IsFlawNumber : Option TableFault → ℕ → ℕ → Type 0
IsFlawNumber None code row = ⊥
IsFlawNumber (Some fault) code row = (code ≡ flaw_number fault.flaw) × (row ≡ fault.row)

-- whether a number tells of a table's flaw
abbrev pub is_flaw_number : ℕ → Bool
is_flaw_number code = nat_le 50 code && nat_le code 58

-- a row is written where a flaw is told, and nowhere else
abbrev pub OnFlaw : ParamTable → ℕ → ℕ → ℕ → Type 0
OnFlaw table code old new =
    (IsTrue (is_flaw_number code) → IsFlawNumber (table_fault table.members table.rules) code new)
    × (IsFalse (is_flaw_number code) → new ≡ old)

-- a table is refused: it has a flaw, whose row is written, or there is no memory
abbrev pub IsTableRefusal : ParamTable → ℕ → ℕ → ℕ → Type 0
IsTableRefusal table code old new =
    OnFlaw table code old new × (IsFalse (is_flaw_number code) → code ≡ 24)

-- a device is new: asleep, before its first request
pub record IsNewDevice (page : List ℕ) (device : Running Apart) : Type 0 where
  pub far : device.far ≡ new_far page None
  pub number : device.number ≡ 0
  pub silent : device.silent ≡ false

-- what an opening answers of a table: 254 where a number of a row means nothing, 24 where there is
-- no memory, the number of the first flaw, else 0
pub record HandleOpensTable (page : List ℕ) (rows : List IolParamRow) (rules : List IolOrderRule)
    (image : List ℕ) (old : IolParams) (result : ℕ) (new : IolParams) : Type 0 where
  pub once : IsTrue old.is_open → (result ≡ 253) × (new ≡ old)
  pub refused : IsFalse old.is_open
      → IfErr (layouts_of page) (λ fault. result ≡ page_fault_number fault)
  pub range : IsFalse old.is_open → IsOk (layouts_of page)
      → IsFalse (list_all is_row rows) → result ≡ 254
  pub flaw : IsFalse old.is_open → IsOk (layouts_of page) → IsTrue (list_all is_row rows)
      → ¬ (result ≡ 24) → IfSome (table_fault (table_of rows rules).members
      (table_of rows rules).rules) (λ fault. result ≡ flaw_number fault.flaw)
  pub memory : IsFalse old.is_open → IsOk (layouts_of page) → IsTrue (list_all is_row rows)
      → table_fault (table_of rows rules).members (table_of rows rules).rules ≡ None
      → ¬ (result ≡ 0) → result ≡ 24
  pub unchanged : ¬ (result ≡ 0) → new ≡ old
  pub opened : result ≡ 0 → new.is_open ≡ true
  pub device : result ≡ 0 → IsNewDevice page (params_sensor new).device
  pub unsaved : result ≡ 0 → (params_sensor new).unsaved ≡ Nothing
  -- what was saved, as far as the table allows it, else what the table has at first
  pub manager : result ≡ 0 → params_manager new ≡ record {
    table = table_of rows rules;
    state = power_up (table_of rows rules) (Some image);
  }

-- a place, by its numbers
abbrev pub place_at : ℕ → ℕ → Place
place_at index sub = record { index = index; sub = sub }

-- what a change at the device itself is answered with, by why it is refused
abbrev pub IsChangeOf : Option ErrorType → ℕ → ℕ → ℕ → Type 0
IsChangeOf None result old new = (result ≡ 0) × (new ≡ old)
IsChangeOf (Some why) result old new = (result ≡ 249) × (new ≡ additional_code why)

-- how a value is shown: its octets, or 249 and the AdditionalCode, with the room as it was
abbrev pub IsValueOf : Answer → ℕ → IolValue → IolValue → ℕ → ℕ → Type 0
IsValueOf (Read octets) result room out old new =
    (result ≡ 0) × (AreShown octets.items out.length out.octets × (new ≡ old))
IsValueOf Written result room out old new = result ≡ 0
IsValueOf (Refused code additional) result room out old new =
    (result ≡ 249) × ((out ≡ room) × (new ≡ additional))

abbrev pub restart_number : Restart → ℕ
restart_number NotDue = 0
restart_number Warm = 1
restart_number Silent = 2
