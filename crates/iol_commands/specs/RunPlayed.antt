-- What `run` carries out, and what it prints of it.
use Rattle.std.specs.Prelude.{◌≡◌, ℕ, Bool, true, false, Some, None, option_map, List, ◌++◌, IsSomeAnd, MatchBool, map}
use Rattle.std.specs.List.{list_any}
use Rattle.iol_book.specs.declared.fault.BookFault.TheVariants.{OutOfMemory}
use Rattle.iol_book.specs.declared.limits.Limits.{Limits}
use Rattle.iol_device.specs.declared.app.Apart.{Apart}
use Rattle.iol_device.specs.Device.{Running}
use Rattle.iol_far.specs.declared.kind.Kind.{Kind}
use Rattle.iol_far.specs.Far.{Far, opened_as}
use Rattle.iol_far.specs.Isdu.{own}
use Rattle.iol_link.specs.WireFacts.{WireFacts}
use Rattle.iol_mode.specs.Kinds.{SeesPulses}
use Rattle.iol_mode.specs.declared.configuration.Devices.{Devices}
use Rattle.iol_params.specs.declared.table.TableFault.{TableFault}
use Rattle.iol_params.specs.Manager.{new_manager}
use Rattle.iol_params.specs.Table.{ParamTable, table_fault}
use Rattle.iol_param_sim.specs.Parameters.{ParametersValue, parameters_facts}
use Rattle.iol_sim.specs.Params.{Stores}
use Rattle.iol_sim.specs.declared.params.ParameterEntry.{ParameterEntry}
use Rattle.iol_sim.specs.declared.beside.Nothing.{Nothing}
use Rattle.iol_sim.specs.Beside.{BesideFacts, plain_facts, stand}
use Rattle.iol_sim.specs.Sim.{SimulatedWire, first_sim, sim_facts}
use Rattle.iol_port.specs.declared.call.Call.{Call}
use Rattle.iol_port.specs.declared.call.Answered.{Answered}
use Rattle.iol_port.specs.declared.call.Answered.TheVariants as answered
use Rattle.iol_port.specs.declared.fault.PortFault.TheVariants as fault
use Rattle.iol_port.specs.Run.{PortState, Run, port_at_opening}
use Rattle.iol_port.specs.View.{PortOver, Runs, IsNewFor}
use Rattle.iol_port.specs.EveryWire.{RunGives}
use Rattle.iol_script.specs.Script.{ScriptValue, script_in, calls_in, first_bad_run}
use Rattle.iol_script.specs.Tables.{AreMembers, has_no_table, order_rule_of}
use Rattle.iol_commands.specs.RunPrinted.{answers_text, record_text, away_text, refused_events_text}
use Rattle.iol_commands.specs.Input.{CommandReading}

-- the far end of a new device of this kind and page, which may miss pulses or not
abbrev pub first_far : Kind → Bool → List ℕ → Far
first_far kind misses page =
    record (opened_as kind page (Some 1000)) { misses_pulses = misses }

-- whether a call was refused for want of memory
abbrev pub lacks_memory : Answered → Bool
lacks_memory (answered.Refused (fault.Book OutOfMemory)) = true
lacks_memory other = false

-- a new device of this kind and page, which may miss pulses or not, with this application
abbrev pub new_device : {P : Type 0} → Kind → Bool → List ℕ → P → Running P
new_device kind misses page app = record {
  far = first_far kind misses page;
  app = app;
  first = app;
  number = 0;
  silent = false;
}

-- the wire of a script at first: a new device of its kind, page and parameters, a second one of
-- our own kind, which misses no pulse, where the script has its page, and its steps, none of which
-- was used. Nothing stands beside them
abbrev pub first_wire : ScriptValue → SimulatedWire (List ParameterEntry) Nothing
first_wire script = first_sim
    (stand (new_device script.kind script.misses_pulses script.page script.params) (record {}))
    (option_map (λ page. stand (new_device own false page script.params) (record {})) script.other)
    script.steps

-- the table that lines make of the parameters of a script: each is a member, in their order
pub record IsTableOf (script : ScriptValue) (table : ParamTable) : Type 0 where
  pub members : AreMembers script.table script.params table.members
  pub rules : table.rules ≡ map order_rule_of script.table.rules

-- it has no flaw, and this holds of it
pub record OverTable (script : ScriptValue) (holds : ParamTable → Type 0) : Type 0 where
  pub table : ParamTable
  pub is_its : IsTableOf script table
  pub sound : table_fault table.members table.rules ≡ None
  pub holding : holds table

-- it has this flaw
pub record HasFlaw (script : ScriptValue) (why : TableFault) : Type 0 where
  pub table : ParamTable
  pub is_its : IsTableOf script table
  pub flaw : table_fault table.members table.rules ≡ Some why

-- the parameters of a table, as they are at first
abbrev pub new_parameters : ParamTable → ParametersValue
new_parameters table = record { manager = new_manager table; room = 1000 }

-- the wire of a script with a table at first: beside each device stand the parameters
abbrev pub first_table_wire : ScriptValue → ParamTable → SimulatedWire Apart ParametersValue
first_table_wire script table = first_sim
    (stand (new_device script.kind script.misses_pulses script.page (record {}))
    (new_parameters table))
    (option_map (λ page. stand (new_device own false page (record {})) (new_parameters table))
    script.other)
    script.steps

-- what is printed of the records at the end: that of the device that is plugged in, and
-- that of the other one
abbrev pub records_text : {P M : Type 0} → SimulatedWire P M → List ℕ
records_text sim = record_text sim.device.far.carried
    ++ away_text (option_map (λ stand. stand.device.far.carried) sim.away)

-- what is printed at the end, behind these calls: the records, and the events that were refused
abbrev pub ending_text : {P M : Type 0} → List Call → SimulatedWire P M → List ℕ
ending_text calls sim = records_text sim ++ refused_events_text calls sim.refused_events

-- a wire with one device, which sees each pulse where the port is for our own
pub record HasItsDevice {P M : Type 0} (devices : Devices) (wire : SimulatedWire P M)
    : Type 0 where
  pub one : wire.away ≡ None
  pub sees : SeesPulses devices wire.device.far

-- Calls are made on a port, one after the other: none of the answers lacks memory,
-- and the text is what they are.
module _ {W : Type 0} (facts : WireFacts W) where
  pub record PortPlays (p : PortOver W) (calls : List Call) (next : PortOver W)
      (text : List ℕ) : Type 0 where
    pub answers : List Answered
    -- each call does to the port's own parts, and to its wire, just what a call does there
    pub made : RunGives facts p calls answers next
    -- and whatever abstract port it stands for, that makes these calls with the same answers
    pub runs : Runs facts p calls answers next
    pub granted : list_any lacks_memory answers ≡ false
    pub text_is : text ≡ answers_text calls answers

-- the abstract port over this new wire makes these calls with the same answers, and its device has
-- the record of the last wire's
pub record RunsAlike {P M : Type 0} (devices : Devices) (limits : Limits)
    (wire : SimulatedWire P M) (calls : List Call) (answers : List Answered)
    (last : SimulatedWire P M) : Type 0 where
  pub after : PortState
  pub run : Run (port_at_opening devices limits wire.device.far wire.silence) calls answers after
  pub carried : last.device.far.carried ≡ after.session.carried

-- What is printed for calls: what they answer, and then the end. They are made on a
-- new port over this wire; with one device, as the port wants it, the abstract port
-- makes them alike.
pub record PlaysOut {P M : Type 0} (facts : BesideFacts P M) (devices : Devices)
    (limits : Limits) (wire : SimulatedWire P M) (calls : List Call) (text : List ℕ)
    : Type 0 where
  pub answers : List Answered
  pub first : PortOver (SimulatedWire P M)
  pub opens : IsNewFor devices limits first.parts
  pub over_wire : first.wire ≡ wire
  pub last : PortOver (SimulatedWire P M)
  pub made : RunGives (sim_facts facts) first calls answers last
  pub alike : HasItsDevice devices wire → RunsAlike devices limits wire calls answers last.wire
  pub granted : list_any lacks_memory answers ≡ false
  pub text_is : text
      ≡ answers_text calls answers ++ ending_text calls last.wire

-- what `run` prints for the calls of a script: the device has its parameters alone, or a table
abbrev pub PlaysScript : ScriptValue → List Call → List ℕ → Type 0
PlaysScript script calls text = MatchBool (has_no_table script.table)
    (PlaysOut (plain_facts Stores) script.devices script.limits (first_wire script) calls text)
    (OverTable script (λ table. PlaysOut parameters_facts script.devices script.limits
    (first_table_wire script table) calls text))

-- what `run` prints for lines, which are a script
abbrev pub PrintsRun : List (ℕ × List ℕ) → List ℕ → Type 0
PrintsRun lines text =
    IsSomeAnd (script_in lines) (λ script. PlaysScript script (calls_in lines) text)

-- lines are a script whose table has this flaw
abbrev pub IsBadTable : List (ℕ × List ℕ) → TableFault → Type 0
IsBadTable lines why = IsSomeAnd (script_in lines) (λ script. HasFlaw script why)

-- what `run` makes of its lines
abbrev pub run_reading : CommandReading
run_reading = record {
  bad_at = λ lines n. first_bad_run lines ≡ Some n;
  are_good = λ lines. first_bad_run lines ≡ None;
  bad_table = IsBadTable;
  prints = PrintsRun;
}
