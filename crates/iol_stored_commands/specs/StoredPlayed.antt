-- What `run` carries out for a script of a port with Data Storage, and what it prints of it.
use Rattle.std.specs.Prelude.{◌≡◌, ◌⊎◌, ℕ, false, IsSomeAnd, IsTrue, List, [], ◌∷◌, ◌++◌, MatchBool, Option, Some, None, Result, Ok, Err, flat_map, map, nat_le}
use Rattle.std.specs.Option.{option_map_or}
use Rattle.iol_book.specs.declared.limits.Limits.{Limits}
use Rattle.iol_link.specs.WireFacts.{WireFacts}
use Rattle.iol_mode.specs.declared.configuration.Devices.{Devices}
use Rattle.iol_param_sim.specs.Parameters.{parameters_facts}
use Rattle.iol_port.specs.declared.call.Answered.{Answered}
use Rattle.iol_port.specs.declared.call.Call.{Call}
use Rattle.iol_script.specs.RunLines.{run_form}
use Rattle.iol_script.specs.Script.{ScriptValue, calls_in, calls_of, script_in, first_bad_run}
use Rattle.iol_script.specs.Tables.{has_no_table}
use Rattle.iol_script.specs.declared.run_line.RunLine.{RunLine}
use Rattle.iol_sim.specs.Beside.{BesideFacts, plain_facts}
use Rattle.iol_sim.specs.Params.{Stores}
use Rattle.iol_sim.specs.Sim.{SimulatedWire, sim_facts}
use Rattle.iol_commands.specs.RunPlayed.{OverTable, PrintsRun, ending_text, first_table_wire, first_wire, IsBadTable}
use Rattle.iol_storage.specs.declared.attempt.StorageMode.{StorageMode}
use Rattle.iol_storage.specs.declared.stored.fault.StoredFault.{StoredFault}
use Rattle.iol_storage.specs.declared.stored.fault.StoredFault.TheVariants.{SmallQueue}
use Rattle.iol_storage.specs.StoredPort.{places_with_room}
use Rattle.iol_stored_script.specs.PlainText.{storage_mode_in, plain_lines}
use Rattle.iol_stored_script.specs.StorageLines.{storage_form}
use Rattle.iol_stored_script.specs.declared.as_plain.StoreLine.TheVariants.{Awaited}
use Rattle.iol_stored_script.specs.declared.storage_line.StorageCall.{StorageCall}
use Rattle.iol_stored_script.specs.declared.storage_line.StorageLine.{StorageLine}
use Rattle.iol_stored_script.specs.declared.storage_line.StorageLine.TheVariants as line
use Rattle.iol_stored_commands.specs.declared.storage_answer.StorageAnswer.{StorageAnswer}
use Rattle.iol_stored_commands.specs.StoredPrinted.{plain_answer_text, storage_text, stored_refusal_text}
use Rattle.iol_stored_commands.specs.Wired.{CallMakes, IsNewStored, StorageMakes, StoredOver, lacks_room}
use Rattle.iol_commands.specs.Input.{CommandReading}

-- The calls of a script

pub data StoredCall : Type 0 where
  Plain : Call → StoredCall
  Storing : StorageCall → StoredCall

-- those of a line: one of Data Storage, or those that a plain port has, too
abbrev pub line_stored_calls : Option StorageLine → Option RunLine → List StoredCall
line_stored_calls (Some (line.Call call)) form = Storing call ∷ []
line_stored_calls (Some (line.Store mode)) form = []
line_stored_calls None form = map Plain (option_map_or calls_of form [])

abbrev pub stored_calls_in : List (ℕ × List ℕ) → List StoredCall
stored_calls_in lines =
    flat_map (λ line. line_stored_calls (storage_form line.1) (run_form line.1)) lines

-- Calls are made on a port at a wire, one after the other: none lacks memory, and the text is what
-- they answer.
module _ {W : Type 0} (facts : WireFacts W) where
  abbrev pub StoredMakes : StoredOver W → StoredCall → StoredOver W → List ℕ → Type 0
  StoredMakes p (Plain call) next text = (reply : Result Answered StoredFault)
      × CallMakes facts p call reply next × (lacks_room reply ≡ false)
      × (text ≡ plain_answer_text call reply)
  StoredMakes p (Storing call) next text = (reply : Result StorageAnswer StoredFault)
      × StorageMakes p call reply next × (text ≡ storage_text reply)

  abbrev pub StoredPlays : StoredOver W → List StoredCall → StoredOver W → List ℕ → Type 0
  StoredPlays p [] next text = (next ≡ p) × (text ≡ [])
  StoredPlays p (call ∷ calls) next text = (mid : StoredOver W) × (first : List ℕ)
      × (later : List ℕ) × StoredMakes p call mid first × StoredPlays mid calls next later
      × (text ≡ first ++ later)

-- Whole scripts

-- this port makes these calls; then comes the end, as behind these of a plain port
pub record PlaysOn {P M : Type 0} (facts : BesideFacts P M)
    (first : StoredOver (SimulatedWire P M)) (calls : List StoredCall) (plain : List Call)
    (text : List ℕ) : Type 0 where
  pub last : StoredOver (SimulatedWire P M)
  pub calls_text : List ℕ
  pub plays : StoredPlays (sim_facts facts) first calls last calls_text
  pub text_is : text ≡ calls_text ++ ending_text plain last.wire

-- a new port at this wire does
pub record StoredPlaysOver {P M : Type 0} (facts : BesideFacts P M) (mode : StorageMode)
    (devices : Devices) (limits : Limits) (wire : SimulatedWire P M) (calls : List StoredCall)
    (plain : List Call) (text : List ℕ) : Type 0 where
  pub first : StoredOver (SimulatedWire P M)
  pub opens : IsNewStored mode devices limits first.port
  pub over_wire : first.wire ≡ wire
  pub plays : PlaysOn facts first calls plain text

-- or, where the limits leave no ticket to clients, no port is opened
pub record OpensNone {P M : Type 0} (limits : Limits) (wire : SimulatedWire P M)
    (plain : List Call) (text : List ℕ) : Type 0 where
  pub few : IsTrue (nat_le (places_with_room limits) 2)
  pub text_is : text ≡ stored_refusal_text SmallQueue ++ ending_text plain wire

abbrev pub StoredPlaysOut : {P M : Type 0} → BesideFacts P M → StorageMode → Devices → Limits
    → SimulatedWire P M → List StoredCall → List Call → List ℕ → Type 0
StoredPlaysOut facts mode devices limits wire calls plain text =
    StoredPlaysOver facts mode devices limits wire calls plain text
    ⊎ OpensNone limits wire plain text

-- what `run` prints for the calls of a script: the device has its parameters alone, or a table
abbrev pub PlaysStored : StorageMode → ScriptValue → List StoredCall → List Call → List ℕ → Type 0
PlaysStored mode script calls plain text = MatchBool (has_no_table script.table)
    (StoredPlaysOut (plain_facts Stores) mode script.devices script.limits (first_wire script)
    calls plain text)
    (OverTable script (λ table. StoredPlaysOut parameters_facts mode script.devices script.limits
    (first_table_wire script table) calls plain text))

-- what it prints for lines that ask for this mode of Data Storage, or for none. Where they ask for
-- one, the lines that a plain port has, too, are a script
abbrev pub PrintsByMode : Option StorageMode → List (ℕ × List ℕ) → List ℕ → Type 0
PrintsByMode None lines text = PrintsRun lines text
PrintsByMode (Some mode) lines text = IsSomeAnd (script_in (plain_lines Awaited lines))
    (λ script. PlaysStored mode script (stored_calls_in lines)
    (calls_in (plain_lines Awaited lines))
    text)

abbrev pub PrintsScript : List (ℕ × List ℕ) → List ℕ → Type 0
PrintsScript lines text = PrintsByMode (storage_mode_in lines) lines text

-- the lines as those of a plain port are read
abbrev pub lines_by_mode : Option StorageMode → List (ℕ × List ℕ) → List (ℕ × List ℕ)
lines_by_mode None lines = lines
lines_by_mode (Some mode) lines = plain_lines Awaited lines

abbrev pub lines_read : List (ℕ × List ℕ) → List (ℕ × List ℕ)
lines_read lines = lines_by_mode (storage_mode_in lines) lines

-- what `run` makes of its lines, with Data Storage or without
abbrev pub script_reading : CommandReading
script_reading = record {
  bad_at = λ lines n. first_bad_run (lines_read lines) ≡ Some n;
  are_good = λ lines. first_bad_run (lines_read lines) ≡ None;
  bad_table = λ lines why. IsBadTable (lines_read lines) why;
  prints = PrintsScript;
}
