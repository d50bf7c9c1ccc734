-- What `trace` carries out for a script of a port with Data Storage, and what it prints of it.
use Rattle.std.specs.Prelude.{◌≡◌, ◌⊎◌, ℕ, ◌+◌, IsSomeAnd, List, [], ◌∷◌, ◌++◌, MatchBool, Option, Some, None}
use Rattle.iol_book.specs.declared.limits.Limits.{Limits}
use Rattle.iol_link.specs.WireFacts.{WireFacts}
use Rattle.iol_mode.specs.declared.configuration.Devices.{Devices}
use Rattle.iol_mseq.specs.Shape.{Shape}
use Rattle.iol_param_sim.specs.Parameters.{parameters_facts}
use Rattle.iol_port.specs.EveryWire.{page_shown}
use Rattle.iol_port.specs.View.{PortParts, status_of}
use Rattle.iol_port.specs.declared.call.Call.{Call}
use Rattle.iol_port.specs.declared.call.Call.TheVariants.{Turn}
use Rattle.iol_script.specs.Script.{ScriptValue, calls_in, script_in}
use Rattle.iol_script.specs.Tables.{has_no_table}
use Rattle.iol_sim.specs.Beside.{BesideFacts, plain_facts}
use Rattle.iol_sim.specs.Params.{Stores}
use Rattle.iol_sim.specs.Sim.{SimulatedWire, sim_facts}
use Rattle.iol_sim.specs.Tapped.{IsNoteOf, TappedWire, tap_facts}
use Rattle.iol_sim.specs.declared.tap.TapNote.{TapNote}
use Rattle.iol_commands.specs.Passing.{PrintsPassed}
use Rattle.iol_commands.specs.RunPlayed.{OverTable, ending_text, first_table_wire, first_wire}
use Rattle.iol_commands.specs.TracePrinted.{Flows, PrintsTrace, first_tap, layout_now}
use Rattle.iol_storage.specs.declared.attempt.StorageMode.{StorageMode}
use Rattle.iol_stored_script.specs.PlainText.{storage_mode_in, plain_lines}
use Rattle.iol_stored_script.specs.declared.as_plain.StoreLine.TheVariants.{Awaited}
use Rattle.iol_stored_commands.specs.StoredPlayed.{OpensNone, Plain, StoredCall, StoredMakes, stored_calls_in}
use Rattle.iol_stored_commands.specs.Wired.{IsNewStored, StoredOver}
use Rattle.iol_stored_commands.specs.StoredPlayed.{script_reading}
use Rattle.iol_commands.specs.Input.{CommandReading}

-- the layout in which a port sends, as the page of its session asks for it
abbrev pub stored_layout : PortParts → Shape
stored_layout p = layout_now (status_of p.core).mode (page_shown p)

-- where a trace is: the number of the next call of the wire, and the port over a tap
pub record StoredStage (W : Type 0) : Type 0 where
  pub number : ℕ
  pub port : StoredOver (TappedWire W)

abbrev pub stored_stage : {W : Type 0} → ℕ → StoredOver (TappedWire W) → StoredStage W
stored_stage number port = record { number = number; port = port }

module _ {W : Type 0} (facts : WireFacts W) where
  -- what passes in a call: a turn makes one call of the wire, whose octets are shown in the layout
  -- in which the port sends before it; no other call touches the wire
  abbrev pub StoredPasses : StoredStage W → StoredCall → StoredStage W → List ℕ → Type 0
  StoredPasses s (Plain Turn) t text = (note : TapNote)
      × IsNoteOf facts note s.port.wire.wire t.port.wire.wire
      × PrintsPassed s.number (stored_layout s.port.port.port) note text
      × (t.number ≡ s.number + 1)
  StoredPasses s other t text = (text ≡ []) × (t.number ≡ s.number)

  -- one call, as `run` has it; what passes is printed, and then what it answers
  pub record StoredTracesCall (s : StoredStage W) (call : StoredCall) (t : StoredStage W)
      (text : List ℕ) : Type 0 where
    pub passed : List ℕ
    pub reply_text : List ℕ
    pub made : StoredMakes (tap_facts facts) s.port call t.port reply_text
    pub passes : StoredPasses s call t passed
    pub text_is : text ≡ passed ++ reply_text

  -- calls, one after the other
  abbrev pub StoredTraces : StoredStage W → List StoredCall → StoredStage W → List ℕ → Type 0
  StoredTraces s [] t text = (t ≡ s) × (text ≡ [])
  StoredTraces s (call ∷ calls) t text = (mid : StoredStage W) × (first : List ℕ)
      × (later : List ℕ) × StoredTracesCall s call mid first × StoredTraces mid calls t later
      × (text ≡ first ++ later)

-- how far a trace is: beside that, what waits to be written, and what is written
pub record StoredPlace (W : Type 0) : Type 0 where
  pub stage : StoredStage W
  pub waits : List ℕ
  pub written : Option (List ℕ)

abbrev pub stored_place : {W : Type 0} → ℕ → List ℕ → Option (List ℕ)
    → StoredOver (TappedWire W) → StoredPlace W
stored_place number waits written port =
    record { stage = stored_stage number port; waits = waits; written = written }

-- from one place to the next these calls are traced, and their text is printed behind what waits
pub record StoredTracesFrom {W : Type 0} (facts : WireFacts W) (old : StoredPlace W)
    (calls : List StoredCall) (new : StoredPlace W) : Type 0 where
  pub text : List ℕ
  pub flows : Flows old.written new.written old.waits new.waits text
  pub traced : StoredTraces facts old.stage calls new.stage text

-- Whole scripts

-- this port makes these calls; then comes the end, as behind these of a plain port
pub record TracesOn {P M : Type 0} (facts : BesideFacts P M)
    (first : StoredOver (TappedWire (SimulatedWire P M))) (calls : List StoredCall)
    (plain : List Call) (text : List ℕ) : Type 0 where
  pub last : StoredStage (SimulatedWire P M)
  pub calls_text : List ℕ
  pub traces : StoredTraces (sim_facts facts) (stored_stage 1 first) calls last calls_text
  pub text_is : text ≡ calls_text ++ ending_text plain last.port.wire.wire

-- a new port over a tap on this wire does
pub record StoredTracesOver {P M : Type 0} (facts : BesideFacts P M) (mode : StorageMode)
    (devices : Devices) (limits : Limits) (wire : SimulatedWire P M) (calls : List StoredCall)
    (plain : List Call) (text : List ℕ) : Type 0 where
  pub first : StoredOver (TappedWire (SimulatedWire P M))
  pub opens : IsNewStored mode devices limits first.port
  pub over_tap : first.wire ≡ first_tap wire
  pub traces : TracesOn facts first calls plain text

abbrev pub StoredTracesOut : {P M : Type 0} → BesideFacts P M → StorageMode → Devices → Limits
    → SimulatedWire P M → List StoredCall → List Call → List ℕ → Type 0
StoredTracesOut facts mode devices limits wire calls plain text =
    StoredTracesOver facts mode devices limits wire calls plain text
    ⊎ OpensNone limits wire plain text

-- what `trace` prints for the calls of a script: the device has its parameters alone, or a table
abbrev pub TracesStored : StorageMode → ScriptValue → List StoredCall → List Call → List ℕ → Type 0
TracesStored mode script calls plain text = MatchBool (has_no_table script.table)
    (StoredTracesOut (plain_facts Stores) mode script.devices script.limits (first_wire script)
    calls plain text)
    (OverTable script (λ table. StoredTracesOut parameters_facts mode script.devices script.limits
    (first_table_wire script table) calls plain text))

-- what it prints for lines that ask for this mode of Data Storage, or for none
abbrev pub TracesByMode : Option StorageMode → List (ℕ × List ℕ) → List ℕ → Type 0
TracesByMode None lines text = PrintsTrace lines text
TracesByMode (Some mode) lines text = IsSomeAnd (script_in (plain_lines Awaited lines))
    (λ script. TracesStored mode script (stored_calls_in lines)
    (calls_in (plain_lines Awaited lines)) text)

abbrev pub TracesLines : List (ℕ × List ℕ) → List ℕ → Type 0
TracesLines lines text = TracesByMode (storage_mode_in lines) lines text

-- what `trace` makes of its lines, with Data Storage or without
abbrev pub script_trace_reading : CommandReading
script_trace_reading = record script_reading { prints = TracesLines }
