-- What `trace` carries out, and what it prints of it.
use Rattle.std.specs.Prelude.{◌≡◌, ℕ, ◌+◌, false, Option, Some, None, List, [], ◌∷◌, ◌++◌, IsSomeAnd, MatchBool, unwrap_or, Result, Ok, Err}
use Rattle.std.specs.Io.KnownBytes.{Appends}
use Rattle.iol_book.specs.declared.limits.Limits.{Limits}
use Rattle.iol_mode.specs.declared.configuration.Devices.{Devices}
use Rattle.iol_mseq.specs.Shape.{Shape, startup_shape}
use Rattle.iol_page.specs.Page.{layouts_of}
use Rattle.iol_page.specs.declared.fault.PageFault.{PageFault}
use Rattle.iol_page.specs.declared.page.Layouts.{Layouts}
use Rattle.iol_link.specs.WireFacts.{WireFacts}
use Rattle.iol_sim.specs.Tapped.{TappedWire, tap_facts, IsNoteOf}
use Rattle.iol_sim.specs.declared.tap.TapNote.{TapNote}
use Rattle.iol_param_sim.specs.Parameters.{parameters_facts}
use Rattle.iol_sim.specs.Params.{Stores}
use Rattle.iol_sim.specs.Beside.{BesideFacts, plain_facts}
use Rattle.iol_sim.specs.Sim.{SimulatedWire, sim_facts}
use Rattle.iol_app.specs.declared.mode.Mode.{Mode}
use Rattle.iol_app.specs.declared.mode.Mode.TheVariants.{Down, Startup, Preoperate, Operate}
use Rattle.iol_port.specs.declared.call.Call.{Call}
use Rattle.iol_port.specs.declared.call.Call.TheVariants.{Turn}
use Rattle.iol_port.specs.declared.call.Answered.{Answered}
use Rattle.iol_port.specs.View.{PortOver, Runs, IsNewFor, status_of}
use Rattle.iol_port.specs.EveryWire.{PortCallGives, page_shown}
use Rattle.iol_script.specs.Script.{ScriptValue, script_in, calls_in}
use Rattle.iol_script.specs.Tables.{has_no_table}
use Rattle.iol_commands.specs.Passing.{PrintsPassed}
use Rattle.iol_commands.specs.RunPlayed.{HasItsDevice, OverTable, RunsAlike, first_table_wire, first_wire, ending_text, lacks_memory}
use Rattle.iol_commands.specs.RunPrinted.{printed_answer}
use Rattle.iol_commands.specs.RunPlayed.{run_reading}
use Rattle.iol_commands.specs.Input.{CommandReading}

-- the layout of a mode, if a page asks for these; in down no message is sent
abbrev pub layout_of_mode : Mode → Layouts → Shape
layout_of_mode Down layouts = startup_shape
layout_of_mode Startup layouts = startup_shape
layout_of_mode Preoperate layouts = unwrap_or layouts.pre startup_shape
layout_of_mode Operate layouts = layouts.run

abbrev pub layout_or_startup : Mode → Result Layouts PageFault → Shape
layout_or_startup mode (Ok layouts) = layout_of_mode mode layouts
layout_or_startup mode (Err fault) = startup_shape

-- the layout of a mode in a session with this page: before it was read, that of STARTUP
abbrev pub layout_now : Mode → Option (List ℕ) → Shape
layout_now mode None = startup_shape
layout_now mode (Some page) = layout_or_startup mode (layouts_of page)

-- the layout in which a port sends, as the page of its session asks for it
abbrev pub layout_at : {W : Type 0} → PortOver W → Shape
layout_at q = layout_now (status_of q.parts.core).mode (page_shown q.parts)

-- where a trace is: the number of the next call of the wire, and the port over a tap
pub record TraceStage (W : Type 0) : Type 0 where
  pub number : ℕ
  pub port : PortOver (TappedWire W)

abbrev pub trace_stage : {W : Type 0} → ℕ → PortOver (TappedWire W) → TraceStage W
trace_stage number port = record { number = number; port = port }

-- the tap, and the wire within it
abbrev pub tap_at : {W : Type 0} → TraceStage W → TappedWire W
tap_at s = s.port.wire

abbrev pub wire_at : {W : Type 0} → TraceStage W → W
wire_at s = (tap_at s).wire

module _ {W : Type 0} (facts : WireFacts W) where
  -- what passes in a call: a turn makes one call of the wire, whose octets are shown in
  -- the layout in which the port sends before it; no other call touches the wire
  abbrev pub CallPasses : TraceStage W → Call → TraceStage W → List ℕ → Type 0
  CallPasses s Turn t text =
      (note : TapNote) × IsNoteOf facts note (wire_at s) (wire_at t)
      × PrintsPassed s.number (layout_at s.port) note text
      × (t.number ≡ s.number + 1)
  CallPasses s other t text = (text ≡ []) × (wire_at t ≡ wire_at s) × (t.number ≡ s.number)

  -- one call, which doesn't lack memory: it does to the port's own parts and to its wire
  -- just what a call does there; what passes is printed, and then what it answers
  pub record TracesCall (s : TraceStage W) (call : Call) (reply : Answered) (t : TraceStage W)
      (text : List ℕ) : Type 0 where
    pub passed : List ℕ
    pub made : PortCallGives (tap_facts facts) s.port call reply t.port
    pub granted : lacks_memory reply ≡ false
    pub passes : CallPasses s call t passed
    pub text_is : text ≡ passed ++ printed_answer call reply

  -- calls, one after the other, each with its answer
  abbrev pub Traces : TraceStage W → List Call → List Answered → TraceStage W → List ℕ → Type 0
  Traces s [] [] t text = (t ≡ s) × (text ≡ [])
  Traces s (call ∷ calls) (reply ∷ replies) t text =
      (mid : TraceStage W) × (first : List ℕ) × (later : List ℕ) × (text ≡ first ++ later)
      × TracesCall s call reply mid first × Traces mid calls replies t later
  Traces s calls replies t text = ⊥

-- a tap on a wire, with nothing noted
abbrev pub first_tap : {W : Type 0} → W → TappedWire W
first_tap wire = record { wire = wire; last = None }

-- What is printed for calls: what passes and what they answer, and then the end. They
-- are made on a new port over a tap on this wire; with one device, as the port wants it, the
-- abstract port makes them alike.
pub record TracesOut {P M : Type 0} (facts : BesideFacts P M) (devices : Devices)
    (limits : Limits) (wire : SimulatedWire P M) (calls : List Call) (text : List ℕ)
    : Type 0 where
  pub answers : List Answered
  pub first : PortOver (TappedWire (SimulatedWire P M))
  pub opens : IsNewFor devices limits first.parts
  pub over_tap : first.wire ≡ first_tap wire
  pub last : TraceStage (SimulatedWire P M)
  pub calls_text : List ℕ
  pub traces : Traces (sim_facts facts) (trace_stage 1 first) calls answers last calls_text
  pub alike : HasItsDevice devices wire → RunsAlike devices limits wire calls answers (wire_at last)
  pub text_is : text ≡ calls_text ++ ending_text calls (wire_at last)

-- what `trace` prints for the calls of a script: the device has its parameters alone, or a table
abbrev pub TracesScript : ScriptValue → List Call → List ℕ → Type 0
TracesScript script calls text = MatchBool (has_no_table script.table)
    (TracesOut (plain_facts Stores) script.devices script.limits (first_wire script) calls text)
    (OverTable script (λ table. TracesOut parameters_facts script.devices script.limits
    (first_table_wire script table) calls text))

-- what `trace` prints for lines, which are a script
abbrev pub PrintsTrace : List (ℕ × List ℕ) → List ℕ → Type 0
PrintsTrace lines text =
    IsSomeAnd (script_in lines) (λ script. TracesScript script (calls_in lines) text)

-- a text is printed behind what waits to be written: of both, the first part is
-- written, and the rest waits
pub record Flows (old new : Option (List ℕ)) (waits left text : List ℕ) : Type 0 where
  pub written : List ℕ
  pub appends : Appends old new written
  pub rest : waits ++ text ≡ written ++ left

-- how far a trace is: the number of the next call of the wire, what waits to be
-- written, what is written, and the port
pub record TracePlace (W : Type 0) : Type 0 where
  pub number : ℕ
  pub waits : List ℕ
  pub written : Option (List ℕ)
  pub port : PortOver (TappedWire W)

abbrev pub place : {W : Type 0} → ℕ → List ℕ → Option (List ℕ) → PortOver (TappedWire W)
    → TracePlace W
place number waits written port =
    record { number = number; waits = waits; written = written; port = port }

module _ {W : Type 0} (facts : WireFacts W) where
  -- calls of a port over a tap are traced, from the one number to the other; and whatever
  -- abstract port it stands for, that makes these calls with the same answers
  pub record PortTraces (number : ℕ) (p : PortOver (TappedWire W)) (calls : List Call) (after : ℕ)
      (next : PortOver (TappedWire W)) (text : List ℕ) : Type 0 where
    pub answers : List Answered
    pub traces : Traces facts (trace_stage number p) calls answers (trace_stage after next) text
    pub runs : Runs (tap_facts facts) p calls answers next

  -- from one place to the next: these calls are traced, and their text is printed behind what waits
  pub record TracesFrom (old : TracePlace W) (calls : List Call) (new : TracePlace W) : Type 0 where
    pub text : List ℕ
    pub flows : Flows old.written new.written old.waits new.waits text
    pub traced : PortTraces old.number old.port calls new.number new.port text

-- what is printed of the note of a wire, once a call was made: of a turn the note
-- is that of its call of the wire
abbrev pub PrintsNoteOf : Call → ℕ → Shape → Option TapNote → ℕ → List ℕ → Type 0
PrintsNoteOf Turn number layout (Some note) after text = PrintsPassed number layout note text
    × (after ≡ number + 1)
PrintsNoteOf other number layout last after text = (text ≡ []) × (after ≡ number)

-- what `trace` makes of its lines
abbrev pub trace_reading : CommandReading
trace_reading = record run_reading { prints = PrintsTrace }
