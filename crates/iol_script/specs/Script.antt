-- What the lines of `run` make, one after the other.
use Rattle.std.specs.Prelude.{◌≡◌, ◌≤◌, ℕ, ◌+◌, ◌-◌, Bool, true, false, Option, Some, None, is_none, unwrap_or, option_map, option_and_then, Result, Ok, IsOk, List, [], ◌∷◌, ◌++◌, length, replicate, fold, flat_map, nat_le, nat_lt, ◌&&◌, ◌||◌, ◌==◌, if◌then◌else◌}
use Rattle.std.specs.Option.{ForSome, option_map_or}
use Rattle.std.specs.List.{list_any}
use Rattle.std.specs.Vec.{vec_len}
use Rattle.iol_page.specs.Page.{layouts_of}
use Rattle.std.specs.Result.{result_ok, result_err}
use Rattle.iol_book.specs.declared.limits.Limits.{Limits}
use Rattle.iol_far.specs.declared.kind.Kind.{Kind}
use Rattle.iol_far.specs.Isdu.{own}
use Rattle.iol_isdu.specs.declared.values.Place.{Place}
use Rattle.iol_mode.specs.declared.configuration.Devices.{Devices}
use Rattle.iol_mode.specs.declared.configuration.Devices.TheVariants.{Own}
use Rattle.iol_sim.specs.Params.{number_at_place}
use Rattle.iol_sim.specs.declared.params.ParameterEntry.{ParameterEntry}
use Rattle.iol_sim.specs.declared.script.Fate.TheVariants.{Clean}
use Rattle.iol_sim.specs.declared.script.Step.{Step}
use Rattle.iol_sim.specs.declared.script.Step.TheVariants.{Change, Fate, Swap}
use Rattle.iol_script.specs.Text.{line_read}
use Rattle.iol_script.specs.RunLines.{run_form}
use Rattle.iol_script.specs.Tables.{TableRules, has_no_table, no_table, with_stored_index, with_range, with_rule}
use Rattle.iol_port.specs.declared.call.Call.{Call}
use Rattle.iol_port.specs.declared.call.Call.TheVariants.{Turn}
use Rattle.iol_script.specs.declared.setting.Setting.{Setting}
use Rattle.iol_script.specs.declared.setting.Setting.TheVariants as setting
use Rattle.iol_script.specs.declared.wire_line.WireLine.{WireLine}
use Rattle.iol_script.specs.declared.wire_line.WireLine.TheVariants.{Fates, One}
use Rattle.iol_script.specs.declared.call_line.CallLine.{CallLine}
use Rattle.iol_script.specs.declared.call_line.CallLine.TheVariants.{Once, Turns}
use Rattle.iol_script.specs.declared.run_line.RunLine.{RunLine}
use Rattle.iol_script.specs.declared.run_line.RunLine.TheVariants as line
use Rattle.iol_script.specs.declared.script.Script.{Script}

-- a script, as far as its lines are read
pub record DraftValue : Type 0 where
  -- the page, that of a second device, the kind, for which devices the port is, and the limits,
  -- where a line gave them; whether one said that the device may miss pulses, and whether one said
  -- that lines of the wire act where they stand
  pub page : Option (List ℕ)
  pub other : Option (List ℕ)
  pub kind : Option Kind
  pub misses_pulses : Bool
  pub in_order : Bool
  pub devices : Option Devices
  pub limits : Option Limits
  pub params : List ParameterEntry
  pub table : TableRules
  pub steps : List Step
  -- how many calls there are, and how many of them are turns
  pub calls : ℕ
  pub turns : ℕ
  -- whether a line of the wire or a call came: then no setting is taken any more
  pub begun : Bool

-- no line is read
abbrev pub empty_draft : DraftValue
empty_draft = record {
  page = None;
  other = None;
  kind = None;
  misses_pulses = false;
  in_order = false;
  devices = None;
  limits = None;
  params = [];
  table = no_table;
  steps = [];
  calls = 0;
  turns = 0;
  begun = false;
}

-- the steps of a line of the wire
abbrev pub steps_of : WireLine → List Step
steps_of (Fates fate n) = replicate n (Fate fate)
steps_of (One step) = step ∷ []

-- how many steps are fates
abbrev pub is_fate : Step → Bool
is_fate (Fate fate) = true
is_fate other = false

abbrev pub fates_in : List Step → ℕ
fates_in [] = 0
fates_in (step ∷ steps) = if is_fate step then 1 + fates_in steps else fates_in steps

-- whether a line of the wire exchanges the devices
abbrev pub is_swap : WireLine → Bool
is_swap (One Swap) = true
is_swap other = false

-- the calls of a line
abbrev pub line_calls : CallLine → List Call
line_calls (Once call) = call ∷ []
line_calls (Turns n) = replicate n Turn

-- how many turns a line makes
abbrev pub line_turns : CallLine → ℕ
line_turns (Once call) = 0
line_turns (Turns n) = n

-- or changes a parameter at the device itself
abbrev pub is_change : WireLine → Bool
is_change (One (Change place octets)) = true
is_change other = false

-- one more parameter is taken at a place: it is one of 32 at places of their own
abbrev pub takes_param : List ParameterEntry → Place → Bool
takes_param params place = nat_lt (length params) 32 && is_none (number_at_place params place)

-- whether a parameter of an Index can be written
abbrev pub has_writable : List ParameterEntry → ℕ → Bool
has_writable params index =
    list_any (λ param. (param.place.index == index) && param.writable) params

-- a draft with a table, if there is one
abbrev pub with_table : DraftValue → Option TableRules → Option DraftValue
with_table draft table = option_map (λ t. record draft { table = t }) table

-- a draft, where a setting of it is not given yet
abbrev pub once : {T : Type 0} → Option T → DraftValue → Option DraftValue
once previous draft = if is_none previous then Some draft else None

-- the draft after a setting: each but those of parameters is given at most once
abbrev pub with_setting : DraftValue → Setting → Option DraftValue
with_setting draft (setting.Page octets) = once draft.page (record draft { page = Some octets })
with_setting draft (setting.Other octets) = once draft.other (record draft { other = Some octets })
with_setting draft (setting.Kind kind) = once draft.kind (record draft { kind = Some kind })
with_setting draft setting.MissesPulses =
    if draft.misses_pulses then None else Some (record draft { misses_pulses = true })
with_setting draft setting.InOrder =
    if draft.in_order then None else Some (record draft { in_order = true })
with_setting draft (setting.Devices ds) = once draft.devices (record draft { devices = Some ds })
with_setting draft (setting.Limits busy journal queue) = once draft.limits
    (record draft {
      limits = Some (record { journal = journal; busy = busy; queue = queue; given = 0 });
    })
with_setting draft (setting.Param place writable value) =
    if takes_param draft.params place
    then Some
    (record draft {
      params = draft.params
          ++ record { place = place; writable = writable; value = value } ∷ [];
    })
    else None
with_setting draft (setting.Stored index) =
    if has_writable draft.params index
    then with_table draft (with_stored_index draft.table index) else None
with_setting draft (setting.Range range) =
    if is_none (number_at_place draft.params range.place) then None
    else with_table draft (with_range draft.table range)
with_setting draft (setting.AtMost rule) = with_table draft (with_rule draft.table rule)

-- a draft with at most 1,000,000 steps and 1,000,000 calls
abbrev pub in_bounds : DraftValue → Option DraftValue
in_bounds draft =
    if nat_le (length draft.steps) 1000000 && nat_le draft.calls 1000000 then Some draft else None

-- how many of the turns so far have no fate, where lines of the wire act where they stand
abbrev pub lacking_fates : DraftValue → ℕ
lacking_fates draft = if draft.in_order then draft.turns - fates_in draft.steps else 0

-- the draft with the steps of a line of the wire: in order, the turns above it that have no fate
-- get a clean one first
abbrev pub with_steps : DraftValue → WireLine → DraftValue
with_steps draft wire = record draft {
  steps = draft.steps ++ replicate (lacking_fates draft) (Fate Clean) ++ steps_of wire;
  begun = true;
}

-- the draft with so many more calls, of which so many are turns
abbrev pub with_calls : DraftValue → ℕ → ℕ → DraftValue
with_calls draft count turns =
    record draft { calls = draft.calls + count; turns = draft.turns + turns; begun = true }

-- whether a line of the wire lacks what it needs: a second device, or a table
abbrev pub lacks : DraftValue → WireLine → Bool
lacks draft wire = (is_swap wire && is_none draft.other)
    || (is_change wire && has_no_table draft.table)

-- the draft after a line, where the line is good in its place
abbrev pub script_after : DraftValue → RunLine → Option DraftValue
script_after draft line.Skip = Some draft
script_after draft (line.Setting setting) = if draft.begun then None else with_setting draft setting
script_after draft (line.Wire wire) =
    if lacks draft wire then None else in_bounds (with_steps draft wire)
script_after draft (line.Call call) =
    in_bounds (with_calls draft (length (line_calls call)) (line_turns call))

-- the draft after a line with its number, or the number of the first bad line: it
-- fits no form, or is refused in its place
abbrev pub draft_after : Result DraftValue ℕ → ℕ × List ℕ → Result DraftValue ℕ
draft_after = line_read (λ draft line. option_and_then (script_after draft) (run_form line))

-- the draft of lines, or the number of the first bad one
abbrev pub draft_of : List (ℕ × List ℕ) → Result DraftValue ℕ
draft_of lines = fold draft_after (Ok empty_draft) lines

-- the number of the first bad line
abbrev pub first_bad_run : List (ℕ × List ℕ) → Option ℕ
first_bad_run lines = result_err (draft_of lines)

-- what a script sets up
pub record ScriptValue : Type 0 where
  -- direct parameter page 1 of the device, that of a second one, the kind of the first, whether
  -- that may miss pulses, and the parameters that each of them has
  pub page : List ℕ
  pub other : Option (List ℕ)
  pub kind : Kind
  pub misses_pulses : Bool
  pub params : List ParameterEntry
  -- what is said of their table
  pub table : TableRules
  -- for which devices, and with what limits, the port is opened
  pub devices : Devices
  pub limits : Limits
  -- the steps of the wire
  pub steps : List Step

-- what holds of a script that was read: the pages have layouts, as many parameters as devices have
-- at most, a port that gave no ticket yet, and as many steps as may be
pub record IsScript {A : Type 0} (script : Script A) : Type 0 where
  pub page : IsOk (layouts_of script.page)
  pub other : ForSome script.other (λ page. IsOk (layouts_of page))
  pub params : vec_len script.params ≤ 32
  pub given : script.limits.given ≡ 0
  pub steps : vec_len script.steps ≤ 1000000

-- a script without its memory
abbrev pub value_of : {A : Type 0} → Script A → ScriptValue
value_of script = record {
  page = script.page;
  other = script.other;
  kind = script.kind;
  misses_pulses = script.misses_pulses;
  params = script.params.items;
  table = script.table;
  devices = script.devices;
  limits = script.limits;
  steps = script.steps.items;
}

-- a draft with what no line gave
abbrev pub script_of : DraftValue → ScriptValue
script_of draft = record {
  page = unwrap_or draft.page
      (0x17 ∷ 0x2D ∷ 0x11 ∷ 0x00 ∷ 0x00 ∷ 0x12 ∷ 0x34 ∷ 0x00 ∷ 0x01 ∷ 0x07 ∷ []);
  other = draft.other;
  kind = unwrap_or draft.kind own;
  misses_pulses = draft.misses_pulses;
  params = draft.params;
  table = draft.table;
  devices = unwrap_or draft.devices Own;
  limits = unwrap_or draft.limits
      (record { journal = 1000; busy = 100; queue = 64; given = 0 });
  steps = draft.steps;
}

-- the script of good lines
abbrev pub script_in : List (ℕ × List ℕ) → Option ScriptValue
script_in lines = option_map script_of (result_ok (draft_of lines))

-- the calls that a line makes, if any
abbrev pub calls_of : RunLine → List Call
calls_of (line.Call call) = line_calls call
calls_of other = []

-- the calls of lines, in their order
abbrev pub calls_in : List (ℕ × List ℕ) → List Call
calls_in lines = flat_map (λ line. option_map_or calls_of (run_form line.1) []) lines
