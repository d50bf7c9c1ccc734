-- A draft: what its fields hold, and what a line makes of it.
use Rattle.std.specs.Prelude.{◌≡◌, ◌≤◌, ℕ, Option, Some, None, Result, Err, IsOk, OnOk, length, option_map, option_and_then}
use Rattle.std.specs.Option.{ForSome}
use Rattle.iol_page.specs.Page.{layouts_of}
use Rattle.iol_script.specs.Script.{DraftValue, fates_in, script_after}
use Rattle.iol_script.specs.declared.draft.Draft.TheInside.{Inside}
use Rattle.iol_script.specs.declared.fault.ScriptFault.{ScriptFault}
use Rattle.iol_script.specs.declared.fault.ScriptFault.TheVariants.{Line}
use Rattle.iol_script.specs.declared.run_line.RunLine.{RunLine}

-- the draft after a line of a kind, by the form that its words fit, where it is good in its place
abbrev pub after_form : {T : Type 0} → (T → RunLine) → DraftValue → Option T → Option DraftValue
after_form kind draft form = option_and_then (script_after draft) (option_map kind form)

-- a line is taken, or its number is said where it is bad
pub record LineIsTaken (draft : Option DraftValue) (number : ℕ)
    (result : Result (Unit {0}) ScriptFault)
    (next : DraftValue) : Type 0 where
  pub good : OnOk result (draft ≡ Some next)
  pub bad : (n : ℕ) → result ≡ Err (Line n) → (n ≡ number) × (draft ≡ None)

module _ {A : Type 0} where
  -- a draft without its memory
  abbrev pub draft_view : Inside A → DraftValue
  draft_view fields = record {
    page = fields.page;
    other = fields.other;
    kind = fields.kind;
    misses_pulses = fields.misses_pulses;
    in_order = fields.in_order;
    devices = fields.devices;
    limits = fields.limits;
    params = fields.params.items;
    table = fields.table;
    steps = fields.steps.items;
    calls = fields.calls;
    turns = fields.turns;
    begun = fields.begun;
  }

  -- what holds of the fields of every draft
  pub record DraftIsSound (fields : Inside A) : Type 0 where
    pub page : ForSome fields.page (λ octets. IsOk (layouts_of octets))
    pub other : ForSome fields.other (λ octets. IsOk (layouts_of octets))
    pub params : length fields.params.items ≤ 32
    pub given : ForSome fields.limits (λ limits. limits.given ≡ 0)
    pub steps : length fields.steps.items ≤ 1000000
    pub fates : fields.fates ≡ fates_in fields.steps.items
    pub calls : fields.calls ≤ 1000000
    pub turns : fields.turns ≤ fields.calls
