-- A table of parameters beside a simulated device.
use Rattle.std.proofs.Common.{refl, ap, ◌∙◌}
use Rattle.std.specs.Prelude.{◌≡◌, ℕ, Bool, true, false, not, ◌&&◌, nat_lt, [], ◌∷◌, length, Option, Some, None, IsTrue}
use Rattle.iol_isdu.specs.declared.values.Request.{Request}
use Rattle.iol_event.specs.Memory.{is_full}
use Rattle.iol_far.specs.Isdu.{handed_request}
use Rattle.iol_far.specs.Local.{Carry, Raise}
use Rattle.iol_device.specs.declared.app.Apart.{Apart}
use Rattle.iol_params.specs.Table.{ParamTable}
use Rattle.iol_params.specs.State.{ParamState, after_end, after_quiet}
use Rattle.iol_params.specs.Carry.{local_change}
use Rattle.iol_params.specs.Requests.{request_result}
use Rattle.iol_params.specs.Image.{lasting_of, with_lasting}
use Rattle.iol_params.specs.Manager.{ManagerValue}
use Rattle.iol_param_device.specs.Device.{Both, both, after_request, event_reported, after_event, after_work, goes_back, ended_if, upload_event}
use Rattle.iol_sim.specs.OwnSteps.{Own, own_and}
use Rattle.iol_sim.specs.Beside.{Stand, BesideFacts}

-- a manager, and how many requests the device's record has room for
pub record ParametersValue : Type 0 where
  pub manager : ManagerValue
  pub room : ℕ

abbrev pub with_param_state : ParametersValue → ParamState → ParametersValue
with_param_state p state = record p { manager = record p.manager { state = state } }

-- what `work` makes of a far end and a manager's state, where the record has room and where it
-- hasn't: then no request is carried out
abbrev pub after_work_by : Bool → ParamTable → Both → Both
after_work_by true table b = after_work table b
after_work_by false table b = after_event b

-- both with a far end and a state
abbrev pub with_both : Stand Apart ParametersValue → Both → Stand Apart ParametersValue
with_both s b =
    record { device = record s.device { far = b.far }; beside = with_param_state s.beside b.state }

abbrev pub stand_after_work : Stand Apart ParametersValue → Stand Apart ParametersValue
stand_after_work s = with_both s (after_work_by (nat_lt (length s.device.far.carried) s.beside.room)
    s.beside.manager.table (both s.device.far s.beside.manager.state))

-- It is some steps of the far end

request_own : (request : Option Request) (table : ParamTable) (b : Both)
    → Own b.far (after_request request table b).far
request_own None table b = record { steps = []; is = refl }
request_own (Some request) table b =
    record { steps = Carry (request_result table b.state request).0 ∷ []; is = refl }

reported_own : (reported : Bool) (b : Both) → Own b.far (event_reported reported b).far
reported_own true b = record { steps = Raise upload_event ∷ []; is = refl }
reported_own false b = record { steps = []; is = refl }

pub work_own : (room : Bool) (table : ParamTable) (b : Both)
    → Own b.far (after_work_by room table b).far
work_own true table b =
    let mid : Both = after_request (handed_request b.far.isdu) table b in
    own_and b.far mid.far (after_event mid).far
    (request_own (handed_request b.far.isdu) table b)
    (reported_own (mid.state.event_due && not (is_full mid.far.events)) mid)
work_own false table b = reported_own (b.state.event_due && not (is_full b.far.events)) b

-- it may raise an event, too
pub not_plain : {A : Type 0} → IsTrue false → A
not_plain e = absurd (cc)

-- what stands beside the device: an activity ends with a wake-up request, where the device goes
-- back, and in silence, which cuts a download off; a power cycle brings what was saved last, which
-- is what is in force; a change that is refused changes nothing
abbrev pub parameters_facts : BesideFacts Apart ParametersValue
parameters_facts = record {
  works = λ old new. new ≡ stand_after_work old;
  ended = λ p. with_param_state p (after_end p.manager.state);
  silenced = λ p. with_param_state p (after_quiet p.manager.state);
  heard = λ before now p. with_param_state p (ended_if (goes_back before now) p.manager.state);
  cycled = λ p. with_param_state p
      (with_lasting p.manager.state (Some (lasting_of p.manager.state)));
  changed = λ p place octets.
      with_param_state p (local_change p.manager.table p.manager.state place octets).1;
  is_work = λ old new h. record {
    first = ap (λ s. s.device.first) h;
    own = own_by old new h;
  };
  is_plain = false;
  works_off = λ plain. not_plain plain;
}
  where
    own_by : (old new : Stand Apart ParametersValue) → new ≡ stand_after_work old
        → Own old.device.far new.device.far
    own_by old new h = own_there (work_own
        (nat_lt (length old.device.far.carried) old.beside.room) old.beside.manager.table
        (both old.device.far old.beside.manager.state))
      where
        own_there : Own old.device.far (stand_after_work old).device.far
            → Own old.device.far new.device.far
        own_there own = record { steps = own.steps; is = ap (λ s. s.device.far) h ∙ own.is }
