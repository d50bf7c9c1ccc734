-- How a request is carried out, saved, and then answered.
use Rattle.std.specs.Prelude.{ℕ, Bool, true, false, Option, Some, None}
use Rattle.iol_isdu.specs.declared.values.Request.{Request}
use Rattle.iol_isdu.specs.declared.values.Answer.{Answer}
use Rattle.iol_isdu.specs.declared.values.Answer.TheVariants.{Read, Written, Refused}
use Rattle.iol_far.specs.Isdu.{handed_request}
use Rattle.iol_far.specs.Far.{Far}
use Rattle.iol_far.specs.Local.{local, Carry}
use Rattle.iol_device.specs.Device.{Running}
use Rattle.iol_device.specs.Number.{answer_refusal}
use Rattle.iol_device.specs.declared.app.Apart.{Apart}
use Rattle.iol_device.specs.declared.fault.DeviceFault.{DeviceFault}
use Rattle.iol_params.specs.declared.error_type.ErrorType.{ErrorType}
use Rattle.iol_params.specs.declared.state.Activity.{Activity}
use Rattle.iol_params.specs.State.{ParamState, is_at_rest}
use Rattle.iol_params.specs.Requests.{request_result}
use Rattle.iol_param_device.specs.Device.{both, after_event}
use Rattle.iolink_params_c.specs.declared.sensor.ParamSensor.{ParamSensor}
use Rattle.iolink_params_c.specs.declared.sensor.Unsaved.{Unsaved}
use Rattle.iolink_params_c.specs.declared.sensor.Unsaved.TheVariants.{Nothing, Change, Write}
use Rattle.iolink_params_c.specs.Line.{with_state}

abbrev pub is_nothing : Unsaved → Bool
is_nothing Nothing = true
is_nothing Change = false
is_nothing (Write number) = false

-- whether an answer tells of what has to be saved first: a write is done, and nothing is under way
abbrev pub is_saved_first : Answer → Activity → Bool
is_saved_first (Read octets) activity = false
is_saved_first Written activity = is_at_rest activity
is_saved_first (Refused code additional) activity = false

-- an answer, by what it is refused with
abbrev pub far_unless : Option DeviceFault → Far → Answer → Far
far_unless None far answer = local far (Carry answer)
far_unless (Some fault) far answer = far

-- the request of this number has this answer, where it still waits for one
abbrev pub far_answered : Running Apart → ℕ → Answer → Far
far_answered device number answer =
    far_unless (answer_refusal device number answer) device.far answer

-- what a request came to is to be saved first, or the request has its answer
abbrev pub sensor_after_answer : Bool → Answer → ParamSensor → ParamSensor
sensor_after_answer true answer s = record s { unsaved = Write s.device.number }
sensor_after_answer false answer s = record s {
  device = record s.device { far = far_answered s.device s.device.number answer };
}

-- the request that is handed over, if any, is carried out
abbrev pub after_handed : Option Request → ParamSensor → ParamSensor
after_handed None s = s
after_handed (Some request) s =
    let done = request_result s.manager.table s.manager.state request in
    sensor_after_answer (is_saved_first done.0 done.1.activity) done.0 (with_state s done.1)

-- the event that is due is raised
abbrev pub after_report : ParamSensor → ParamSensor
after_report s = let reported = after_event (both s.device.far s.manager.state) in
    record (with_state s reported.state) { device = record s.device { far = reported.far } }

abbrev pub if_nothing : Bool → ParamSensor → ParamSensor → ParamSensor
if_nothing true s done = done
if_nothing false s done = s

-- what `work` makes of a device: nothing, while something is to be saved
abbrev pub sensor_after_work : ParamSensor → ParamSensor
sensor_after_work s = let done = after_handed (handed_request s.device.far.isdu) s in
    if_nothing (is_nothing s.unsaved) s
    (if_nothing (is_nothing done.unsaved) done (after_report done))

-- what was to be saved is saved: the write that waits for it has its answer
abbrev pub sensor_after_save : Unsaved → ParamSensor → ParamSensor
sensor_after_save Nothing s = s
sensor_after_save Change s = record s { unsaved = Nothing }
sensor_after_save (Write number) s = record s {
  device = record s.device { far = far_answered s.device number Written };
  unsaved = Nothing;
}

-- a change at the device itself is to be saved, unless it was refused
abbrev pub sensor_after_change : Option ErrorType × ParamState → ParamSensor → ParamSensor
sensor_after_change (None, state) s = record (with_state s state) { unsaved = Change }
sensor_after_change (Some why, state) s = with_state s state
