-- A device with parameters.
use Rattle.std.specs.Prelude.{Bool, true, false, ◌&&◌, not, Option, Some, None}
use Rattle.iol_isdu.specs.declared.values.Request.{Request}
use Rattle.iol_isdu.specs.Answers.{is_read}
use Rattle.iol_event.specs.declared.event.Event.{Event}
use Rattle.iol_event.specs.Memory.{is_full}
use Rattle.iol_far.specs.declared.mode.DeviceMode.{DeviceMode}
use Rattle.iol_far.specs.declared.mode.DeviceMode.TheVariants.{Startup, Preoperate, Operate}
use Rattle.iol_far.specs.Far.{Far}
use Rattle.iol_far.specs.Isdu.{handed_request}
use Rattle.iol_far.specs.Local.{local, Carry, Raise}
use Rattle.iol_device.specs.Device.{Running}
use Rattle.iol_device.specs.declared.app.Apart.{Apart}
use Rattle.iol_params.specs.Table.{ParamTable}
use Rattle.iol_params.specs.State.{ParamState, after_end}
use Rattle.iol_params.specs.Requests.{request_result}
use Rattle.iol_params.specs.Manager.{ManagerValue}

pub record ParamDeviceValue (S : Type 0) : Type 0 where
  pub device : Running Apart
  pub manager : ManagerValue
  pub slots : S

-- a far end and a manager's state
pub record Both : Type 0 where
  pub far : Far
  pub state : ParamState

abbrev pub both : Far → ParamState → Both
both far state = record { far = far; state = state }

-- DS_UPLOAD_REQ, a single notification of the application
-- DSD-6
abbrev pub upload_event : Event
upload_event = record { qualifier = 84; code = 65425 }

-- the request that is handed over, if any, is carried out, and has its answer
abbrev pub after_request : Option Request → ParamTable → Both → Both
after_request None table b = b
after_request (Some request) table b =
    both (local b.far (Carry (request_result table b.state request).0))
    (request_result table b.state request).1

-- the event is raised, if it is due and the memory takes it
-- DSD-6
abbrev pub event_reported : Bool → Both → Both
event_reported false b = b
event_reported true b =
    both (local b.far (Raise upload_event)) (record b.state { event_due = false })

abbrev pub after_event : Both → Both
after_event b = event_reported (b.state.event_due && not (is_full b.far.events)) b

-- what `work` makes of them
abbrev pub after_work : ParamTable → Both → Both
after_work table b = after_event (after_request (handed_request b.far.isdu) table b)

-- whether they change no value: no request is handed over, or a read
abbrev pub works_on_read : Option Request → Bool
works_on_read None = true
works_on_read (Some request) = is_read request

-- whether a device goes back, from OPERATE or to STARTUP
abbrev pub goes_back : DeviceMode → DeviceMode → Bool
goes_back Operate Startup = true
goes_back Operate Preoperate = true
goes_back Operate Operate = false
goes_back Preoperate Startup = true
goes_back Preoperate Preoperate = false
goes_back Preoperate Operate = false
goes_back Startup mode = false

-- then what is under way ends
-- ACT-5
abbrev pub ended_if : Bool → ParamState → ParamState
ended_if true s = after_end s
ended_if false s = s
