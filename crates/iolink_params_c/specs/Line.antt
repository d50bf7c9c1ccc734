-- What the line makes of a device with parameters.
use Rattle.std.specs.Prelude.{ℕ, true, List}
use Rattle.iol_far.specs.Local.{far_after_wake}
use Rattle.iol_device.specs.Hearing.{device_after_hearing}
use Rattle.iol_params.specs.State.{ParamState, after_end, after_quiet}
use Rattle.iol_param_device.specs.Device.{goes_back, ended_if}
use Rattle.iolink_params_c.specs.declared.sensor.ParamSensor.{ParamSensor}

-- its parameters have this state
abbrev pub with_state : ParamSensor → ParamState → ParamSensor
with_state s state = record s { manager = record s.manager { state = state } }

-- octets came; where the device goes back, an activity ends
abbrev pub sensor_after_octets : List ℕ → ParamSensor → ParamSensor
sensor_after_octets octets s = let device = device_after_hearing s.device octets in
    record (with_state s (ended_if (goes_back s.device.far.mode device.far.mode)
    s.manager.state)) { device = device }

-- a wake-up request came; an activity ends
abbrev pub sensor_after_wake : ParamSensor → ParamSensor
sensor_after_wake s = record (with_state s (after_end s.manager.state)) {
  device = record s.device { far = far_after_wake s.device.far };
}

-- the master counts as silent; an activity ends, and a download was cut off
abbrev pub sensor_after_silence : ParamSensor → ParamSensor
sensor_after_silence s = record (with_state s (after_quiet s.manager.state)) {
  device = record s.device { silent = true };
}
