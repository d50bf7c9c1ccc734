-- What a device with parameters does as any device does.
use Rattle.std.specs.Prelude.{ℕ, if◌then◌else◌}
use Rattle.iol_far.specs.Far.{Far}
use Rattle.iol_far.specs.Local.{local, LocalStep}
use Rattle.iol_far.specs.declared.mode.DeviceMode.{DeviceMode}
use Rattle.iol_far.specs.declared.mode.DeviceMode.TheVariants.{Startup, Preoperate, Operate}
use Rattle.iolink_params_c.specs.declared.sensor.ParamSensor.{ParamSensor}

-- this happens at its end of the line
abbrev pub with_far : LocalStep → ParamSensor → ParamSensor
with_far step s = record s { device = record s.device { far = local s.device.far step } }

-- a mode's number
abbrev pub mode_code : DeviceMode → ℕ
mode_code Startup = 2
mode_code Preoperate = 3
mode_code Operate = 4

-- the mode of a device, 1 while it is asleep
abbrev pub mode_shown : Far → ℕ
mode_shown far = if far.awake then mode_code far.mode else 1
