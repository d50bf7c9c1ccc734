-- A master that is silent, and the message that ends this.
use Rattle.std.specs.Prelude.{Bool, true, false, if◌then◌else◌, ℕ, List, Option, Some, None}
use Rattle.iol_mseq.specs.declared.master.MasterMsg.{MasterMsg}
use Rattle.iol_page.specs.declared.master_command.MasterCommand.{MasterCommand}
use Rattle.iol_page.specs.declared.master_command.MasterCommand.TheVariants.{ProcessDataOutputOperate}
use Rattle.iol_far.specs.declared.mode.DeviceMode.{DeviceMode}
use Rattle.iol_far.specs.declared.mode.DeviceMode.TheVariants.{Operate}
use Rattle.iol_far.specs.Far.{Far, accepted_message, command_in, output_of}
use Rattle.iol_device.specs.Device.{Running}

-- whether a command that comes in this mode says that the output is valid
abbrev pub says_valid : DeviceMode → Option MasterCommand → Bool
says_valid Operate (Some ProcessDataOutputOperate) = true
says_valid mode command = false

-- whether octets say so, by the message that they are and the far end that accepts it
abbrev pub ends_silence : Option (Far × MasterMsg) → Bool
ends_silence None = false
ends_silence (Some (there, message)) = says_valid there.mode (command_in message)

-- whether the master counts as silent once the far end has heard these octets
-- DEV-19
abbrev pub silent_after : Bool → Far → List ℕ → Bool
silent_after silent far octets =
    if ends_silence (accepted_message far octets) then false else silent

-- the process data out that a device shows
-- DEV-19
abbrev pub device_output : {P : Type 0} → Running P → Option (List ℕ)
device_output device = if device.silent then None else output_of device.far
