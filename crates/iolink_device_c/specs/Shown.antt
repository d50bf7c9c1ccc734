-- What C is shown of a device, as numbers.
use Rattle.std.specs.Prelude.{◌≡◌, ℕ, if◌then◌else◌, Option, Some, None}
use Rattle.iol_isdu.specs.declared.values.Request.{Request}
use Rattle.iol_far.specs.Far.{Far}
use Rattle.iol_far.specs.declared.mode.DeviceMode.{DeviceMode}
use Rattle.iol_far.specs.declared.mode.DeviceMode.TheVariants.{Startup, Preoperate, Operate}
use Rattle.iolink_handle.specs.declared.request.IolRequest.{IolRequest}
use Rattle.iolink_handle.specs.Shown.{RequestIsShown}

-- a request, or kind 0 where there is none
abbrev pub IsShown : Option Request → IolRequest → Type 0
IsShown None out = out.kind ≡ 0
IsShown (Some request) out = RequestIsShown request out

-- a mode's number
abbrev pub mode_number : DeviceMode → ℕ
mode_number Startup = 2
mode_number Preoperate = 3
mode_number Operate = 4

-- the mode of a device, 1 while it is asleep
abbrev pub shown_mode : Far → ℕ
shown_mode far = if far.awake then mode_number far.mode else 1
