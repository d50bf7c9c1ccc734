-- Whether a device is as one that may miss pulses, computed.
use Rattle.std.specs.Prelude.{Bool, true, false, not, ◌&&◌, Option, Some, None}
use Rattle.iol_mseq.specs.declared.master.MasterMsg.{MasterMsg}
use Rattle.iol_far.specs.declared.mode.DeviceMode.{DeviceMode}
use Rattle.iol_far.specs.declared.mode.DeviceMode.TheVariants.{Startup, Operate}
use Rattle.iol_far.specs.Isdu.{IsduState, Empty}
use Rattle.iol_far.specs.Codec.{message_in}
use Rattle.iol_far.specs.Far.{Far, WaitingCommand, layout_of, is_mode, mode_asked, known_mode, command_in}

abbrev pub is_isdu_empty : IsduState → Bool
is_isdu_empty Empty = true
is_isdu_empty state = false

-- this mode, and no other and not none
abbrev pub is_that : Option DeviceMode → DeviceMode → Bool
is_that None mode = false
is_that (Some asked) mode = is_mode asked mode

abbrev pub asks_for : Far → DeviceMode → Option MasterMsg → Bool
asks_for far mode None = true
asks_for far mode (Some message) =
    is_that (known_mode far.page (mode_asked (command_in message))) mode

abbrev pub is_asked : Far → WaitingCommand → Bool
is_asked far command = not (is_mode far.mode command.into)
    && asks_for far command.into (message_in (layout_of far) command.octets)

abbrev pub is_asked_if : Far → Option WaitingCommand → Bool
is_asked_if far None = true
is_asked_if far (Some command) = is_asked far command

abbrev pub is_orderly : Far → Bool
is_orderly far = not (is_mode far.mode Startup && not (is_isdu_empty far.isdu))
    && not (far.valid && not (is_mode far.mode Operate)) && is_asked_if far far.waits
