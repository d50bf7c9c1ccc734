-- The mode whose layout a line speaks.
use Rattle.std.specs.Prelude.{ℕ, nat_eq, if◌then◌else◌, List, Option, Some, None, is_some, Result, Ok}
use Rattle.std.specs.List.{starts_with}
use Rattle.iol_mseq.specs.declared.master.MasterMsg.{MasterMsg}
use Rattle.iol_page.specs.declared.page.Layouts.{Layouts}
use Rattle.iol_far.specs.declared.mode.DeviceMode.{DeviceMode}
use Rattle.iol_far.specs.declared.mode.DeviceMode.TheVariants.{Startup, Preoperate, Operate}
use Rattle.iol_far.specs.Far.{command_in, mode_asked, waits_after}
use Rattle.iol_far.specs.Level.{FarLink, accepting_link}
use Rattle.iol_judge.specs.declared.open.Open.{Open}

abbrev pub started_link : FarLink
started_link = record { mode = Startup; waits = None }

abbrev pub operating_link : FarLink
operating_link = record { mode = Operate; waits = None }

-- The mode in whose layout a message is that begins with these octets. Behind a mode command
-- the command itself is in the old one, and any other message in the new one
abbrev pub mode_begun : FarLink → List ℕ → DeviceMode
mode_begun link octets = elim link.waits [
  | None ↦ link.mode
  | Some command ↦ if starts_with nat_eq command.octets octets then link.mode else command.into
]

-- the mode asked for, unless the device is known not to have it
abbrev pub mode_into : Result Layouts Open → Option DeviceMode → Option DeviceMode
mode_into (Ok layouts) (Some Preoperate) = if is_some layouts.pre then Some Preoperate else None
mode_into known asked = asked

-- the link once a message had a good reply
abbrev pub link_after : FarLink → Result Layouts Open → List ℕ → MasterMsg → FarLink
link_after link known octets message =
    let now = accepting_link link octets in
    let asked = mode_into known (mode_asked (command_in message)) in
    record now { waits = waits_after now.mode now.waits octets asked }
