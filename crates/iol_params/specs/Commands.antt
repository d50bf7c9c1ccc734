-- The octets of commands (B.2.2, B.2.3).
use Rattle.std.specs.Prelude.{ℕ, ◌==◌, if◌then◌else◌, Option, Some, None}
use Rattle.iol_params.specs.declared.state.Scope.{Scope}
use Rattle.iol_params.specs.declared.state.Scope.TheVariants.{Block, Storage}
use Rattle.iol_params.specs.declared.state.Command.{Command}
use Rattle.iol_params.specs.declared.state.Command.TheVariants.{UploadStart, UploadEnd, DownloadStart, DownloadEnd, DownloadStore, Break, ApplicationReset, FactoryReset, DeviceReset, BackToBox}

-- the commands that both have
abbrev pub common_command : ℕ → Option Command
common_command octet =
    if octet == 1 then Some UploadStart else if octet == 2 then Some UploadEnd else
    if octet == 3 then Some DownloadStart else if octet == 4 then Some DownloadEnd else None

-- ACT-1, PAR-8
abbrev pub param_command : Scope → ℕ → Option Command
param_command Block octet =
    if octet == 5 then Some DownloadStore else if octet == 6 then Some Break else
    if octet == 128 then Some DeviceReset else if octet == 129 then Some ApplicationReset else
    if octet == 130 then Some FactoryReset else if octet == 131 then Some BackToBox else
    common_command octet
param_command Storage octet = if octet == 5 then Some Break else common_command octet
