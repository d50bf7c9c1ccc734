-- The master commands (IEC 61131-9, B.1.2).
use Rattle.std.specs.Prelude.{ℕ, ◌==◌, if◌then◌else◌, Option, Some, None}
use Rattle.iol_page.specs.declared.master_command.MasterCommand.{MasterCommand}
use Rattle.iol_page.specs.declared.master_command.MasterCommand.TheVariants.{Fallback, MasterIdent, DeviceIdent, DeviceStartup, ProcessDataOutputOperate, DeviceOperate, DevicePreoperate}

-- the octet of a command
-- PAGE-6
abbrev pub command_octet : MasterCommand → ℕ
command_octet Fallback = 0x5A
command_octet MasterIdent = 0x95
command_octet DeviceIdent = 0x96
command_octet DeviceStartup = 0x97
command_octet ProcessDataOutputOperate = 0x98
command_octet DeviceOperate = 0x99
command_octet DevicePreoperate = 0x9A

-- the command of an octet
-- PAGE-6
abbrev pub command_of : ℕ → Option MasterCommand
command_of octet =
    if octet == 0x5A then Some Fallback else
    if octet == 0x95 then Some MasterIdent else
    if octet == 0x96 then Some DeviceIdent else
    if octet == 0x97 then Some DeviceStartup else
    if octet == 0x98 then Some ProcessDataOutputOperate else
    if octet == 0x99 then Some DeviceOperate else
    if octet == 0x9A then Some DevicePreoperate else None
