-- How the crates below say that a command fails.
use Rattle.iol_clients.specs.declared.fault.ClientsFault.{ClientsFault}
use Rattle.iol_clients.specs.declared.fault.ClientsFault.TheVariants as clients
use Rattle.iol_script.specs.declared.fault.ScriptFault.{ScriptFault}
use Rattle.iol_script.specs.declared.fault.ScriptFault.TheVariants as script
use Rattle.iol_commands.specs.declared.fault.ProgramFault.{ProgramFault}
use Rattle.iol_commands.specs.declared.fault.ProgramFault.TheVariants as fault

-- how the command fails whose script can't be read
abbrev pub fault_of : ScriptFault → ProgramFault
fault_of (script.Line number) = fault.Line number
fault_of script.OutOfMemory = fault.OutOfMemory

-- how the command fails whose clients can't be served
abbrev pub clients_fault_of : ClientsFault → ProgramFault
clients_fault_of clients.OutOfMemory = fault.OutOfMemory
clients_fault_of clients.NoThread = fault.NoThread
clients_fault_of clients.DesksFull = fault.NoDesk
