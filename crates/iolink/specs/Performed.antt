-- What each command reads and prints.
use Rattle.iol_commands.specs.Input.{CommandReading}
use Rattle.iol_commands.specs.Checked.{check_reading}
use Rattle.iol_commands.specs.ManyPrinted.{many_reading}
use Rattle.iol_stored_commands.specs.StoredPlayed.{script_reading}
use Rattle.iol_stored_commands.specs.StoredTraced.{script_trace_reading}
use Rattle.iolink.specs.declared.command.PrintingCommand.{PrintingCommand}
use Rattle.iolink.specs.declared.command.PrintingCommand.TheVariants.{Check, Run, Trace, Many}

-- what a command makes of the lines of its input
abbrev pub reading_of : PrintingCommand → CommandReading
reading_of Check = check_reading
reading_of Run = script_reading
reading_of Trace = script_trace_reading
reading_of Many = many_reading
