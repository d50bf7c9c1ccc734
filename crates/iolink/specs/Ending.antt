-- How the program ends.
use Rattle.std.specs.Prelude.{◌≡◌, ◌≢◌, ℕ, Result, Ok, Err}
use Rattle.clap.specs.Values.{kind_of}
use Rattle.clap.specs.declared.error.Error.{Error}
use Rattle.clap.specs.declared.error.ErrorKind.TheVariants as kind
use Rattle.iol_commands.specs.declared.fault.ProgramFault.TheVariants as fault
use Rattle.iolink.specs.declared.ending.Ending.{Ending}
use Rattle.iolink.specs.declared.ending.Ending.TheVariants.{Failed, MasterAtFault, NotHonest, NotJudged, Refused, NoText}

-- the status of an ending: 1 where the command failed, or the capture isn't honest; 2 where the
-- capture isn't judged, or the command line is refused; 3 where the master alone is at fault
abbrev pub ending_status : Ending → ℕ
ending_status (Failed e) = 1
ending_status NotHonest = 1
ending_status (NotJudged e) = 2
ending_status (Refused error) = 2
ending_status NoText = 2
ending_status MasterAtFault = 3

-- the exit status: 0, or that of the ending
abbrev pub status_after : {T : Type 0} → Result T Ending → ℕ
status_after (Ok done) = 0
status_after (Err ending) = ending_status ending

-- a command line that is refused ends the program, but for want of memory
pub record EndsBy (error : Error) (ending : Ending) : Type 0 where
  pub memory : kind_of error ≡ kind.OutOfMemory → ending ≡ Failed fault.OutOfMemory
  pub refused : kind_of error ≢ kind.OutOfMemory → ending ≡ Refused error
