-- The process data out of a master: which octets a new message may carry.
use Rattle.std.specs.Prelude.{ℕ, Bool, true, false, ◌||◌, bytes_eq, if◌then◌else◌, List, Option, Some, Result, Ok, Err}
use Rattle.iol_octets.specs.Zeros.{are_zeros}
use Rattle.iol_page.specs.declared.master_command.MasterCommand.{MasterCommand}
use Rattle.iol_page.specs.declared.master_command.MasterCommand.TheVariants.{ProcessDataOutputOperate, DeviceOperate}
use Rattle.iol_judge.specs.declared.blame.Blame.{Blame}
use Rattle.iol_judge.specs.declared.blame.Blame.TheVariants.{OutputOctets}
use Rattle.iol_judge.specs.declared.master_output.CarriedOutput.{CarriedOutput}
use Rattle.iol_judge.specs.declared.master_output.CarriedOutput.TheVariants.{Unknown, Before, Last}
use Rattle.iol_judge.specs.declared.master_output.Output.{Output}

-- of a capture that just began
abbrev pub no_output : Output
no_output = record { carried = Unknown; valid = false }

abbrev pub aged_output : CarriedOutput → CarriedOutput
aged_output (Last octets) = Before octets
aged_output carried = carried

-- once a wake-up request was made
abbrev pub woken_output : Output → Output
woken_output output = record { carried = aged_output output.carried; valid = false }

-- whether a message may carry these octets that leaves the device's output invalid
abbrev pub allows_octets : CarriedOutput → List ℕ → Bool
allows_octets Unknown octets = true
allows_octets (Before before) octets = bytes_eq octets before.items || are_zeros octets
allows_octets (Last last) octets = bytes_eq octets last.items

-- once a new message of OPERATE carries these octets
abbrev pub output_after_message : Output → Option MasterCommand → List ℕ → Result Output Blame
output_after_message output command octets =
    let valid : Bool = elim command [
      | Some ProcessDataOutputOperate ↦ true
      | Some DeviceOperate ↦ false
      | command ↦ output.valid
    ] in
    if valid || allows_octets output.carried octets
    then Ok (record { carried = Last (record { items = octets }); valid = valid })
    else Err OutputOctets
