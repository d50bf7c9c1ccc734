-- The number of each fault.
use Rattle.std.specs.Prelude.{ℕ}
use Rattle.iol_judge.specs.declared.blame.Blame.{Blame}
use Rattle.iol_judge.specs.declared.blame.Blame.TheVariants.{WakeDue, NotRepeated, NotStartUp, NotWellFormed, OutputOctets, NotDue, RequestText, NotInLine}
use Rattle.iol_judge.specs.declared.blame.TheConstants.{WAKE_DUE, NOT_REPEATED, NOT_START_UP, NOT_WELL_FORMED, OUTPUT_OCTETS, NOT_DUE, REQUEST_TEXT, NOT_IN_LINE}

abbrev pub blame_number : Blame → ℕ
blame_number WakeDue = WAKE_DUE
blame_number NotRepeated = NOT_REPEATED
blame_number NotStartUp = NOT_START_UP
blame_number NotWellFormed = NOT_WELL_FORMED
blame_number OutputOctets = OUTPUT_OCTETS
blame_number NotDue = NOT_DUE
blame_number RequestText = REQUEST_TEXT
blame_number NotInLine = NOT_IN_LINE
