-- One call of a line, what `trace` prints for it, and how a C library shows that.
use Rattle.std.specs.Prelude.{◌≡◌, ℕ, ◌≤◌, nat_eq, if◌then◌else◌, List, length, take, Option, Some, None}
use Rattle.iol_far.specs.Octets.{octets_in}
use Rattle.iol_link.specs.declared.wire.Rate.{Rate}
use Rattle.iol_link.specs.declared.wire.Rate.TheVariants.{Com1, Com2, Com3}
use Rattle.iol_print.specs.Passing.{PrintsExchange, wake_text}
use Rattle.iol_print.specs.declared.line_call.LineCall.{LineCall}
use Rattle.iol_print.specs.declared.line_call.LineCall.TheVariants.{Wake, Exchange}

-- the lines of a call of this number
abbrev pub PrintsCall : ℕ → LineCall → List ℕ → Type 0
PrintsCall number (Wake rate) text = text ≡ wake_text number rate
PrintsCall number (Exchange layout sent answer) text =
    PrintsExchange number layout sent.items (octets_in answer) text

-- a rate by its number: 0 for no answer, 1 to 3 for COM1 to COM3
abbrev pub rate_of : ℕ → Option Rate
rate_of number =
    if nat_eq number 1 then Some Com1 else if nat_eq number 2 then Some Com2 else if nat_eq number 3
    then Some Com3 else None
