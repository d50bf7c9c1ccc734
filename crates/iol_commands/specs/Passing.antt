-- What `trace` prints for one call of the wire.
use Rattle.std.specs.Prelude.{ℕ, List}
use Rattle.iol_mseq.specs.Shape.{Shape}
use Rattle.iol_print.specs.LineCalls.{PrintsCall}
use Rattle.iol_print.specs.declared.line_call.LineCall.{LineCall}
use Rattle.iol_print.specs.declared.line_call.LineCall.TheVariants as call
use Rattle.iol_sim.specs.declared.tap.TapNote.{TapNote}
use Rattle.iol_sim.specs.declared.tap.TapNote.TheVariants.{Wake, Exchange}

-- the call of the line that is noted, its octets being messages of this layout
abbrev pub call_noted : Shape → TapNote → LineCall
call_noted layout (Wake rate) = call.Wake rate
call_noted layout (Exchange sent answer) = call.Exchange layout sent answer

-- the lines of a call
abbrev pub PrintsPassed : ℕ → Shape → TapNote → List ℕ → Type 0
PrintsPassed number layout note text = PrintsCall number (call_noted layout note) text
