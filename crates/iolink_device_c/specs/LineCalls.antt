-- What a device notes of its line, and how C is shown it.
use Rattle.std.specs.Prelude.{◌≡◌, ℕ, List, take, Option, Some, option_map}
use Rattle.iol_mseq.specs.Shape.{Shape}
use Rattle.iol_link.specs.declared.wire.Rate.{Rate}
use Rattle.iol_far.specs.Octets.{octets_in}
use Rattle.iol_print.specs.declared.line_call.LineCall.{LineCall}
use Rattle.iol_print.specs.declared.line_call.LineCall.TheVariants.{Wake, Exchange}

-- what came is noted as a message in this layout, of more than 66 octets the first 66, with what is
-- sent back
abbrev pub NotesHeard : Shape → List ℕ → Option (List ℕ) → Option LineCall → Type 0
NotesHeard present octets reply (Some (Exchange layout sent answer)) =
    (layout ≡ present) × (sent.items ≡ take 66 octets) × (octets_in answer ≡ reply)
NotesHeard present octets reply noted = ⊥

-- a wake-up request is answered at this rate
abbrev pub call_at : Option Rate → LineCall → LineCall
call_at rate (Wake unknown) = Wake rate
call_at rate call = call

-- the same of the call that was noted
abbrev pub heard_at_rate : Option Rate → Option LineCall → Option LineCall
heard_at_rate rate noted = option_map (call_at rate) noted
