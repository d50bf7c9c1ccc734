-- What a call of a port answers, as numbers.
use Rattle.std.specs.Prelude.{◌≡◌, ℕ, Result, Ok, Err}
use Rattle.iol_octets.specs.CheckOctets.{type_bits}
use Rattle.iol_mseq.specs.Shape.{Shape}
use Rattle.iol_book.specs.declared.entries.Ticket.{Ticket}
use Rattle.iol_app.specs.declared.transmission.Transmission.{Transmission}
use Rattle.iol_app.specs.declared.transmission.Transmission.TheVariants.{Wake, Exchange}
use Rattle.iol_port.specs.declared.call.Counting.{Counting}
use Rattle.iol_port.specs.declared.call.Counting.TheVariants.{Now, Later}
use Rattle.iol_port.specs.declared.fault.PortFault.{PortFault}
use Rattle.iol_port.specs.Faults.{port_fault_number}
use Rattle.iolink_handle.specs.Shown.{AreShown}
use Rattle.iolink_port_forms.specs.declared.message.IolMessage.{IolMessage}

-- the number of an answer: that of its refusal, or 0
abbrev pub answer_number : {X : Type 0} → Result X PortFault → ℕ
answer_number (Ok value) = 0
answer_number (Err why) = port_fault_number why

-- the number of the ticket that was given, or 0 for a refusal
abbrev pub ticket_out : {E : Type 0} → Result Ticket E → ℕ
ticket_out (Ok ticket) = ticket.0
ticket_out (Err why) = 0

-- what a call counts for, by its number
abbrev pub counting_number : Counting → ℕ
counting_number Now = 1
counting_number Later = 2

-- the layout of the mode as C is shown it
abbrev pub IsLaidOut : Shape → IolMessage → Type 0
IsLaidOut layout out = (out.kind ≡ type_bits layout.kind) × (out.od ≡ layout.od)
    × (out.pd_in ≡ layout.pd_in) × (out.pd_out ≡ layout.pd_out)

-- what goes out as C is shown it: a message's octets, its layout and how many octets a good
-- reply has, or no length for a wake
abbrev pub IsMessage : Transmission → IolMessage → Type 0
IsMessage Wake out = out.length ≡ 0
IsMessage (Exchange sent) out = AreShown sent.octets.items out.length out.octets
    × (out.reply ≡ sent.reply) × IsLaidOut sent.layout out
