-- The tickets of a port with its wire, and a submit there.
use Rattle.std.specs.Prelude.{◌≡◌, ℕ, ◌+◌, Result, IfErr}
use Rattle.iol_isdu.specs.declared.values.Request.{Request}
use Rattle.iol_book.specs.declared.entries.Ticket.{Ticket}
use Rattle.iol_book.specs.declared.fault.BookFault.TheVariants.{OutOfMemory as NoMemory}
use Rattle.iol_port.specs.declared.fault.PortFault.{PortFault}
use Rattle.iol_port.specs.declared.fault.PortFault.TheVariants.{Book}
use Rattle.iol_port.specs.Called.{Submits, SubmitsUrgent, port_call}
use Rattle.iol_port.specs.View.{PortValue}
use Rattle.iol_master.specs.declared.ports.DeskUrgency.{DeskUrgency}
use Rattle.iol_master.specs.declared.ports.DeskUrgency.TheVariants.{Ordinary, Urgent}

-- so many tickets were given since the port was opened
abbrev pub HasIssued : {W : Type 0} → PortValue W → ℕ → Type 0
HasIssued p count = p.parts.book.state.last ≡ p.opening.limits.given + count

-- the port's own submit, or its urgent one
abbrev pub SubmitsBy : {W : Type 0} → DeskUrgency → PortValue W → Request → Result Ticket PortFault
    → PortValue W → Type 0
SubmitsBy Ordinary p request answer p' =
    Submits (port_call p p') request answer
SubmitsBy Urgent p request answer p' =
    SubmitsUrgent (port_call p p') request answer

-- memory is lacking only where the book had no room left
abbrev pub SubmitsAs : {W : Type 0} → PortValue W → DeskUrgency → Request → Result Ticket PortFault
    → PortValue W → Type 0
SubmitsAs p kind request answer p' = SubmitsBy kind p request answer p'
    × IfErr answer (λ why. why ≡ Book NoMemory → p.parts.book.room ≡ 0)
