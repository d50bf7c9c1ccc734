-- The numbers of a port's refusals.
use Rattle.std.specs.Prelude.{ℕ}
use Rattle.iol_book.specs.Faults.{book_fault_number}
use Rattle.iol_app.specs.Faults.{output_fault_number}
use Rattle.iol_port.specs.declared.fault.PortFault.{PortFault}
use Rattle.iol_port.specs.declared.fault.PortFault.TheVariants.{Book, Output, NoEvent}
use Rattle.iol_port.specs.declared.fault.TheConstants.{NO_EVENT}

abbrev pub port_fault_number : PortFault → ℕ
port_fault_number (Book fault) = book_fault_number fault
port_fault_number (Output fault) = output_fault_number fault
port_fault_number NoEvent = NO_EVENT
