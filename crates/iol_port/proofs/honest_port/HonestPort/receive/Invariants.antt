-- The ghost values that `HonestPort::receive` hands to what it calls.
use Rattle.iol_port.proofs.honest_port.HonestPort.receive.Given as goal

abbrev pub ghost-of : goal.ghost-of
ghost-of g a = g.after
