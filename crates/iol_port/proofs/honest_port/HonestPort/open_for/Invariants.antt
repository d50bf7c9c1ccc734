-- The ghost values that `HonestPort::open_for` hands to what it calls.
use Rattle.iol_port.proofs.honest_port.HonestPort.open_for.Given as goal

abbrev pub ghost-of : goal.ghost-of
ghost-of g a = g.at
