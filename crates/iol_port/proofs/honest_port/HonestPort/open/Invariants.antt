-- The ghost values that `HonestPort::open` hands to what it calls.
use Rattle.iol_port.proofs.honest_port.HonestPort.open.Given as goal

abbrev pub ghost-open_for : goal.ghost-open_for
ghost-open_for g a = g.at
