-- The ghost values that `HonestPort::receive_wake` hands to what it calls.
use Rattle.iol_port.proofs.honest_port.HonestPort.receive_wake.Given as goal

abbrev pub ghost-of : goal.ghost-of
ghost-of g a = record a.near.now.at { far = g.after }
