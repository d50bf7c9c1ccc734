-- The ghost values that `honest::port_to` hands to what it calls.
use Rattle.iol_port_tests.proofs.honest.port_to.Given as goal

abbrev pub ghost-open : goal.ghost-open
ghost-open a = record { far = a.near.now.far; silence = 0 }
