-- The ghost values that `honest::woken_by` hands to what it calls.
use Rattle.iol_port_tests.proofs.honest.woken_by.Given as goal

abbrev pub ghost-receive_wake : goal.ghost-receive_wake
ghost-receive_wake a = a.near.now.far
