-- The ghost values that `stored_masters::a_worker_serves_a_stored_port` hands to what it calls.
use Rattle.iol_master_tests.proofs.stored_masters.a_worker_serves_a_stored_port.Given as goal

-- the blanks name the ledgers of this master
abbrev pub ghosts-worked-L-Ledger : goal.ghosts-worked-L-Ledger
ghosts-worked-L-Ledger g a = record { name = a.clients.name; parts = a.clients.parts }

abbrev pub ghosts-worked-K-Ledger : goal.ghosts-worked-K-Ledger
ghosts-worked-K-Ledger g a = record { name = a.tickets.name; parts = a.tickets.parts }
