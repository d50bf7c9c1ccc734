-- The ghost values that `left::tickets_of_a_client_that_is_gone_are_abandoned` hands to what it
-- calls.
use Rattle.iol_master_tests.proofs.left.tickets_of_a_client_that_is_gone_are_abandoned.Given as goal

-- the blanks name the ledgers of each master
abbrev pub ghosts-holds-L-Ledger : goal.ghosts-holds-L-Ledger
ghosts-holds-L-Ledger g a = record { name = a.clients.name; parts = a.clients.parts }

abbrev pub ghosts-holds-K-Ledger : goal.ghosts-holds-K-Ledger
ghosts-holds-K-Ledger g a = record { name = a.tickets.name; parts = a.tickets.parts }
