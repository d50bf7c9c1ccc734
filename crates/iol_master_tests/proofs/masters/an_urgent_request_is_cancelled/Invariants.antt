-- The ghost values that `masters::an_urgent_request_is_cancelled` hands to what it calls.
use Rattle.iol_master_tests.proofs.masters.an_urgent_request_is_cancelled.Given as goal

-- the blanks name the ledgers of this master
abbrev pub ghosts-cancels_at_two-L-Ledger : goal.ghosts-cancels_at_two-L-Ledger
ghosts-cancels_at_two-L-Ledger g a = record { name = a.clients.name; parts = a.clients.parts }

abbrev pub ghosts-cancels_at_two-K-Ledger : goal.ghosts-cancels_at_two-K-Ledger
ghosts-cancels_at_two-K-Ledger g a = record { name = a.tickets.name; parts = a.tickets.parts }
