-- The ghost values that `desks::desks_count_and_run_out` hands to what it calls.
use Rattle.iol_master_tests.proofs.desks.desks_count_and_run_out.Given as goal

-- the blanks name the ledgers of this master
abbrev pub ghosts-run_out-L-Ledger : goal.ghosts-run_out-L-Ledger
ghosts-run_out-L-Ledger g a = record { name = a.clients.name; parts = a.clients.parts }

abbrev pub ghosts-run_out-K-Ledger : goal.ghosts-run_out-K-Ledger
ghosts-run_out-K-Ledger g a = record { name = a.tickets.name; parts = a.tickets.parts }
