-- The ghost values that `desks::refused_memory_changes_nothing` hands to what it calls.
use Rattle.iol_master_tests.proofs.desks.refused_memory_changes_nothing.Given as goal

-- the blanks name the ledgers of each master
abbrev pub ghosts-opens_as-L-Ledger : goal.ghosts-opens_as-L-Ledger
ghosts-opens_as-L-Ledger g a = record { name = a.clients.name; parts = a.clients.parts }

abbrev pub ghosts-opens_as-K-Ledger : goal.ghosts-opens_as-K-Ledger
ghosts-opens_as-K-Ledger g a = record { name = a.tickets.name; parts = a.tickets.parts }

abbrev pub ghosts-submit_is_refused-L-Ledger : goal.ghosts-submit_is_refused-L-Ledger
ghosts-submit_is_refused-L-Ledger g a = record { name = a.clients.name; parts = a.clients.parts }

abbrev pub ghosts-submit_is_refused-K-Ledger : goal.ghosts-submit_is_refused-K-Ledger
ghosts-submit_is_refused-K-Ledger g a = record { name = a.tickets.name; parts = a.tickets.parts }
