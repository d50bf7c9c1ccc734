-- The ghost values that `desks::submits_are_refused_in_order` hands to what it calls.
use Rattle.iol_master_tests.proofs.desks.submits_are_refused_in_order.Given as goal

-- the blanks name the ledgers of each master
abbrev pub ghosts-refused_first-L-Ledger : goal.ghosts-refused_first-L-Ledger
ghosts-refused_first-L-Ledger g a = record { name = a.clients.name; parts = a.clients.parts }

abbrev pub ghosts-refused_first-K-Ledger : goal.ghosts-refused_first-K-Ledger
ghosts-refused_first-K-Ledger g a = record { name = a.tickets.name; parts = a.tickets.parts }
