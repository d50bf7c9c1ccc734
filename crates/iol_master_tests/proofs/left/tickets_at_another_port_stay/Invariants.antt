-- The ghost values that `left::tickets_at_another_port_stay` hands to what it calls.
use Rattle.iol_master_tests.proofs.left.tickets_at_another_port_stay.Given as goal

-- the blanks name the ledgers of this master
abbrev pub ghosts-holds_at_two-L-Ledger : goal.ghosts-holds_at_two-L-Ledger
ghosts-holds_at_two-L-Ledger g a = record { name = a.clients.name; parts = a.clients.parts }

abbrev pub ghosts-holds_at_two-K-Ledger : goal.ghosts-holds_at_two-K-Ledger
ghosts-holds_at_two-K-Ledger g a = record { name = a.tickets.name; parts = a.tickets.parts }
