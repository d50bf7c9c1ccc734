-- The ghost values that `seats::a_seat_is_read_while_the_lock_is_held` hands to what it calls.
use Rattle.iol_master_tests.proofs.seats.a_seat_is_read_while_the_lock_is_held.Given as goal

-- the blanks name the ledgers of this master
abbrev pub ghosts-is_read-L-Ledger : goal.ghosts-is_read-L-Ledger
ghosts-is_read-L-Ledger g a = record { name = a.clients.name; parts = a.clients.parts }

abbrev pub ghosts-is_read-K-Ledger : goal.ghosts-is_read-K-Ledger
ghosts-is_read-K-Ledger g a = record { name = a.tickets.name; parts = a.tickets.parts }
