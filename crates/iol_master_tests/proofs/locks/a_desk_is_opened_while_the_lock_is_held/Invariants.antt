-- The ghost values that `locks::a_desk_is_opened_while_the_lock_is_held` hands to what it calls.
use Rattle.iol_master_tests.proofs.locks.a_desk_is_opened_while_the_lock_is_held.Given as goal

-- the blanks name the ledgers of this master
abbrev pub ghosts-lets_in-L-Ledger : goal.ghosts-lets_in-L-Ledger
ghosts-lets_in-L-Ledger g a = record { name = a.clients.name; parts = a.clients.parts }

abbrev pub ghosts-lets_in-K-Ledger : goal.ghosts-lets_in-K-Ledger
ghosts-lets_in-K-Ledger g a = record { name = a.tickets.name; parts = a.tickets.parts }
