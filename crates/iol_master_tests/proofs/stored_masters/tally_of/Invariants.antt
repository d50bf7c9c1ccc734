-- The ghost values that `stored_masters::tally_of` hands to what it calls.
use Rattle.iol_master_tests.proofs.stored_masters.tally_of.Given as goal

-- the blanks name the ledgers of this master
abbrev pub ghosts-asked-L-Ledger : goal.ghosts-asked-L-Ledger
ghosts-asked-L-Ledger g a = record { name = a.clients.name; parts = a.clients.parts }

abbrev pub ghosts-asked-K-Ledger : goal.ghosts-asked-K-Ledger
ghosts-asked-K-Ledger g a = record { name = a.tickets.name; parts = a.tickets.parts }
