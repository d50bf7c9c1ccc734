-- The ghost values that `wide::a_desk_counts_far` hands to what it calls.
use Rattle.iol_master_tests.proofs.wide.a_desk_counts_far.Given as goal

-- the blanks name the ledgers of this master
abbrev pub ghosts-counts_far-L-Ledger : goal.ghosts-counts_far-L-Ledger
ghosts-counts_far-L-Ledger g a = record { name = a.clients.name; parts = a.clients.parts }

abbrev pub ghosts-counts_far-K-Ledger : goal.ghosts-counts_far-K-Ledger
ghosts-counts_far-K-Ledger g a = record { name = a.tickets.name; parts = a.tickets.parts }
