-- The ghost values that `masters::two_ports_are_served` hands to what it calls.
use Rattle.iol_master_tests.proofs.masters.two_ports_are_served.Given as goal

-- the blanks name the ledgers of this master
abbrev pub ghosts-serves_two-L-Ledger : goal.ghosts-serves_two-L-Ledger
ghosts-serves_two-L-Ledger g a = record { name = a.clients.name; parts = a.clients.parts }

abbrev pub ghosts-serves_two-K-Ledger : goal.ghosts-serves_two-K-Ledger
ghosts-serves_two-K-Ledger g a = record { name = a.tickets.name; parts = a.tickets.parts }
