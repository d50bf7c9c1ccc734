-- The ghost values that `wide::thirty_two_ports_are_served` hands to what it calls.
use Rattle.iol_master_tests.proofs.wide.thirty_two_ports_are_served.Given as goal

-- the blanks name the ledgers of this master
abbrev pub ghosts-is_wide-L-Ledger : goal.ghosts-is_wide-L-Ledger
ghosts-is_wide-L-Ledger g a = record { name = a.clients.name; parts = a.clients.parts }

abbrev pub ghosts-is_wide-K-Ledger : goal.ghosts-is_wide-K-Ledger
ghosts-is_wide-K-Ledger g a = record { name = a.tickets.name; parts = a.tickets.parts }
