-- The ghost values that `served::a_port_is_served_through_silence` hands to what it calls.
use Rattle.iol_master_tests.proofs.served.a_port_is_served_through_silence.Given as goal

-- the blanks name the ledgers of this master
abbrev pub ghosts-is_served-L-Ledger : goal.ghosts-is_served-L-Ledger
ghosts-is_served-L-Ledger g a = record { name = a.clients.name; parts = a.clients.parts }

abbrev pub ghosts-is_served-K-Ledger : goal.ghosts-is_served-K-Ledger
ghosts-is_served-K-Ledger g a = record { name = a.tickets.name; parts = a.tickets.parts }
