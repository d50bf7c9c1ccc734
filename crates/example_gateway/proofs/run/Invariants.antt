-- The ghost values that `run` hands to what it calls.
use Rattle.example_gateway.proofs.run.Given as goal

-- the blanks name the ledgers of this master
abbrev pub ghosts-serve-L-Ledger : goal.ghosts-serve-L-Ledger
ghosts-serve-L-Ledger g a = record { name = a.clients.name; parts = a.clients.parts }

abbrev pub ghosts-serve-K-Ledger : goal.ghosts-serve-K-Ledger
ghosts-serve-K-Ledger g a = record { name = a.tickets.name; parts = a.tickets.parts }

-- and this blank that of the third port's line
abbrev pub ghosts-serve_third : goal.ghosts-serve_third
ghosts-serve_third g a = record { name = a.hands.name; parts = a.hands.parts }
