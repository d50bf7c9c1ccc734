-- The ghost values that `serve::serve_clients` hands to what it calls.
use Rattle.iol_clients.proofs.serve.serve_clients.Given as goal

-- the blanks name the ledgers of this master
abbrev pub ghosts-with_ledgers-L-Ledger : goal.ghosts-with_ledgers-L-Ledger
ghosts-with_ledgers-L-Ledger g a = record { name = a.clients.name; parts = a.clients.parts }

abbrev pub ghosts-with_ledgers-K-Ledger : goal.ghosts-with_ledgers-K-Ledger
ghosts-with_ledgers-K-Ledger g a = record { name = a.tickets.name; parts = a.tickets.parts }
