-- The ghost values that `scripts::lets_in_at_wire` hands to what it calls.
use Rattle.iol_master_tests.proofs.scripts.lets_in_at_wire.Given as goal

-- the blank names the ledger of this line
abbrev pub ghosts-lets_in : goal.ghosts-lets_in
ghosts-lets_in g a = record { name = a.hands.name; parts = a.hands.parts }
