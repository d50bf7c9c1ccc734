-- The ghost values that `scripts::run` hands to what it calls.
use Rattle.iol_master_tests.proofs.scripts.run.Given as goal

-- the blank names the ledger of this line
abbrev pub ghosts-run_over : goal.ghosts-run_over
ghosts-run_over g a = record { name = a.hands.name; parts = a.hands.parts }
