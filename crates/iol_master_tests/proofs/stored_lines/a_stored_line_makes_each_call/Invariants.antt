-- The ghost values that `stored_lines::a_stored_line_makes_each_call` hands to what it calls.
use Rattle.iol_master_tests.proofs.stored_lines.a_stored_line_makes_each_call.Given as goal

-- the blank names the ledger of this line
abbrev pub ghosts-makes_each_call : goal.ghosts-makes_each_call
ghosts-makes_each_call g a = record { name = a.hands.name; parts = a.hands.parts }
