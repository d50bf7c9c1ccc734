-- The ghost values that `lines::a_client_is_let_in_while_the_gate_is_asked` hands to what it calls.
use Rattle.iol_master_tests.proofs.lines.a_client_is_let_in_while_the_gate_is_asked.Given as goal

-- the blank names the ledger of this line
abbrev pub ghosts-lets_in : goal.ghosts-lets_in
ghosts-lets_in g a = record { name = a.hands.name; parts = a.hands.parts }
