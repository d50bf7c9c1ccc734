-- The clients of a plan: one more for the loops that start and join their threads, then all.
-- For the clauses of `run::start_all`, `run::submit_beside` and `serve::with_ledgers`.
use Rattle.std.proofs.Common.{◌≡◌, ◌+◌, ◌*◌, ◌≤◌, ◌∙◌, ℕ, zero, suc, List, [], ◌∷◌, ◌++◌, All, map, length, replicate, refl, ap, sym, arith, length-append}
use Rattle.std.proofs.lemmas.List.{append_assoc, length-map, length-replicate, map_push, replicate_more}
use Rattle.std.proofs.lemmas.List.Elements.{All-nil, All-cons, All-head, All-tail}
use Rattle.std.proofs.lemmas.Nat.{mul-le}
use Rattle.std.specs.List.{AllZip}
use Rattle.iol_clients.specs.Counts.{ClientState}
use Rattle.iol_clients.specs.Submitted.{client_ports}

-- one client more at a port, of which so many stand there
pub port_more : {T : Type 0} (port : T → ℕ) (threads : List T) (thread : T)
    (before clients done : ℕ)
    → map port threads ≡ client_ports before clients ++ replicate done (before + 1)
    → port thread ≡ before + 1
    → map port (threads ++ thread ∷ [])
    ≡ client_ports before clients ++ replicate (done + 1) (before + 1)
port_more port threads thread before clients done are is =
    rw (map_push, are, is, append_assoc, replicate_more) refl

-- as many at each port
pub count_of : (ports clients : ℕ) → length (client_ports ports clients) ≡ ports * clients
count_of zero clients = grind arith
count_of (suc before) clients =
    let those = count_of before clients in
    rw (length-append, length-replicate, those) (grind arith)

-- so 512 at most
pub few : {C : Type 0} (state : C → ClientState) (these : List C) (ports clients : ℕ)
    → map (λ client. client.desk.port) (map state these) ≡ client_ports ports clients
    → ports ≤ 32 → clients ≤ 16 → length these ≤ 512
few state these ports clients are p c =
    let count : length these ≡ ports * clients =
    sym (length-map these state) ∙ sym (length-map (map state these) (λ client. client.desk.port))
    ∙ ap length are ∙ count_of ports clients in
    omega (arith, count, mul-le ports clients 32 16 p c)

-- what is known of each thread's client is known of all, whose threads were promised the same
module _ {T C : Type 0} (state : C → ClientState) (port each : T → ℕ) (wanted : ℕ)
    (Has : ℕ → ClientState → Type 0) where
  abbrev Keeps : T → C → Type 0
  Keeps thread client =
      ((state client).desk.port ≡ port thread) × Has (each thread) (state client)

  pub same_ports : (threads : List T) (clients : List C) → AllZip Keeps threads clients
      → map (λ client. client.desk.port) (map state clients) ≡ map port threads
  same_ports [] [] are = refl
  same_ports [] (client ∷ clients) are = elim are [ ]
  same_ports (thread ∷ threads) [] are = elim are [ ]
  same_ports (thread ∷ threads) (client ∷ clients) are =
      rw (are.0.0, same_ports threads clients are.1) refl

  pub all_have : (threads : List T) (clients : List C) → AllZip Keeps threads clients
      → All (λ thread. each thread ≡ wanted) threads → All (Has wanted) (map state clients)
  all_have [] [] are same = All-nil (Has wanted)
  all_have [] (client ∷ clients) are same = elim are [ ]
  all_have (thread ∷ threads) [] are same = elim are [ ]
  all_have (thread ∷ threads) (client ∷ clients) are same =
      All-cons (Has wanted) (state client) (map state clients)
      (rw (← All-head (λ thread. each thread ≡ wanted) thread threads same) are.0.1)
      (all_have threads clients are.1
      (All-tail (λ thread. each thread ≡ wanted) thread threads same))
