-- What each round of a loop of `ports::open_ports` keeps.
use Rattle.std.proofs.Common.{◌≡◌, All, vec_len}
use Rattle.iol_master.specs.Tickets.{HasIssued}
use Rattle.iol_clients.proofs.ports.open_ports.Given as goal

abbrev pub invariant-loop : goal.invariant-loop
invariant-loop l = (vec_len l.ports ≡ l.counter) × All (λ p. HasIssued p 0) l.ports.items
