-- What each round of a loop of `opening::numbered` keeps.
use Rattle.std.proofs.Common.{◌≡◌, All, vec_len}
use Rattle.iol_master.specs.Tickets.{HasIssued}
use Rattle.iol_master_tests.proofs.opening.numbered.Given as goal

abbrev pub invariant-loop-index : goal.invariant-loop-index
invariant-loop-index l = (vec_len l.ports ≡ l.index) × All (λ p. HasIssued p 0) l.ports.items
