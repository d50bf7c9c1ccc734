-- One port more is counted, for the loop of `count_ports`.
-- For the clauses of `collect::count_ports`.
use Rattle.std.proofs.Common.{◌≡◌, ◌+◌, ℕ, List, [], ◌∷◌, ◌++◌, length, arith, add-zero}
use Rattle.iol_clients.specs.declared.counts.PortCounts.{PortCounts}
use Rattle.iol_clients.specs.Counts.{ClientState, WasCounted, AreCounted}

module _ {W : Type 0} (clients : List ClientState) (last : PortCounts) where
  pub one_more : (first : ℕ) (counts : List PortCounts) → AreCounted W first clients counts
      → WasCounted W (first + length counts) clients last
      → AreCounted W first clients (counts ++ (last ∷ []))
  one_more first [] are was = (rw add-zero at was, tt)
  one_more first (counted ∷ counts) are was =
      let one : first + length (counted ∷ counts) ≡ first + 1 + length counts = omega arith in
      (are.0, one_more (first + 1) counts are.1 (rw one at was))
