-- The number by which a line and its worker count turns.
-- For the clauses of `LinePort::receive_wake` and `LinePort::receive`.
use Rattle.std.proofs.Common.{◌≡◌, ◌≤◌, ℕ, ◌+◌, ◌/◌, ◌%◌, arith}

-- what is out is answered, which makes one turn more
pub one_more : (total audited new amount out step : ℕ) → amount ≡ total → amount % 3 ≡ out
    → out + step ≡ 3 → 1 ≤ step → audited ≡ total → new ≡ audited + step
    → new / 3 ≡ total / 3 + 1
one_more total audited new amount out step a o s l t n = omega arith
