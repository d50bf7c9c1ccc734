-- Six bits put into an octet.
-- For the clauses of `parts::seal`.
use Rattle.std.proofs.Common.{◌≡◌, ℕ, ◌+◌, ◌*◌, ◌/◌, ◌%◌, ◌<◌, sym, ap, ◌∙◌, arith, bit_or}
use Rattle.std.proofs.lemmas.Nat.{or_shifted}

-- six bits put where zeros stand
pub or_low : (octet sum : ℕ) → octet % 64 ≡ 0 → sum < 64 → bit_or octet sum ≡ octet + sum
or_low octet sum h s =
    let e : octet ≡ octet / 64 * 64 = omega arith in
    ap (λ n. bit_or n sum) e ∙ or_shifted (octet / 64) 6 sum s ∙ ap (λ n. n + sum) (sym e)
