-- A text that grows by the octets of a segment, as the clause `grown` of `grow` says it.
-- For the clauses of `joiner::grow`, `laws::segments_join`, `laws::texts_join` and
--     `iol_by_the_rules::laws::ports_are_by_the_rules`.
use Rattle.std.proofs.Common.{◌≡◌, ℕ, suc, sym, ap, ◌∙◌, ◌<◌, ◌≤◌, List, length, take, arith, Ok}
use Rattle.std.proofs.lemmas.Bool.Decides.{nat_tests}
use Rattle.std.proofs.lemmas.Grind.{common_steps}
use Rattle.std.proofs.lemmas.List.{take-take}
use Rattle.iol_isdu.specs.Frame.{total_at}
use Rattle.iol_segment.specs.declared.took.Took.TheVariants.{More, Whole}
use Rattle.iol_segment.specs.Join.{stage, Grown}

pub total-bounds : (octets : List ℕ) (total : ℕ) → total_at octets ≡ Ok total
    → (2 ≤ total) × (total ≤ 238)
total-bounds octets total e = grind (arith, nat_tests, common_steps)

-- the first two octets decide
total_at-front : (most : ℕ) (octets : List ℕ) → 2 ≤ most
    → total_at (take most octets) ≡ total_at octets
total_at-front (suc (suc n)) octets h = grind (arith, common_steps)
total_at-front n octets h = absurd (omega arith)

-- what the code finds in the octets, of which it keeps at most so many: those behind the longest
-- text are none of it
module _ (most n : ℕ) (octets stored : List ℕ) (enough : 238 ≤ most)
    (holds : total_at stored ≡ Ok n)
    (is : stored ≡ take most octets) where
  total : total_at octets ≡ Ok n
  total = sym (total_at-front most octets (omega arith)) ∙ ap total_at (sym is) ∙ holds

  pub grown-whole : n ≤ length stored → Grown (stage octets) octets (Ok Whole) (take n stored)
  grown-whole long = let fits = (total-bounds octets n total).1 in let whole = total in
      grind (arith, nat_tests, common_steps, take-take)

  pub grown-more : length stored < n → Grown (stage octets) octets (Ok More) stored
  grown-more short = let fits = (total-bounds octets n total).1 in let whole = total in
      grind (arith, nat_tests, common_steps)
