-- The shortest cycle time of at least so many microseconds is the least octet that takes so long:
-- `cycle_of_micros` needs `computed`.
-- For the clauses of `call_line::cycle_of_micros`.
use Rattle.std.proofs.Common.{◌≡◌, ℕ, ◌<◌, ◌≤◌, Bool, true, false, nat_le, nat_lt, Some, Result, Ok, Err, IfOk, get_or, refl, sym, subst, arith}
use Rattle.std.specs.List.{range_with_len}
use Rattle.std.proofs.lemmas.Bool.{ltb-true}
use Rattle.std.proofs.lemmas.Bool.Decides.{nat_tests}
use Rattle.std.proofs.lemmas.List.FromFn.{get_or-range_with_len, length-range_with_len}
use Rattle.std.proofs.lemmas.List.Sums.{position_or_len_is}
use Rattle.std.proofs.Math.Bridge.{le_prop}
use Rattle.iol_page.specs.Cycle.{micros_of, IsShortest}
use Rattle.iol_page.specs.declared.cycle.CycleTime.{CycleTime}
use Rattle.iol_script.specs.Cycles.{shortest_octet, cycle_of_octet, cycle_lasting}

octet_at : (octet : ℕ) → octet < 192 → get_or (range_with_len 0 192) octet 0 ≡ octet
octet_at octet known = omega (arith, get_or-range_with_len 0 192 octet 0 known)

least : (cycle : CycleTime) (micros : ℕ) → micros ≤ micros_of cycle.octet → IsShortest micros cycle
    → shortest_octet micros ≡ cycle.octet
unfolding shortest_octet
least cycle micros long shortest =
    let known : cycle.octet < 192 = cycle.base_in_range in
    position_or_len_is (λ octet. nat_le micros (micros_of octet)) (range_with_len 0 192)
    cycle.octet 0
    (omega (arith, length-range_with_len 0 192))
    (λ k below. rw (octet_at k (omega arith))
    (let none : micros ≤ micros_of k → ⊥ = λ le. omega (arith, shortest k (omega arith) le) in
    grind (arith, nat_tests)))
    (λ _. rw (octet_at cycle.octet known) (grind (arith, nat_tests)))

-- a cycle time is its octet
at_octet : (cycle : CycleTime) (known : Bool) (is : nat_lt cycle.octet 192 ≡ known)
    → Some cycle ≡ cycle_of_octet cycle.octet known is
at_octet cycle true is = λ i. Some (record {
  octet = cycle.octet;
  base_in_range = le_prop cycle.base_in_range (ltb-true cycle.octet 192 is) i;
})
at_octet cycle false is =
    let known : cycle.octet < 192 = cycle.base_in_range in absurd (grind (arith, nat_tests))

-- what was computed without a refusal
pub computed : {E : Type 0} (r : Result CycleTime E) (cycle : CycleTime) (micros : ℕ) → r ≡ Ok cycle
    → IfOk r (λ c. micros ≤ micros_of c.octet) → IfOk r (λ c. IsShortest micros c)
    → Some cycle ≡ cycle_lasting micros
unfolding cycle_lasting
computed (Ok c) cycle micros e long shortest =
    let same : c ≡ cycle = cc in
    subst (λ (x : CycleTime). Some x ≡ cycle_lasting micros) same
    (subst (λ n. Some c ≡ cycle_of_octet n (nat_lt n 192) refl) (sym (least c micros long shortest))
    (at_octet c (nat_lt c.octet 192) refl))
computed (Err fault) cycle micros e long shortest = absurd (cc)
