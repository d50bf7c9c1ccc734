-- Cycle times by microseconds.
use Rattle.std.specs.Prelude.{◌≡◌, ℕ, Bool, true, false, nat_le, nat_lt, Option, Some, None, refl}
use Rattle.std.specs.List.{position_or_len, range_with_len}
use Rattle.std.proofs.lemmas.Bool.{ltb-true}
use Rattle.iol_page.specs.Cycle.{micros_of}
use Rattle.iol_page.specs.declared.cycle.CycleTime.{CycleTime}

-- the least octet of a cycle time that takes at least so many microseconds
unfoldable pub shortest_octet : ℕ → ℕ
shortest_octet micros =
    position_or_len (λ octet. nat_le micros (micros_of octet)) (range_with_len 0 192)

-- the cycle time of an octet, where its time base isn't reserved
abbrev pub cycle_of_octet : (octet : ℕ) (known : Bool) → nat_lt octet 192 ≡ known → Option CycleTime
cycle_of_octet octet true e = Some (record { octet = octet; base_in_range = ltb-true octet 192 e })
cycle_of_octet octet false e = None

-- the shortest cycle time that takes at least so many microseconds
unfoldable pub cycle_lasting : ℕ → Option CycleTime
cycle_lasting micros = cycle_of_octet (shortest_octet micros)
    (nat_lt (shortest_octet micros) 192) refl
