-- Texts that are printed one behind the other, for clauses that say what a function prints. Begin
-- with `behind`.
-- For the clauses of `LineCall::print`, `passing::print_exchange`, `passing::print_front` and 30
--     more.
use Rattle.std.proofs.Common.{◌≡◌, ℕ, ◌+◌, ◌*◌, ◌<◌, ◌≤◌, false, true, Result, OnOk, List, [], ◌∷◌, ◌++◌, length, take, refl, ap, arith, append_assoc, length-append, length-take-le}
use Rattle.std.proofs.lemmas.Grind.{common_steps}
use Rattle.std.proofs.lemmas.Result.{on_ok_weaker}
use Rattle.iol_print.specs.Sink.{Adds}
use Rattle.iol_print.specs.Printed.{octets_text}

-- one text behind another
pub behind : (old mid new first later : List ℕ) → mid ≡ old ++ first → new ≡ mid ++ later
    → new ≡ old ++ (first ++ later)
behind old mid new first later before wrote = rw (wrote, before) (append_assoc old first later)

-- the same of a text of which only something is known
pub adds_behind : {T E : Type 0} (r : Result T E) (old mid new front : List ℕ)
    (P Q : List ℕ → Type 0) → mid ≡ old ++ front
    → ((meaning : List ℕ) → P meaning → Q (front ++ meaning))
    → OnOk r (Adds mid new P) → OnOk r (Adds old new Q)
adds_behind r old mid new front P Q before holds =
    on_ok_weaker r (λ more. (
      front ++ more.0,
      behind old mid new front more.0 before more.1,
      holds more.0 more.2,
    ))

-- for functions that print one text behind another
pub ruleset fitting = (append_assoc, length-append, arith, common_steps)

-- a call isn't refused that can't be
pub never : {X : Type 0} → false ≡ true → X
never is = absurd (cc)

-- each octet takes three bytes
pub octets_length : (octets : List ℕ) → length (octets_text octets) ≡ 3 * length octets
octets_length [] = refl
octets_length (octet ∷ octets) = omega (arith, octets_length octets)

-- behind some octets the next one fits, where all do
pub octet_fits : (old now octets : List ℕ) (i more limit : ℕ)
    → now ≡ old ++ octets_text (take i octets) → i < length octets → more ≤ 3
    → length old + length (octets_text octets) < limit → length now + more < limit
octet_fits old now octets i more limit so_far within few room =
    let long = ap length so_far in
    omega (
      arith,
      room,
      long,
      length-append old (octets_text (take i octets)),
      octets_length octets,
      octets_length (take i octets),
      length-take-le i octets (omega (arith, within)),
      within,
      few,
    )

-- and what goes before it
pub behind_fits : (now mid part : List ℕ) (more limit : ℕ) → mid ≡ now ++ part
    → length now + (length part + more) < limit → length mid + more < limit
behind_fits now mid part more limit is room =
    omega (arith, ap length is, length-append now part, room)

-- what has at most so many bytes fits where so many do
pub part_fits : (old part : List ℕ) (most limit : ℕ) → length part ≤ most
    → length old + most < limit → length old + length part < limit
part_fits old part most limit few room = omega (arith, few, room)
