-- The lines of ports that are printed one after the other, for the clause of `print_ports`.
-- For the clauses of `many_printing::print_ports`.
use Rattle.std.proofs.Common.{◌≡◌, ℕ, ◌+◌, ◌<◌, zero, suc, List, [], ◌∷◌, ◌++◌, length, get_or, take, refl, ap, arith}
use Rattle.std.specs.List.{enumerate_from}
use Rattle.std.proofs.lemmas.List.FromFn.{length-enumerate_from, get_or-enumerate_from}
use Rattle.iol_clients.specs.declared.counts.PortCounts.{PortCounts}
use Rattle.iol_script.specs.declared.plan.ShownCounts.{ShownCounts}
use Rattle.iol_commands.specs.ManyPrinted.{port_text, ports_text}
use Rattle.iol_commands.proofs.PrintedLemmas.{one_printed}

numbered : {X : Type 0} (n : ℕ) (xs : List X) (i : ℕ)
    → enumerate_from n (take i xs) ≡ take i (enumerate_from n xs)
numbered n xs zero = refl
numbered n [] (suc i) = refl
numbered n (x ∷ xs) (suc i) = ap (λ l. (n, x) ∷ l) (numbered (n + 1) xs i)

-- one more port's lines are printed
pub port_printed : (shown : ShownCounts) (old out new : List ℕ) (ports : List PortCounts) (i : ℕ)
    (d : PortCounts)
    → out ≡ old ++ ports_text shown (take i ports) → i < length ports
    → new ≡ out ++ port_text shown (i + 1) (get_or ports i d)
    → new ≡ old ++ ports_text shown (take (i + 1) ports)
port_printed shown old out new ports i d is within wrote =
    let same : i + 1 ≡ 1 + i = omega arith in
    rw numbered (one_printed (λ port. port_text shown port.0 port.1) old out new
    (enumerate_from 1 ports) i (0, d) (rw numbered at is) (rw length-enumerate_from within)
    (rw get_or-enumerate_from (rw same at wrote)))
