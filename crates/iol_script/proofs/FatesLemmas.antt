-- How many steps are fates: `WireLine.fates` and `Draft.add_steps` need these.
-- For the clauses of `Draft::add_steps` and `wire_line::fates`.
use Rattle.std.proofs.Common.{◌≡◌, ◌≤◌, ◌+◌, ℕ, zero, suc, List, [], ◌∷◌, ◌++◌, length, replicate, refl, arith, length-append}
use Rattle.std.proofs.lemmas.List.{length-replicate}
use Rattle.iol_sim.specs.declared.script.Fate.{Fate as FateOf}
use Rattle.iol_sim.specs.declared.script.Step.{Step}
use Rattle.iol_sim.specs.declared.script.Fate.TheVariants.{Clean}
use Rattle.iol_sim.specs.declared.script.Step.TheVariants.{Fate}
use Rattle.iol_script.specs.Script.{fates_in}

-- all that are made of a fate
pub of_fates : (fate : FateOf) (n : ℕ) → fates_in (replicate n (Fate fate)) ≡ n
of_fates fate zero = refl
of_fates fate (suc n) = let rest = of_fates fate n in grind arith

pub of_both : (a b : List Step) → fates_in (a ++ b) ≡ fates_in a + fates_in b
of_both [] b = omega arith
of_both (step ∷ a) b = let rest = of_both a b in grind arith

-- no more than there are steps
pub at_most_all : (steps : List Step) → fates_in steps ≤ length steps
at_most_all [] = omega arith
at_most_all (step ∷ steps) = let rest = at_most_all steps in grind arith

-- steps behind others, with clean fates between
pub within : (steps pushed : List Step) (lacking : ℕ) (line : List Step)
    → pushed ≡ steps ++ replicate lacking (Fate Clean) ++ line
    → length steps + (lacking + length line) ≤ 1000000 → length pushed ≤ 1000000
within steps pushed lacking line is fits =
    let clean : List Step = replicate lacking (Fate Clean) in
    rw is (omega (
      arith,
      length-append (steps ++ clean) line,
      length-append steps clean,
      length-replicate lacking (Fate Clean),
      fits,
    ))
