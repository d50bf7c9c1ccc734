-- What each round of a loop of `draft::push_fates` keeps.
use Rattle.std.proofs.Common.{◌≡◌, ◌+◌, ◌++◌, replicate, vec_len, vec_capacity}
use Rattle.iol_sim.specs.declared.script.Step.TheVariants.{Fate}
use Rattle.iol_script.proofs.draft.push_fates.Given as goal

abbrev pub invariant-loop : goal.invariant-loop
invariant-loop g l =
    (l.steps.items ≡ l.fn.steps.items ++ replicate l.counter (Fate l.fate))
    × (vec_len l.steps ≡ vec_len l.fn.steps + l.counter)
    × (vec_capacity l.steps ≡ vec_capacity l.fn.steps)
