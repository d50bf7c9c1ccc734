-- What the search can't prove of the body of `Draft::add_steps`.
use Rattle.std.proofs.Common.{rules, ◌++◌, replicate}
use Rattle.iol_sim.specs.declared.script.Fate.TheVariants.{Clean}
use Rattle.iol_sim.specs.declared.script.Step.TheVariants.{Fate}
use Rattle.iol_script.specs.Script.{steps_of}
use Rattle.iol_script.proofs.FatesLemmas.{at_most_all, of_fates, of_both, within}
use Rattle.iol_script.proofs.draft.Draft.add_steps.Goals as goal

pub overflow_add-self : goal.overflow_add-self
overflow_add-self g c =
    let known = c.self.invariant.fates in
    let most = at_most_all c.self.inside.steps.items in
    let steps = c.self.invariant.steps in
    search rules

pub invariant_of-self-2 : goal.invariant_of-self-2
invariant_of-self-2 g c = record {
  page = c.self.invariant.page;
  other = c.self.invariant.other;
  params = c.self.invariant.params;
  given = c.self.invariant.given;
  steps = within c.self.inside.steps.items c.push_steps.new.steps.items
      c.lacking_fates-lacking.result (steps_of c.args.line) (search rules) (search rules);
  fates =
      let known = c.self.invariant.fates in
      let both = of_both (c.self.inside.steps.items
      ++ replicate c.lacking_fates-lacking.result (Fate Clean)) (steps_of c.args.line) in
      let first = of_both c.self.inside.steps.items
      (replicate c.lacking_fates-lacking.result (Fate Clean)) in
      let clean = of_fates Clean c.lacking_fates-lacking.result in
      search rules;
  calls = c.self.invariant.calls;
  turns = c.self.invariant.turns;
}
