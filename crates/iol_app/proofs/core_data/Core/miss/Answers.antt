-- A question in place of the message that is out.
use Rattle.std.proofs.lemmas.Grind.{common_steps}
use Rattle.std.proofs.Common.{◌≡◌, ◌∙◌, sym, arith, Bool, true, false}
use Rattle.std.specs.Prelude.{not}
use Rattle.iol_app.proofs.Doubts.{asked_joined, asked_after}
use Rattle.iol_app.proofs.core_data.Core.miss.Goals as goal

some_of : (some none : Bool) → some ≡ not none → none ≡ false → some ≡ true
some_of some none e k = grind (arith, common_steps)

pub invariant_of-self : goal.invariant_of-self
invariant_of-self c = (
  c.put_instead.ensures.fits,
  asked_joined _ _ _ _ _ _ c.in-Operate.is (some_of _ _ c.is_none.ensures c.if-is_none.false)
      c.self.invariant.1 c.miss.ensures.session (sym c.in-Some.is ∙ c.miss.ensures.asks)
      c.put_instead.ensures.state,
)

pub returns-in-Some-clause-core : goal.returns-in-Some-clause-core
returns-in-Some-clause-core c =
    rw (← c.self.view_is) (asked_after _ _ _ _ _ _ c.in-Operate.is
    (some_of _ _ c.is_none.ensures c.if-is_none.false) c.self.invariant.1 c.miss.ensures.session
    (sym c.in-Some.is ∙ c.miss.ensures.asks) c.put_instead.ensures.state)
