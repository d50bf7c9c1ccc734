-- The device's output over an exchange: valid in OPERATE alone once an image was sent, that image,
-- and as told.
-- For the clauses of `laws::receive_gives` and `laws::rise_gives`.
use Rattle.std.proofs.lemmas.Grind.{common_steps}
use Rattle.std.proofs.Common.{arith, Bool, List}
use Rattle.std.specs.Prelude.{Option}
use Rattle.iol_far.specs.Far.{Far}
use Rattle.iol_far.specs.Local.{LocalStep, locals}
use Rattle.iol_app.specs.Abstract.Steps.{ImageOctets}
use Rattle.iol_app.proofs.AllLaws.{by_locals}
use Rattle.iol_app.specs.Ends.{OutputFits}

module _ (sent : Option ImageOctets) (known : Type 0) (acked : Bool) where
  abbrev Outputs : Far → Type 0
  Outputs far = OutputFits sent known acked far

  pub outputs_locals : (steps : List LocalStep) (far : Far) → Outputs far
      → Outputs (locals far steps)
  outputs_locals = by_locals Outputs (λ far step h. grind (arith, common_steps))
