-- The clauses of `Joiner::request_into` that the search can't prove.
use Rattle.std.proofs.Common.{ap, ◌∙◌}
use Rattle.iol_segment.specs.Join.{Joining}
use Rattle.iol_segment.proofs.joiner.Joiner.request_into.Goals as goal

pub returns-clause-only : goal.returns-clause-only
returns-clause-only c = rw (← (c.deref.ensures.0 ∙ ap (λ (j : Joining). j.text) c.self.view_is))
    c.request_into.ensures.only
