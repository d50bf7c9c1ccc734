-- What the search can't prove of the body of `Held::withdraw`.
use Rattle.std.proofs.Common.{ap, arith, ◌∙◌}
use Rattle.std.proofs.lemmas.Grind.{common_steps}
use Rattle.iol_book.specs.BookModel.{BookState}
use Rattle.iol_master.proofs.Refusing.{withdrawal-last}
use Rattle.iol_master.proofs.held.Held+W+K+A.withdraw.Goals as goal

pub invariant_of-self : goal.invariant_of-self
invariant_of-self g c =
    let last = ap (λ (b : BookState). b.last) c.withdraw.ensures.gives.book
    ∙ withdrawal-last c.self.inside.port.parts.book.state c.args.ticket in
    (c.self.invariant.0, c.self.invariant.1, grind (arith, common_steps, last))
