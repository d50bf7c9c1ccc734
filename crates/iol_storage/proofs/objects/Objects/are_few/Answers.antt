-- The clauses of `Objects::are_few` that the search can't prove.
use Rattle.std.proofs.Common.{◌≤◌, ◌+◌, ◌*◌, length, subst}
use Rattle.iol_storage.specs.Objects.{values_size}
use Rattle.iol_storage.proofs.Spans.{few}
use Rattle.iol_storage.proofs.objects.Objects.are_few.Goals as goal

pub returns : goal.returns
returns c = subst (λ os. values_size os + 4 * length os ≤ 2048) c.self.view_is
    (few c.self.inside.octets.items c.self.inside.spans.items c.self.invariant.0
    c.self.invariant.1)
