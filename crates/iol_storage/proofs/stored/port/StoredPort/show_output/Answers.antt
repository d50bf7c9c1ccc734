-- The clauses of `StoredPort::show_output` that the search can't prove.
use Rattle.std.proofs.Common.{refl, sym, ◌∙◌}
use Rattle.iol_storage.proofs.StoredLemmas.{made-output, one-call}
use Rattle.iol_storage.proofs.stored.port.StoredPort.show_output.Goals as goal

pub returns-in-Some : goal.returns-in-Some
returns-in-Some g c = rw (
  ← c.self.view_is,
  sym c.is_unserved.ensures ∙ c.if-is_unserved.false,
  c.if-not-self.true,
  c.in-Some.is,
) (
  _,
  record {
    made = one-call _ _ _ _ (made-output _ _ _ c.set_output.result c.set_output.ensures);
    rest = refl;
  },
)
