-- The clauses of `StoredPort::set_output` that the search can't prove.
use Rattle.std.proofs.Common.{refl, sym, ◌∙◌}
use Rattle.iol_storage.proofs.StoredLemmas.{made-output-taken, made-clear}
use Rattle.iol_storage.proofs.stored.port.StoredPort.set_output.Goals as goal

pub returns-then-is_unserved : goal.returns-then-is_unserved
returns-then-is_unserved g c =
    let quiet = sym c.is_unserved.ensures ∙ c.if-is_unserved.true in
    rw (← c.self.view_is, quiet) (
      (
        c.set_output.new.self,
        made-output-taken _ _ _ c.set_output.result _ c.in_ok-set_output.was c.set_output.ensures,
        (c.clear_output.new.self, made-clear _ _ c.clear_output.ensures, refl),
      ),
      rw (c.copy_of.ensures) refl,
    )

pub returns-else-is_unserved : goal.returns-else-is_unserved
returns-else-is_unserved g c =
    let quiet = sym c.is_unserved.ensures ∙ c.if-is_unserved.false in
    rw (← c.self.view_is, quiet) (
      (
        c.set_output.new.self,
        made-output-taken _ _ _ c.set_output.result _ c.in_ok-set_output.was c.set_output.ensures,
        refl,
      ),
      rw (c.copy_of.ensures) refl,
    )
