-- The clauses of `StoredPort::submit_asked` that the search can't prove.
use Rattle.std.proofs.Common.{refl, sym, ◌∙◌}
use Rattle.iol_storage.proofs.StoredLemmas.{made-submit, one-call, submitted-one, submitted-none}
use Rattle.iol_storage.proofs.stored.port.StoredPort.submit_asked.Goals as goal

pub returns-in-Ok : goal.returns-in-Ok
returns-in-Ok g c = rw (
  ← c.self.view_is,
  sym c.is_some.ensures ∙ c.if-is_some.false,
  sym c.asks.ensures ∙ c.in-Some.is,
) (
  _,
  record {
    made = one-call _ _ _ _ (made-submit _ _ _ c.submit.result c.submit.ensures.is);
    rest = rw (← submitted-one c.submit.result c.in-Ok.ticket c.self.inside.storage c.in-Ok.is)
        refl;
  },
)

pub returns-in_default-submit : goal.returns-in_default-submit
returns-in_default-submit g c = rw (
  ← c.self.view_is,
  sym c.is_some.ensures ∙ c.if-is_some.false,
  sym c.asks.ensures ∙ c.in-Some.is,
) (
  _,
  record {
    made = one-call _ _ _ _ (made-submit _ _ _ c.submit.result c.submit.ensures.is);
    rest = rw (← submitted-none c.submit.result c.self.inside.storage c.in_default-submit.not-Ok)
        refl;
  },
)
