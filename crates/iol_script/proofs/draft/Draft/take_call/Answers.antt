-- The clauses of `Draft::take_call` that the search can't prove.
use Rattle.std.proofs.Common.{sym, ◌∙◌}
use Rattle.iol_script.proofs.FitsLemmas.{no_call, one_more}
use Rattle.iol_script.proofs.draft.Draft.take_call.Goals as goal

pub returns-then-not-fits_call : goal.returns-then-not-fits_call
returns-then-not-fits_call g c = no_call _ _ (sym c.if-not-fits_call.ensures)

pub returns : goal.returns
returns g c = c.add_calls.ensures ∙ one_more _ _ (sym c.if-not-fits_call.ensures)
