-- The clauses of `lines::place_in` that the search can't prove.
use Rattle.iol_book.specs.Replay.{same_ticket}
use Rattle.iol_book.proofs.LineLemmas.{is_some-position, none-position, remove-position}
use Rattle.iol_book.proofs.lines.place_in.Goals as goal

pub returns-clause-found : goal.returns-clause-found
returns-clause-found g c = is_some-position (same_ticket c.args.ticket) _ _ c.first_at.ensures

pub returns-clause-rest : goal.returns-clause-rest
returns-clause-rest g c = remove-position (same_ticket c.args.ticket) _ _ c.first_at.ensures

pub returns-clause-none : goal.returns-clause-none
returns-clause-none g c = none-position (same_ticket c.args.ticket) _ _ c.first_at.ensures
