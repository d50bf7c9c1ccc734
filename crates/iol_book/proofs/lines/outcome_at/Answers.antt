-- The clauses of `lines::outcome_at` that the search can't prove.
use Rattle.iol_book.specs.Replay.{same_ticket}
use Rattle.iol_book.proofs.LineLemmas.{is_some-position, lookup-position, remove-position}
use Rattle.iol_book.proofs.lines.outcome_at.Goals as goal

pub returns-clause-found : goal.returns-clause-found
returns-clause-found c = is_some-position (same_ticket c.args.ticket) _ _ c.place_of.ensures

pub returns-clause-its_own : goal.returns-clause-its_own
returns-clause-its_own c = lookup-position (same_ticket c.args.ticket) _ _ c.place_of.ensures

pub returns-clause-rest : goal.returns-clause-rest
returns-clause-rest c = remove-position (same_ticket c.args.ticket) _ _ c.place_of.ensures
