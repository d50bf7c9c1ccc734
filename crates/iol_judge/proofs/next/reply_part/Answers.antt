-- The clauses of `next::reply_part` that the search can't prove.
use Rattle.iol_judge.proofs.Concluding.{refused_part}
use Rattle.iol_judge.proofs.next.reply_part.Goals as goal

pub returns-in-Refused : goal.returns-in-Refused
returns-in-Refused c = refused_part c.args.layouts.now c.args.odd c.args.observed.now
    c.args.sent.now
    c.args.octets.now c.copy-state.result c.explain.new.self c.in_ok-oddity.field-0
    c.in-Refused.reason c.in-Refused.is c.in_ok-oddity.ensures.value c.args.next.now
    c.args.part.now c.copy-state.ensures _ c.or_later-next.ensures
