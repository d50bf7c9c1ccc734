-- The clauses of `reply::view_reply` that the search can't prove.
use Rattle.std.proofs.Common.{ap, ◌∙◌, Ok}
use Rattle.iol_mseq.proofs.Messages.{reply_back}
use Rattle.iol_mseq.proofs.reply.view_reply.Goals as goal

pub returns-in-None-clause-only : goal.returns-in-None-clause-only
returns-in-None-clause-only c = λ r s. ap Ok (c.spelled_by.ensures.value
    ∙ reply_back c.args.layout.now c.args.read r c.args.octets.now s)
