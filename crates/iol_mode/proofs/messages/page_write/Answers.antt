-- The clauses of `messages::page_write` that the search can't prove.
use Rattle.iol_mode.proofs.Controls.{write_parts}
use Rattle.iol_mode.proofs.messages.page_write.Goals as goal

pub returns-clause-parts : goal.returns-clause-parts
returns-clause-parts c = write_parts c.args.layout.now c.args.address c.args.octet
    c.od.ensures.valid c.requires.plain c.requires.address
