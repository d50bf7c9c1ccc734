-- The clauses of `PortCore::restart` that the search can't prove.
use Rattle.std.proofs.Common.{sym, ap, ◌∙◌, rules}
use Rattle.iol_port.proofs.CallLemmas.{restart_does, restart_book, restart_cuts, restart_quiet, some_request}
use Rattle.iol_port.proofs.CorePorts.{nothing_out}
use Rattle.iol_port.proofs.port_core.PortCore.restart.Goals as goal

pub returns-then-cut : goal.returns-then-cut
returns-then-cut g c =
    let book = restart_cuts _ _ _
    (some_request _ ∙ sym c.restart-cut.ensures.cut ∙ c.if-cut.true) c.post.ensures.state in
    rw (← c.self.view_is)
    (record {
      does = record {
        follows = restart_does _ c.restart-cut.new.self
            c.post.new.self _ _
            (ap (λ p. p.sent) c.self.view_is ∙ nothing_out c.args.self.now c.requires) book
            c.restart-cut.ensures.core
            (rw c.restart-cut.ensures.core at c.restart-cut.ensures.steps);
        book = restart_book _ _ _ _ c.self.invariant.same book;
      };
      gives = search rules;
    })

pub returns-else-cut : goal.returns-else-cut
returns-else-cut g c =
    let book = restart_quiet _ _
    (some_request _ ∙ sym c.restart-cut.ensures.cut ∙ c.if-cut.false) in
    rw (← c.self.view_is)
    (record {
      does = record {
        follows = restart_does _ c.restart-cut.new.self
            c.self.inside.book _ _
            (ap (λ p. p.sent) c.self.view_is ∙ nothing_out c.args.self.now c.requires) book
            c.restart-cut.ensures.core
            (rw c.restart-cut.ensures.core at c.restart-cut.ensures.steps);
        book = restart_book _ _ _ _ c.self.invariant.same book;
      };
      gives = search rules;
    })
