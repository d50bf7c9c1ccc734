-- A port that is new stands for the abstract port that is opened, with every far end.
use Rattle.std.proofs.Common.{false, sym, subst, arith, None}
use Rattle.std.proofs.lemmas.Grind.{common_steps}
use Rattle.iol_app.specs.Core.{CoreState}
use Rattle.iol_app.specs.CoreStands.{IsAttempted}
use Rattle.iol_port.proofs.RunLemmas.{opened_stands}
use Rattle.iol_port.proofs.port_core.PortCore.open_for.Goals as goal

pub returns-in-Ok-clause-opens : goal.returns-in-Ok-clause-opens
returns-in-Ok-clause-opens g c =
    let core = c.new.ensures.core in
    opened_stands c.args.devices c.args.limits.now
    (record {
      core = c.new.result;
      book = c.in-Ok.book;
      queued = c.new-in-Ok.result.items;
      sent = false;
      counters = c.zero.result;
      last_loss = None;
    })
    (grind (arith, common_steps, core, c.in-Ok.ensures, c.new-in-Ok.ensures, c.zero.ensures))
    (subst (λ (k : CoreState). IsAttempted k.state) (sym core) tt) c.new.ensures.steps
