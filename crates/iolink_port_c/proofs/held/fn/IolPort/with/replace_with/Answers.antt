-- What the closure makes of the box's value is what the handle holds from then on.
use Rattle.std.proofs.Common.{◌∙◌, sym}
use Rattle.iolink_port_c.proofs.held.fn.IolPort.with.replace_with.Goals as goal

pub returns : goal.returns
returns g c = record {
  stays = c.of.ensures.opened;
  made = record {
    shown = _;
    shows = c.deref_mut.ensures.value ∙ c.take-master.ensures.value;
    left = _;
    met = c.f-made.ensures;
    leaves = sym c.of.ensures.value;
  };
}
