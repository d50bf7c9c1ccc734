-- Why a port's last session ended.
use Rattle.std.specs.Prelude.{Option, None}
use Rattle.iol_mode.specs.declared.why.Why.{Why}
use Rattle.iol_app.specs.declared.mode.Mode.{Mode}
use Rattle.iol_app.specs.declared.mode.Mode.TheVariants.{Down, Operate}

-- a session lasts from a wake that succeeded until the link is down: a wake in vain ends none
-- PORT-13
abbrev pub loss_after : Mode → Mode → Option Why → Option Why → Option Why
loss_after Down mode why last = last
loss_after began Down why last = why
loss_after began Operate why last = None
loss_after began mode why last = last
