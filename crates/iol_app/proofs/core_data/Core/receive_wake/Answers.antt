-- What a wake gives: on every wire, and where both ends stand together.
use Rattle.std.specs.Prelude.{is_some}
use Rattle.iol_app.specs.declared.event_work.EventRoom.TheVariants.{Full}
use Rattle.iol_app.proofs.Reporting.{woken_report}
use Rattle.iol_app.proofs.Pieces.{wake_steps}
use Rattle.iol_app.proofs.core_data.Core.receive_wake.Goals as goal

pub returns-clause-report_fits : goal.returns-clause-report_fits
returns-clause-report_fits c = woken_report Full (is_some c.args.rate) c.args.self.now c.requires
    c.take_wake.ensures.still c.take_wake.ensures.core

pub returns-clause-steps : goal.returns-clause-steps
returns-clause-steps c = wake_steps c.station_laws.ensures c.args.self.now (is_some c.args.rate)
    c.take_wake.new.self c.requires c.take_wake.ensures.stands c.take_wake.ensures.core
