-- What comes back is taken up: over every wire, and over an honest one.
use Rattle.iol_app.proofs.Reporting.{taken_report}
use Rattle.iol_app.proofs.Pieces.{receive_steps}
use Rattle.iol_app.proofs.core_data.Core.receive.Goals as goal

pub returns-clause-report_fits : goal.returns-clause-report_fits
returns-clause-report_fits c = taken_report c.requires c.take.ensures

pub returns-clause-steps : goal.returns-clause-steps
returns-clause-steps c = receive_steps c.station_laws.ensures c.requires c.take.ensures
