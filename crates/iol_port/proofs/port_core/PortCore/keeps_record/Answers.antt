-- The clauses of `PortCore::keeps_record` that the search can't prove.
use Rattle.iol_port.proofs.RunLemmas.{sound_keeps}
use Rattle.iol_port.proofs.CleanLevel.{level_preserved}
use Rattle.iol_port.proofs.port_core.PortCore.keeps_record.Goals as goal

pub returns-clause-record_fits : goal.returns-clause-record_fits
returns-clause-record_fits g c far n a stands sound =
    let keeps = sound_keeps far n _ a stands sound in (keeps, level_preserved far n _ keeps)
