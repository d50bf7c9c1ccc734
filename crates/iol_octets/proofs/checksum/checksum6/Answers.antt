-- The clauses of `checksum::checksum6` that the search can't prove.
use Rattle.iol_octets.proofs.Flips.{checksums_fit}
use Rattle.iol_octets.proofs.checksum.checksum6.Goals as goal

pub returns-clause-fits : goal.returns-clause-fits
returns-clause-fits c = (checksums_fit c.args.octets.now).1
