-- The clauses of `checksum::has_checksum6` that the search can't prove.
use Rattle.std.proofs.Common.{arith}
use Rattle.iol_octets.proofs.Flips.{has_checksum-is}
use Rattle.iol_octets.proofs.checksum.has_checksum6.Goals as goal

pub returns : goal.returns
returns c = rw (c.compress.ensures.value, c.fold.ensures)
    (has_checksum-is c.args.octets.now c.args.place
    (λ i. let octet = c.type_inv.octets i in omega arith) c.requires)
