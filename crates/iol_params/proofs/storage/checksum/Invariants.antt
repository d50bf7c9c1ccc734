-- What each round of a loop of `storage::checksum` keeps.
use Rattle.std.proofs.Common.{◌≡◌, drop}
use Rattle.std.specs.Prelude.{fold}
use Rattle.iol_params.specs.Values.{values_in}
use Rattle.iol_params.specs.Storage.{set_octets, crc_octet}
use Rattle.iol_params.proofs.storage.checksum.Given as goal

abbrev pub invariant-loop-member : goal.invariant-loop-member
invariant-loop-member l =
    fold crc_octet l.crc.register (set_octets l.members (values_in l.members l.cells)
    (drop l.member-index l.members))
    ≡ fold crc_octet 4294967295 (set_octets l.members (values_in l.members l.cells) l.members)
