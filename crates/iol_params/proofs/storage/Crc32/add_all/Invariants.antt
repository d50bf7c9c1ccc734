-- What each round of a loop of `Crc32::add_all` keeps.
use Rattle.std.proofs.Common.{◌≡◌, drop}
use Rattle.std.specs.Prelude.{fold}
use Rattle.iol_params.specs.Storage.{crc_octet}
use Rattle.iol_params.proofs.storage.Crc32.add_all.Given as goal

abbrev pub invariant-loop-octet : goal.invariant-loop-octet
invariant-loop-octet l = fold crc_octet l.self.register (drop l.octet-index l.octets)
    ≡ fold crc_octet l.initial.self.register l.octets
