-- What each round of a loop of `Crc32::add` keeps.
use Rattle.std.proofs.Common.{◌≡◌, bit_xor}
use Rattle.iol_params.specs.Storage.{crc_bits}
use Rattle.iol_params.proofs.storage.Crc32.add.Given as goal

abbrev pub invariant-loop : goal.invariant-loop
invariant-loop l =
    l.register ≡ crc_bits l.counter (bit_xor l.fn.self.register l.fn.octet)
