-- The clauses of `packing::image_in` that the search can't prove.
use Rattle.std.proofs.Common.{◌≡◌, rules, slice_index, take, min}
use Rattle.iol_cell.specs.Packing.{packed_octets}
use Rattle.iol_cell.proofs.Pieces.{image_of_first, length-octets_of}
use Rattle.iol_cell.proofs.packing.image_in.Goals as goal

pub returns : goal.returns
returns c =
    let words = c.args.words.now in
    let taken : c.truncate.new.self.items
    ≡ take (min (slice_index words 0) 32) (packed_octets words) =
    rw (c.truncate.ensures.items, c.octets_in-octets.ensures) (search rules) in
    rw c.ok.ensures.value
    (image_of_first c.of.result (slice_index words 0) (packed_octets words)
    c.truncate.new.self.items (length-octets_of words) taken c.of.ensures.octets
    c.of.ensures.length.0 c.of.ensures.length.1)
