-- The clauses of `packing::words_of` that the search can't prove.
use Rattle.iol_cell.proofs.Pieces.{image_of-packed}
use Rattle.iol_cell.proofs.packing.words_of.Goals as goal

pub returns : goal.returns
returns c =
    rw c.in-Some.is
    (image_of-packed c.octets.result.now c.in-Some.image.now c.padded_octets-octets.result _ _ _
    _ c.octets.ensures.octets c.octets.ensures.length c.padded_octets-octets.ensures
    c.word_at.ensures c.word_at-2.ensures c.word_at-3.ensures c.word_at-4.ensures)
