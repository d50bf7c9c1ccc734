-- The clauses of `laws::cut_is_whole` that the search can't prove.
use Rattle.iol_segment.proofs.CutLaws.{cut_is_pairs, segments_have_size}
use Rattle.iol_segment.proofs.laws.cut_is_whole.Goals as goal

pub returns-clause-whole : goal.returns-clause-whole
returns-clause-whole c = cut_is_pairs

pub returns-clause-sized : goal.returns-clause-sized
returns-clause-sized c = segments_have_size
