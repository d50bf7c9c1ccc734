-- The clauses of `parts::write_octet` that the search can't prove.
use Rattle.arrayvec.proofs.ArrayVecLemmas.{items-with_items}
use Rattle.std.proofs.lemmas.List.{length-set}
use Rattle.iol_mseq.proofs.parts.write_octet.Goals as goal

pub returns : goal.returns
returns c = rw c.deref_mut.ensures.value (items-with_items c.args.message.now _ (length-set _ _ _))
