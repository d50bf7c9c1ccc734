-- The clauses of `laws::one_flip_is_refused` that the search can't prove.
use Rattle.std.proofs.Common.{◌-◌, length, arith}
use Rattle.std.proofs.lemmas.List.{length-set}
use Rattle.std.proofs.lemmas.Bool.{and_parts, leb-true}
use Rattle.iol_mseq.proofs.laws.one_flip_is_refused.Goals as goal

pub returns-clause-master : goal.returns-clause-master
returns-clause-master c =
    λ layout other octets place bit a h b good flipped.
    c.one_flip_is_seen.ensures octets 1 place bit a
    (leb-true 2 (length octets) (and_parts _ _ good.length).0) h b good.checksum flipped.checksum

pub returns-clause-reply : goal.returns-clause-reply
returns-clause-reply c =
    λ layout other read other_read octets place bit a h b good flipped.
    c.one_flip_is_seen.ensures octets (length octets - 1) place bit a (omega arith) h b
    good.checksum (rw length-set at flipped.checksum)
