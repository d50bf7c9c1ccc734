-- The clauses of `parts::push_sealed` that the search can't prove.
use Rattle.std.proofs.Common.{refl}
use Rattle.iol_mseq.proofs.Messages.{put_last}
use Rattle.iol_mseq.proofs.parts.push_sealed.Goals as goal

pub returns-clause-value : goal.returns-clause-value
returns-clause-value c =
    rw (
      c.seal.ensures.value,
      put_last c.args.octets.now.items c.args.bits _ c.push.new.self.items
          c.len-place.result c.push.ensures.items c.len-place.ensures.value,
      c.push.ensures.items,
    ) refl
