-- The clauses of `cutter::put_segment` that the search can't prove.
use Rattle.std.proofs.Common.{◌++◌, length-append, arith}
use Rattle.iol_segment.proofs.Pieces.{behind-full, behind-last}
use Rattle.iol_segment.proofs.cutter.put_segment.Goals as goal

pub returns-then-len-end : goal.returns-then-len-end
returns-then-len-end g c =
    rw (
      c.append.ensures,
      c.push.ensures.items,
      c.chkpdu_of.ensures,
      c.len.ensures.value,
      c.get-size.ensures.value,
    )
    (behind-last c.args.size c.args.number c.args.into.now.items
    (c.args.head.now ++ c.args.body.now) c.put_piece.new.into.items
    (omega (arith, length-append c.args.head.now c.args.body.now, c.requires.within))
    (rw (c.len.ensures.value, c.get-size.ensures.value) at c.put_piece.ensures) 32
    (rw c.get-size.ensures.value at c.get-size.ensures.range.1)
    (omega (arith, c.if-len-end.true, c.len-2.ensures.value, c.len.ensures.value)))

pub returns-else-len-end : goal.returns-else-len-end
returns-else-len-end g c =
    behind-full c.args.size c.args.number c.args.into.now.items
    (c.args.head.now ++ c.args.body.now) c.put_piece.new.into.items
    (omega (arith, length-append c.args.head.now c.args.body.now, c.requires.within))
    (rw (c.len.ensures.value, c.get-size.ensures.value) at c.put_piece.ensures)
    (omega (arith, c.if-len-end.false, c.len-2.ensures.value, c.len.ensures.value))
