-- The clauses of `cutter::put_piece` that the search can't prove.
use Rattle.iol_segment.proofs.Pieces.{piece-behind}
use Rattle.iol_segment.proofs.cutter.put_piece.Goals as goal

pub returns : goal.returns
returns g c = rw (c.append-2.ensures, c.behind-2.ensures, c.saturating_sub.ensures)
    (piece-behind c.args.size c.args.from c.args.into.now.items c.args.head.now c.args.body.now
    c.append.new.into.items (rw (← c.behind.ensures) c.append.ensures))
