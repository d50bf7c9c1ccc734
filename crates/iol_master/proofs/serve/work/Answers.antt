-- What the search can't prove of the body of `serve::work`.
use Rattle.std.proofs.Common.{◌∷◌, arith}
use Rattle.iol_master.proofs.Lets.{one_more}
use Rattle.iol_master.proofs.serve.work.Goals as goal

pub loop-turn-preserved : goal.loop-turn-preserved
loop-turn-preserved g c =
    let before = c.loop-turn.invariant in
    record {
      counted = omega (arith, before.counted, c.turn.ensures.counted);
      list = c.turn.ensures.turned ∷ before.list;
      count = omega (arith, before.count);
      yes = one_more g.G.Gate.pass_gives _ _ _ before.yes
          (rw (← c.if-not-pass.false) c.pass.ensures);
    }
