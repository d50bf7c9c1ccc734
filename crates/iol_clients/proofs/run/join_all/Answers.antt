-- What the search can't prove of the body of `run::join_all`.
use Rattle.std.proofs.Common.{append_assoc}
use Rattle.std.proofs.lemmas.Slice.Zip.{all_zipped_more}
use Rattle.iol_clients.proofs.run.join_all.Goals as goal

pub loop-thread-preserved : goal.loop-thread-preserved
loop-thread-preserved g c =
    let before = c.loop-thread.invariant in
    record {
      all = rw append_assoc (rw c.in-Some.ensures.steps.0 at before.all);
      fulfilled = rw c.in_ok-push.ensures.items
          (all_zipped_more _ _ _ _ _ before.fulfilled c.in_ok-join.ensures);
    }
