-- What the search can't prove of the body of `collect::settle_all`.
use Rattle.std.proofs.Common.{append_assoc, refl}
use Rattle.std.proofs.lemmas.Fn.{FoldsTo-push}
use Rattle.std.proofs.lemmas.List.{map-append}
use Rattle.iol_clients.specs.Counts.{SettlesClient}
use Rattle.iol_clients.proofs.collect.settle_all.Goals as goal

pub loop-client-preserved : goal.loop-client-preserved
loop-client-preserved g c =
    let before = c.loop-client.invariant in
    record {
      all = rw append_assoc (rw c.in-Some.ensures.steps.0 at before.all);
      settled = rw map-append (FoldsTo-push SettlesClient 0 _ _ _ _ before.settled
          (c.settle.result, c.settle.ensures, rw c.in_default.is refl));
    }

pub loop-client-preserved-in-Last : goal.loop-client-preserved-in-Last
loop-client-preserved-in-Last g c =
    let before = c.loop-client.invariant in
    record {
      all = rw append_assoc (rw c.in-Some.ensures.steps.0 at before.all);
      settled = rw map-append (FoldsTo-push SettlesClient 0 _ _ _ _ before.settled
          (c.settle.result, c.settle.ensures, rw c.in-Last.is refl));
    }
