-- The clauses of `stored_run::played_over` that the search can't prove.
use Rattle.std.proofs.Common.{inl, inr}
use Rattle.std.proofs.lemmas.Result.{IfOk-weaker}
use Rattle.iol_stored_commands.proofs.stored_run.played_over.Goals as goal

pub returns-in-Ok : goal.returns-in-Ok
returns-in-Ok g c =
    IfOk-weaker c.played_on.result _ _ (λ output on. inl (record {
      first = c.in-Ok.port;
      opens = c.in-Ok.ensures.port;
      over_wire = c.in-Ok.ensures.wire;
      plays = on;
    })) c.played_on.ensures

pub returns-in-Err-SmallQueue-default : goal.returns-in-Err-SmallQueue-default
returns-in-Err-SmallQueue-default g c =
    let refused = c.in-Err-SmallQueue-default in
    IfOk-weaker c.opened_none.result _ _ (λ output is. inr (record {
      few = rw refused.field-0-0-is at refused.ensures.refused;
      text_is = rw refused.ensures.back at is;
    })) c.opened_none.ensures
