-- The clauses of `stored_trace::traced_over` that the search can't prove.
use Rattle.std.proofs.Common.{◌∙◌, inl, inr}
use Rattle.std.proofs.lemmas.Result.{on_ok_weaker}
use Rattle.iol_stored_commands.proofs.stored_trace.traced_over.Goals as goal

pub returns-in-Ok-clause-printed : goal.returns-in-Ok-clause-printed
returns-in-Ok-clause-printed g c =
    on_ok_weaker c.traced_on.result (λ made. (
      made.0,
      made.1,
      inl (record {
        first = c.in-Ok.port;
        opens = c.in-Ok.ensures.port;
        over_tap = c.in-Ok.ensures.wire ∙ c.new-tap.ensures;
        traces = made.2;
      }),
    )) c.traced_on.ensures.printed

pub returns-in_ok-output-in-Err-SmallQueue-default-clause-printed :
    goal.returns-in_ok-output-in-Err-SmallQueue-default-clause-printed
returns-in_ok-output-in-Err-SmallQueue-default-clause-printed g c =
    let refused = c.in-Err-SmallQueue-default in
    on_ok_weaker c.write_output.result (λ wrote. (
      c.as_str.result.now,
      wrote,
      inr (record {
        few = rw refused.field-0-0-is at refused.ensures.refused;
        text_is = c.as_str.ensures.value
            ∙ rw (c.wire.ensures, refused.ensures.back, c.new-tap.ensures)
            at c.in_ok-output-in-Err-SmallQueue-default.ensures;
      }),
    )) c.write_output.ensures.ok
