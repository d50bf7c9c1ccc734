-- What the search can't prove of the body of `stored_trace::traced_stored`.
use Rattle.std.proofs.Common.{◌≡◌, arith}
use Rattle.std.proofs.lemmas.Result.{on_ok_weaker}
use Rattle.iol_script.specs.Text.{numbered_lines}
use Rattle.iol_stored_script.specs.PlainText.{plain_lines}
use Rattle.iol_stored_script.specs.declared.as_plain.StoreLine.TheVariants.{Awaited}
use Rattle.iol_stored_commands.proofs.CallsLemmas.{few_calls}
use Rattle.iol_stored_commands.proofs.stored_trace.traced_stored.Goals as goal

pub traced_over-requires : goal.traced_over-requires
traced_over-requires g c =
    omega (
      arith,
      few_calls Awaited (numbered_lines c.args.input.now),
      rw (c.as_slice.ensures.value, c.in_ok-plain.ensures) at c.in_ok-script.ensures.calls,
    )

pub returns-then-is_empty-clause-printed : goal.returns-then-is_empty-clause-printed
returns-then-is_empty-clause-printed g c =
    let plain : numbered_lines c.as_slice.result.now
    ≡ plain_lines Awaited (numbered_lines c.args.input.now) =
    rw c.as_slice.ensures.value c.in_ok-plain.ensures in
    on_ok_weaker c.traced_over.result (λ done. (
      done.0,
      done.1,
      rw (← plain, c.in_ok-script.ensures.script, ← c.if-is_empty.ensures)
          (rw (
            c.in_ok-wire_of.ensures.whole,
            c.as_slice-2.ensures.value,
            ← c.as_slice.ensures.value,
          ) at done.2),
    )) c.traced_over.ensures.printed

pub traced_by_table-requires-clause-calls : goal.traced_by_table-requires-clause-calls
traced_by_table-requires-clause-calls g c =
    omega (
      arith,
      few_calls Awaited (numbered_lines c.args.input.now),
      rw (c.as_slice.ensures.value, c.in_ok-plain.ensures) at c.in_ok-script.ensures.calls,
    )
