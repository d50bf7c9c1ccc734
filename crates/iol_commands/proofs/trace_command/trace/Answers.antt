-- The clauses of `trace_command::trace` that the search can't prove.
use Rattle.std.proofs.Common.{rules}
use Rattle.std.proofs.lemmas.Option.{IfSome_then}
use Rattle.std.proofs.lemmas.Result.{on_ok_weaker}
use Rattle.iol_commands.proofs.trace_command.trace.Goals as goal

pub returns-clause-answers : goal.returns-clause-answers
returns-clause-answers g c =
    let one = c.as_slice.ensures.value in
    let two = c.as_slice-2.ensures.value in
    record {
      too_long = search rules;
      bad_line = search rules;
      good = search rules;
      flaw = search rules;
      taken = search rules;
      printed = on_ok_weaker c.traced.result (λ done. (
        done.0,
        done.1,
        IfSome_then (g.R.Read.remaining c.args.reader.now) c.in_ok-input.ensures.all (λ input is.
            rw (← is, ← one, c.in_ok-script.ensures.script) (rw (two, ← one) at done.2)),
      )) c.traced.ensures.printed;
    }
