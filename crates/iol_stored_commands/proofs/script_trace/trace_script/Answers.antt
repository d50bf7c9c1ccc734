-- The clauses of `script_trace::trace_script` that the search can't prove.
use Rattle.std.proofs.Common.{rules}
use Rattle.std.proofs.lemmas.Option.{IfSome_then}
use Rattle.std.proofs.lemmas.Result.{on_ok_weaker}
use Rattle.iol_stored_commands.proofs.script_trace.trace_script.Goals as goal

pub returns-clause-answers : goal.returns-clause-answers
returns-clause-answers g c =
    let one = c.as_slice.ensures.value in
    let two = c.as_slice-2.ensures.value in
    record {
      too_long = search rules;
      bad_line = search rules;
      good = search rules;
      flaw = search rules;
      taken = search rules;
      printed = on_ok_weaker c.traced_by_mode.result (λ done. (
        done.0,
        done.1,
        IfSome_then (g.R.Read.remaining c.args.reader.now) c.in_ok-input.ensures.all (λ input is.
            rw (← is) (rw (two, c.mode_of-mode.ensures, one) at done.2)),
      )) c.traced_by_mode.ensures.printed;
    }
