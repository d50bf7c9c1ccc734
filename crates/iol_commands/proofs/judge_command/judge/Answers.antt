-- The clauses of `judge_command::judge` that the search can't prove.
use Rattle.std.proofs.Common.{sym, ◌∙◌}
use Rattle.std.proofs.lemmas.Option.{IfSome_then}
use Rattle.iol_commands.proofs.OctetsLemmas.{no_error}
use Rattle.iol_commands.proofs.judge_command.judge.Goals as goal

pub returns-clause-printed : goal.returns-clause-printed
returns-clause-printed g c =
    let judged = c.in_ok-judgement.ensures.judged in (
      c.as_str.result.now,
      no_error c.write_output.result c.write_output.ensures.ok
          (sym c.is_err.ensures.value ∙ c.if-is_err.false),
      IfSome_then (g.R.Read.remaining c.args.reader.now) judged (λ capture is. record {
        judging = c.in_ok-judgement.judgement;
        judged = is;
        finds = c.finding.ensures;
        text_is = c.as_str.ensures.value ∙ c.in_ok-text.ensures;
      }),
    )
