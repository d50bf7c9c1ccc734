-- The clauses of `playing::play` that the search can't prove.
use Rattle.std.proofs.Common.{refl, sym}
use Rattle.std.proofs.lemmas.Result.{on_ok_weaker}
use Rattle.iol_commands.specs.RunPrinted.{answers_text}
use Rattle.iol_commands.proofs.playing.play.Goals as goal

pub returns : goal.returns
returns g c =
    let answers = c.in-Ok.answers.items in
    on_ok_weaker c.print_answers.result (λ wrote. (
      answers_text c.args.calls.now answers,
      wrote,
      record {
        answers = answers;
        made = c.in-Ok.ensures.gives;
        runs = c.in-Ok.ensures.run;
        granted = sym (rw c.as_slice.ensures.value at c.if-any_lacks_memory.ensures);
        text_is = refl;
      },
    )) (rw c.as_slice-2.ensures.value at c.print_answers.ensures)
