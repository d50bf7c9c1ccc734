-- The clauses of `playing::print_answers` that the search can't prove.
use Rattle.std.specs.String.{string_bytes}
use Rattle.iol_commands.specs.RunPrinted.{answers_text}
use Rattle.iol_commands.proofs.PlayLemmas.{answers_printed}
use Rattle.std.proofs.lemmas.Slice.Zip.{either_empty_from_Zip}
use Rattle.iol_commands.proofs.playing.print_answers.Goals as goal

pub returns : goal.returns
returns g c =
    answers_printed (string_bytes c.args.output.now) _
    (answers_text c.args.calls.now c.args.answers.now) _ _ c.loop-call.invariant
    (either_empty_from_Zip c.loop-call.call-iterator c.next.new.self c.next.result c.in-None.is
    c.next.ensures.steps)
