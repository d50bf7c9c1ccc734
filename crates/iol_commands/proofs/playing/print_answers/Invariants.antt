-- What each round of a loop of `playing::print_answers` keeps.
use Rattle.std.proofs.Common.{◌≡◌, ◌++◌}
use Rattle.std.specs.Iterator.Adapters.{zip_first, zip_second}
use Rattle.std.specs.Slice.Iter.{iter_rest}
use Rattle.std.specs.String.{string_bytes}
use Rattle.iol_commands.specs.RunPrinted.{answers_text}
use Rattle.iol_commands.proofs.playing.print_answers.Given as goal

abbrev pub invariant-loop-call : goal.invariant-loop-call
invariant-loop-call g l =
    string_bytes l.fn.output ++ answers_text l.calls l.answers ≡ string_bytes l.output
    ++ answers_text (iter_rest (zip_first l.call-iterator))
    (iter_rest (zip_second l.call-iterator))
