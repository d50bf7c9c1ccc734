-- What each round of a loop of `answer::has_answer_of` keeps.
use Rattle.std.proofs.Common.{◌≡◌, ◌-◌}
use Rattle.std.specs.List.{list_any, range_with_len}
use Rattle.iol_judge.specs.Answers.{is_some_answer}
use Rattle.iol_judge.proofs.answer.has_answer_of.Given as goal

abbrev pub invariant-loop-total : goal.invariant-loop-total
invariant-loop-total l =
    list_any (is_some_answer l.look l.read l.octets)
    (range_with_len l.fn.least (l.end - l.fn.least))
    ≡ list_any (is_some_answer l.look l.read l.octets) (range_with_len l.total (l.end - l.total))
