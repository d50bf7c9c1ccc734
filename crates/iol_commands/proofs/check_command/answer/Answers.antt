-- The clauses of `check_command::answer` that the search can't prove.
use Rattle.iol_commands.proofs.check_command.answer.Goals as goal

pub returns-in-Master-clause-printed : goal.returns-in-Master-clause-printed
returns-in-Master-clause-printed g c =
    rw c.in-Master.is (rw c.as_slice.ensures.value at c.print_message_of.ensures.text)
