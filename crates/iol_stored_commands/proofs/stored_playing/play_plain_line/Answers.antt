-- The clauses of `stored_playing::play_plain_line` that the search can't prove.
use Rattle.std.proofs.Common.{[], refl, sym, append-nil}
use Rattle.iol_stored_commands.proofs.stored_playing.play_plain_line.Goals as goal

pub returns-in-Some-Once : goal.returns-in-Some-Once
returns-in-Some-Once g c = rw (← c.in-Some-Once.ensures, c.in-Some-Once.field-0-is)
    c.play_call.ensures

pub returns-in-Some-Turns : goal.returns-in-Some-Turns
returns-in-Some-Turns g c = (
  [],
  sym (append-nil _),
  rw (← c.in-Some-Turns.ensures, c.in-Some-Turns.field-0-is)
      c.make_turns.ensures,
)

pub returns-in-None : goal.returns-in-None
returns-in-None g c = ([], sym (append-nil _), rw (← c.in-None.ensures) (refl, refl))
