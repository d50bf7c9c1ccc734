-- The clauses of `stored_playing::play_line` that the search can't prove.
use Rattle.std.proofs.Common.{[], refl, sym, append-nil}
use Rattle.iol_stored_commands.proofs.stored_playing.play_line.Goals as goal

pub returns-in-Some-Store : goal.returns-in-Some-Store
returns-in-Some-Store g c = (
  [],
  sym (append-nil _),
  rw (← c.in-Some-Store.ensures, c.in-Some-Store.field-0-is)
      (refl, refl),
)

pub returns-in-None : goal.returns-in-None
returns-in-None g c = rw (← c.in-None.ensures) c.play_plain_line.ensures
