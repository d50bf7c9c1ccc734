-- The clauses of `Table::is_sound` that the search can't prove.
use Rattle.iol_params.proofs.TableLemmas.{sound-table}
use Rattle.iol_params.proofs.table.Table.is_sound.Goals as goal

pub returns : goal.returns
returns c =
    let i = c.self.inside in
    rw (← c.self.view_is) (sound-table i.members.now i.rules.now c.self.invariant)
