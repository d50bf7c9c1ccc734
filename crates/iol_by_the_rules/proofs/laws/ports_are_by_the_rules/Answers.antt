-- The clauses of `laws::ports_are_by_the_rules` that the search can't prove.
use Rattle.iol_by_the_rules.proofs.Lines.{ports_are_fair}
use Rattle.iol_by_the_rules.proofs.laws.ports_are_by_the_rules.Goals as goal

pub returns : goal.returns
returns c =
    ports_are_fair c.texts_are_heard.ensures c.pages_ask_for_layouts.ensures c.texts_join.ensures
