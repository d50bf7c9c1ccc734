-- The clauses of `laws::ends_stay_level` that the search can't prove.
use Rattle.iol_far.proofs.Levels.{level_laws}
use Rattle.iol_far.proofs.laws.ends_stay_level.Goals as goal

pub returns : goal.returns
returns c = λ size low. level_laws size (c.texts_join.ensures size low)
    c.cut_is_whole.ensures.sized
