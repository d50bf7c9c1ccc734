-- A source that is lent to be changed.
use Rattle.std.specs.Borrow.{Lends, MutBor, Fml, RattleType}
use Rattle.iol_segment.specs.Cut.{Cutting}
use Rattle.iol_segment.specs.declared.source.Source.{Ghosts}
use Rattle.iol_segment.specs.contracts.cutter.Cutter.{the_row}

-- the cut begins again, with what stands in the source's place
abbrev pub with_source : {S : Type 0} → Cutting S → S → Cutting S
with_source cutting source = record { source = source; size = cutting.size; issued = 0 }

-- the source is what was written last through r
abbrev pub LendsSource : (S : RattleType) (g : Ghosts S.Denot) → MutBor (Cutting S.Denot)
    → MutBor S.Denot → Fml
LendsSource S g c r = Lends (the_row S g) S c r (with_source c.now)
