-- The clauses of `image::save` that the search can't prove.
use Rattle.std.proofs.Common.{sym, ◌∙◌}
use Rattle.iol_slots.proofs.PowerCuts.{saved-anew}
use Rattle.iol_slots.proofs.image.save.Goals as goal

pub returns-clause-loads : goal.returns-clause-loads
returns-clause-loads g c =
    let memory = g.S.Slots.memory in
    (saved-anew (memory c.args.slots.now) (memory c.save_anew.new.slots) c.args.content.now
    c.requires (sym c.is_loaded.ensures ∙ c.if-is_loaded.false) c.save_anew.ensures.holds).0

pub returns-clause-fits : goal.returns-clause-fits
returns-clause-fits g c =
    let memory = g.S.Slots.memory in
    (saved-anew (memory c.args.slots.now) (memory c.save_anew.new.slots) c.args.content.now
    c.requires (sym c.is_loaded.ensures ∙ c.if-is_loaded.false) c.save_anew.ensures.holds).1
