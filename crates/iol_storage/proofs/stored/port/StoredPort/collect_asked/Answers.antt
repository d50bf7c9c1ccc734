-- The clauses of `StoredPort::collect_asked` that the search can't prove.
use Rattle.std.proofs.Common.{sym, ◌∙◌}
use Rattle.iol_storage.proofs.StoredLemmas.{collected-out, collected-in, heard-one, heard-none}
use Rattle.iol_storage.proofs.stored.port.StoredPort.collect_asked.Goals.{then-is_none, else-is_none}
use Rattle.iol_storage.proofs.stored.port.StoredPort.collect_asked.Goals as goal

pub returns-then-is_ok : goal.returns-then-is_ok
returns-then-is_ok g c = elim c.if-is_none.branch [
  | then-is_none w ↦ rw (← c.self.view_is, w.self-inside-is)
      (collected-out _ _ c.in-Some.ticket c.in-Some.is _ c.collect_into.new.self _ _
      (heard-one c.collect_into.result c.collect_into.new.into c.self.inside.storage
      c.hear.new.self (sym c.is_ok.ensures.value ∙ c.if-is_ok.true)
      (rw (w.self-inside-is) at c.hear.ensures))
      w.withdraw.new.self w.withdraw.result w.withdraw.ensures
      (rw (w.self-inside-is) at c.collect_into.ensures.is) w.if-is_none.ensures)
  | else-is_none w ↦ rw (← c.self.view_is, w.self-inside-is)
      (collected-in _ _ c.in-Some.ticket c.in-Some.is _ c.collect_into.new.self _ _
      (heard-one c.collect_into.result c.collect_into.new.into c.self.inside.storage
      c.hear.new.self (sym c.is_ok.ensures.value ∙ c.if-is_ok.true)
      (rw (w.self-inside-is) at c.hear.ensures))
      (rw (w.self-inside-is) at c.collect_into.ensures.is) w.if-is_none.ensures)
]

pub returns-else-is_ok : goal.returns-else-is_ok
returns-else-is_ok g c = elim c.if-is_none.branch [
  | then-is_none w ↦ rw (← c.self.view_is, w.self-inside-is)
      (collected-out _ _ c.in-Some.ticket c.in-Some.is _ c.collect_into.new.self _ _
      (heard-none c.collect_into.result c.collect_into.new.into c.self.inside.storage
      (sym c.is_ok.ensures.value ∙ c.if-is_ok.false))
      w.withdraw.new.self w.withdraw.result w.withdraw.ensures
      (rw (w.self-inside-is) at c.collect_into.ensures.is) w.if-is_none.ensures)
  | else-is_none w ↦ rw (← c.self.view_is, w.self-inside-is)
      (collected-in _ _ c.in-Some.ticket c.in-Some.is _ c.collect_into.new.self _ _
      (heard-none c.collect_into.result c.collect_into.new.into c.self.inside.storage
      (sym c.is_ok.ensures.value ∙ c.if-is_ok.false))
      (rw (w.self-inside-is) at c.collect_into.ensures.is) w.if-is_none.ensures)
]
