-- What the search can't prove of the body of `Book::compact`.
use mathlib.Core.List.{[]}
use contract.BorrowLft.{⊑_meet, ⊑_static}
use Rattle.std.proofs.Common.{◌≡◌, refl, arith, drop, IsTrue}
use Rattle.std.proofs.lemmas.Grind.{common_steps}
use Rattle.iol_book.specs.declared.book.Book.TheInside.{Inside}
use Rattle.iol_book.specs.Limits.{has_journal}
use Rattle.iol_book.proofs.RestatedLemmas.{retained_entries}
use Rattle.iol_book.proofs.SoundLemmas.{whole-replayed}
use Rattle.iol_book.proofs.CompactLemmas.{is_retained, Drains, Forgets, entries-left, forgotten-none, forgotten-more, sound-drained, drained-state, forgotten-state}
use Rattle.iol_book.proofs.book.Book.compact.Given as given
use Rattle.iol_book.proofs.book.Book.compact.Goals as goal

-- what is left of the entries, by the numbers of after
left : (g : given.Over) (c : goal.After-drop-forgotten g) → c.keep_open.new.journal.items
    ≡ retained_entries (is_retained c.self.invariant c.in_doubt-doubt.result)
    c.self.inside.journal.items
left g c =
    let own : drop c.len-first.result c.copy_entries.new.list.items
    ≡ c.self.inside.journal.items = grind (arith, common_steps) in
    entries-left c.self.invariant c.in_doubt-doubt.result _ _ _ _ _
    c.renumber.ensures.urgent
    c.renumber.ensures.waiting
    c.renumber.ensures.taken
    c.renumber.ensures.outcomes
    (rw (c.deref.ensures.value, own) at c.keep_open.ensures.entries)

-- the fields after it
abbrev next : (g : given.Over) → goal.After-drop-forgotten g → Inside g.row.A.Denot
next g c = record c.self.inside {
  journal = c.keep_open.new.journal;
  restated = c.len-left.result;
  urgent = c.renumber.new.urgent;
  waiting = c.renumber.new.waiting;
  taken = c.renumber.new.taken;
  outcomes = c.renumber.new.outcomes;
}

drains : (g : given.Over) (c : goal.After-drop-forgotten g)
    → Drains c.self.invariant c.in_doubt-doubt.result (next g c)
drains g c =
    let retained : IsTrue (has_journal c.self.inside.limit) = grind (arith, common_steps) in
    record {
      journal = left g c;
      head = grind (arith, common_steps);
      forgotten = forgotten-none c.self.invariant c.in_doubt-doubt.result (next g c) retained refl;
      urgent = c.renumber.ensures.urgent;
      waiting = c.renumber.ensures.waiting;
      taken = c.renumber.ensures.taken;
      abandoned = refl;
      outcomes = c.renumber.ensures.outcomes;
      places = grind (arith, common_steps);
      octet_places = grind (arith, common_steps);
      urgent_room = c.renumber.ensures.urgent_room;
      queue_room = c.renumber.ensures.queue_room;
      outcome_room = c.renumber.ensures.outcome_room;
      last = refl;
      unsure = refl;
      limit = refl;
      queue = refl;
      serve = refl;
    }

pub invariant_of-self : goal.invariant_of-self
invariant_of-self g c = sound-drained c.self.invariant c.in_doubt-doubt.result (drains g c)

pub returns-then-retained-clause-drained : goal.returns-then-retained-clause-drained
returns-then-retained-clause-drained g c = λ retained.
    let here : IsTrue (has_journal c.self.inside.limit) = rw (← c.self.view_is) at retained in
    rw (← c.self.view_is) (drained-state c.self.invariant c.in_doubt-doubt.result
    (invariant_of-self g c) (drains g c) c.in_doubt-doubt.ensures (grind (arith, common_steps))
    here)

pub returns-then-retained-clause-replayed : goal.returns-then-retained-clause-replayed
returns-then-retained-clause-replayed g c = whole-replayed (invariant_of-self g c)

-- what is left of the entries, by the numbers of after
left-else : (g : given.Over) (c : goal.After-self-else-retained-1 g) → c.keep_open.new.journal.items
    ≡ retained_entries (is_retained c.self.invariant c.in_doubt-doubt.result)
    c.self.inside.journal.items
left-else g c =
    let own : drop c.len-first.result c.copy_entries.new.list.items
    ≡ c.self.inside.journal.items = grind (arith, common_steps) in
    entries-left c.self.invariant c.in_doubt-doubt.result _ _ _ _ _
    c.renumber.ensures.urgent
    c.renumber.ensures.waiting
    c.renumber.ensures.taken
    c.renumber.ensures.outcomes
    (rw (c.deref.ensures.value, own) at c.keep_open.ensures.entries)

abbrev next-else : (g : given.Over) → goal.After-self-else-retained-1 g → Inside g.row.A.Denot
next-else g c = record c.self.inside {
  journal = c.keep_open.new.journal;
  forgotten = c.and-forgotten.result;
  overlap = c.len-left.result;
  urgent = c.renumber.new.urgent;
  waiting = c.renumber.new.waiting;
  taken = c.renumber.new.taken;
  outcomes = c.renumber.new.outcomes;
}

forgets : (g : given.Over) (c : goal.After-self-else-retained-1 g)
    → Forgets c.self.invariant c.in_doubt-doubt.result (next-else g c)
forgets g c = record {
  unretained = grind (arith, common_steps);
  entries = c.and-forgotten.ensures;
  overlap = grind (arith, common_steps);
  restated = refl;
  limit = refl;
}

drains-else : (g : given.Over) (c : goal.After-self-else-retained-1 g)
    → Drains c.self.invariant c.in_doubt-doubt.result (next-else g c)
drains-else g c = record {
  journal = left-else g c;
  head = rw (c.self.invariant.forgotten.unretained (forgets g c).unretained) (grind (arith));
  forgotten = forgotten-more c.self.invariant c.in_doubt-doubt.result (left-else g c)
      (forgets g c);
  urgent = c.renumber.ensures.urgent;
  waiting = c.renumber.ensures.waiting;
  taken = c.renumber.ensures.taken;
  abandoned = refl;
  outcomes = c.renumber.ensures.outcomes;
  places = grind (arith, common_steps);
  octet_places = grind (arith, common_steps);
  urgent_room = c.renumber.ensures.urgent_room;
  queue_room = c.renumber.ensures.queue_room;
  outcome_room = c.renumber.ensures.outcome_room;
  last = refl;
  unsure = refl;
  limit = refl;
  queue = refl;
  serve = refl;
}

pub invariant_of-self-else-retained : goal.invariant_of-self-else-retained
invariant_of-self-else-retained g c =
    sound-drained c.self.invariant c.in_doubt-doubt.result (drains-else g c)

pub returns-else-retained-clause-same : goal.returns-else-retained-clause-same
returns-else-retained-clause-same g c = λ unretained. rw (← c.self.view_is) (forgotten-state
    c.self.invariant c.in_doubt-doubt.result (invariant_of-self-else-retained g c) (drains-else g c)
    (forgets g c))

pub returns-else-retained-clause-replayed : goal.returns-else-retained-clause-replayed
returns-else-retained-clause-replayed g c = whole-replayed (invariant_of-self-else-retained g c)

-- what is borrowed lives long enough
pub and-forgotten-requires : goal.and-forgotten-requires
and-forgotten-requires g c κs within =
    let one = ⊑_meet κs.1.1.0 g.row.A.lives [] within (⊑_static κs.1.1.0) in
    let two = ⊑_meet κs.1.1.0 _ _ one one in
    let three = ⊑_meet κs.1.1.0 _ _ one (⊑_meet κs.1.1.0 _ _ two (⊑_static κs.1.1.0)) in
    ⊑_meet κs.1.1.0 _ _ one (⊑_meet κs.1.1.0 _ _ two
    (⊑_meet κs.1.1.0 _ _ three (⊑_static κs.1.1.0)))
