-- The reading of events goes with the far end's frozen list.
-- For the clauses of `laws::receive_gives` and `laws::rise_gives`.
use Rattle.std.proofs.Common.{◌≡◌, ℕ, Bool, true, false, not, List, arith}
use Rattle.std.specs.Prelude.{Option, Some, None}
use Rattle.iol_event.specs.Memory.{Events, IsEventMemory, is_empty, events_after_release}
use Rattle.iol_event.specs.Laws.{MemoryStaysValid, WaitsForAll, GivesFrozen}
use Rattle.iol_far.specs.Codec.{layout_in}
use Rattle.iol_far.specs.Far.{Far, hear, heard_as, events_after}
use Rattle.iol_far.specs.Local.{LocalStep, locals}
use Rattle.iol_far.specs.Laws.{confirms as octets_confirm}
use Rattle.iol_app.specs.Abstract.OfDevice.{confirms_by}
use Rattle.iol_app.specs.BothEnds.{ReadingState, wants_confirm, wants_octet, EventsFit}
use Rattle.iol_app.specs.Exchange.{reading_continued}
use Rattle.iol_app.proofs.AllLaws.{by_locals}
use Rattle.iol_app.proofs.Accepted.{by_accepted}
use Rattle.iol_app.proofs.FirstOctet.{confirms_of}
use Rattle.std.proofs.lemmas.Grind.{common_steps}

pub record ReaderLaws : Type 0 where
  pub memory : MemoryStaysValid
  pub waits : WaitsForAll
  pub gives : GivesFrozen

module _ (laws : ReaderLaws) where
  pub memory_locals : (steps : List LocalStep) (far : Far) → IsEventMemory far.events
      → IsEventMemory (locals far steps).events
  memory_locals = by_locals (λ far. IsEventMemory far.events) (λ far step h.
      grind (arith, common_steps, laws.memory.raise far.events, laws.memory.at_first))

  memory_worked : (m : Events) (c : Bool) → IsEventMemory m → IsEventMemory (events_after m c)
  memory_worked m true h = laws.memory.confirm m h
  memory_worked m false h = laws.memory.other m h

  pub memory_hear : (far : Far) (o : List ℕ) → IsEventMemory far.events
      → IsEventMemory (hear far o).far.events
  memory_hear far o h = by_accepted (λ q. IsEventMemory (heard_as far o q).far.events) far o h
      (λ w m e. memory_worked far.events (confirms_by m.mc) h)
      (λ w c k m e. memory_worked far.events (confirms_by m.mc) h)

pub undue : (r : ReadingState) → wants_octet r ≡ true → wants_confirm r ≡ false
undue r holds = grind (arith, common_steps)

-- what is kept
pub continued_due : (r : ReadingState) (event : Bool)
    → wants_confirm (reading_continued r event) ≡ wants_confirm r
continued_due r event = grind (arith, common_steps)

pub continued_fits : (r : ReadingState) (event : Bool) (m : Events)
    → event ≡ not (is_empty m.frozen)
    → m.held ≡ false → EventsFit r false m → EventsFit (reading_continued r event) false m
continued_fits r event m is held fit = grind (arith, common_steps)

-- what is heard and is no confirm ends the hold
released_held : (m : Events) → (events_after_release m).held ≡ false
released_held m = grind (arith, common_steps)

pub ends_hold : (far : Far) (o reply : List ℕ) → octets_confirm o ≡ false
    → (hear far o).reply ≡ Some reply → (hear far o).far.events.held ≡ false
ends_hold far o reply other = by_accepted
    (λ q. (heard_as far o q).reply ≡ Some reply → (heard_as far o q).far.events.held ≡ false) far o
    (λ r. absurd (let z : Path (Option (List ℕ)) None (Some reply) = r in cc))
    (λ w m e r. rw (confirms_of (layout_in far.page far.mode) o m e, other)
    (released_held far.events))
    (λ w c k m e r. rw (confirms_of (layout_in far.page c.into) o m e, other)
    (released_held far.events))
