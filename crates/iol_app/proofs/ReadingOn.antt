-- The reading of events goes with the far end's frozen list, by the code's own reading.
-- For the clauses of `laws::receive_gives`.
use Rattle.std.proofs.Common.{◌≡◌, ℕ, ◌+◌, ◌*◌, ◌≤◌, Bool, true, false, List, [], ◌∷◌, length, refl, sym, subst, arith}
use Rattle.std.specs.Prelude.{Some, None}
use Rattle.std.proofs.lemmas.Grind.{common_steps}
use native.Mathlib.Decide.{dec_lt}
use Rattle.iol_event.specs.declared.event.Event.{Event}
use Rattle.iol_event.specs.Memory.{Events, IsEventMemory, event_octet}
use Rattle.iol_event.specs.Reading.{ReaderStep, reader_step, next_address, reading, IsEventList}
use Rattle.iol_event.specs.Laws.{taken_from}
use Rattle.iol_far.specs.Laws.{IsFrozen}
use Rattle.iol_app.specs.BothEnds.{wants_confirm, wants_octet, EventsFit}
use Rattle.iol_app.proofs.EventReading.{ReaderLaws}
use Rattle.iol_app.specs.declared.event_work.ReadingProgress.{ReadingProgress}
use Rattle.iol_app.specs.declared.event_work.ReadingProgress.TheVariants.{Resting, UnderWay}
use Rattle.iol_app.specs.EventReading.{is_refused, reader_of, reading_by, list_by}
use Rattle.iol_app.specs.CoreStands.{reading_at}

-- the reading that an octet brings, and the list where it is whole
pub record Took (t : ReaderStep) (event : Bool) (m : Events) : Type 0 where
  pub due : Event × List Event
  pub fit : EventsFit (reading_at (reading_by t.answer t.reader) event due) false m
  pub form : is_refused (reading_by t.answer t.reader) ≡ false
  pub more : list_by t.answer ≡ None
      → wants_confirm (reading_at (reading_by t.answer t.reader) event due) ≡ false
  pub whole : (l : List Event) → list_by t.answer ≡ Some l
      → (l ≡ due.0 ∷ due.1) × (m.frozen ≡ due.0 ∷ due.1)
      × (wants_confirm (reading_at (reading_by t.answer t.reader) event due) ≡ true)

module _ (laws : ReaderLaws) (event : Bool) where
  read_on : (e : Event) (es : List Event) (i : ℕ) (m : Events) → IsEventList (e ∷ es)
      → i ≤ 3 * length (e ∷ es) → IsFrozen e es m
      → Took (taken_from (event_octet (e ∷ es)) (reading (e ∷ es) i)) event m
  read_on e es i m list most frozen = elim (dec_lt i (3 * length (e ∷ es))) [
    | yes lt ↦ rw (laws.waits (e ∷ es) list i lt) (record {
      due = (e, es);
      fit = (e, es, frozen, (i + 1, omega arith, refl));
      form = refl;
      more = λ k. refl;
      whole = λ l k. cc;
    })
    | no least ↦
        let is : i ≡ 3 * length (e ∷ es) = omega arith in
        rw (is, laws.gives (e ∷ es) list) (record {
          due = (e, es);
          fit = frozen;
          form = refl;
          more = λ k. cc;
          whole = λ l k. ((cc), frozen.0, refl);
        })
  ]

  frozen_list : (e : Event) (es : List Event) (m : Events) → IsEventMemory m → IsFrozen e es m
      → IsEventList (e ∷ es)
  frozen_list e es m valid frozen = grind (arith, common_steps)

  -- the octet that the reading wants
  pub reads_next : (r : ReadingProgress) (flag : Bool) (due : Event × List Event) (c : Bool)
      (m : Events) → IsEventMemory m → EventsFit (reading_at r flag due) c m
      → wants_octet (reading_at r flag due) ≡ true
      → Took (reader_step (reader_of r) (event_octet m.frozen (next_address (reader_of r)))) event m
  reads_next Resting true due c m valid fit wants =
      subst (λ (l : List Event). Took (reader_step [] (event_octet l (next_address []))) event m)
      (sym fit.2.0) (read_on fit.0 fit.1 0 m (frozen_list fit.0 fit.1 m valid fit.2)
      (omega arith) fit.2)
  reads_next (UnderWay octets) flag due c m valid fit wants =
      subst (λ (l : List Event). Took (reader_step octets (event_octet l (next_address octets)))
      event
      m) (sym fit.2.0) (rw fit.3.2
      (read_on fit.0 fit.1 fit.3.0 m (frozen_list fit.0 fit.1 m valid fit.2) fit.3.1 fit.2))
  reads_next other flag due c m valid fit wants = cc
