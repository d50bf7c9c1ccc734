-- Calls that are traced one after the other, for the clauses of the tracer and of `traced_on`.
-- Begin with `stored_traces_more`.
-- For the clauses of `StoredTracer::follow_line`, `StoredTracer::follow_storage`,
--     `StoredTracer::follow_turns` and 2 more.
use Rattle.std.proofs.Common.{◌≡◌, ℕ, ◌+◌, false, List, [], ◌∷◌, ◌++◌, Result, refl, sym, subst, append-nil, append_assoc}
use Rattle.std.proofs.KnownBytes.{Appends-nil}
use Rattle.iol_app.specs.declared.transmission.Transmission.{Transmission}
use Rattle.iol_app.specs.declared.transmission.Transmission.TheVariants.{Wake, Exchange}
use Rattle.iol_link.specs.WireFacts.{WireFacts}
use Rattle.iol_mseq.specs.Shape.{Shape}
use Rattle.iol_port.specs.declared.call.Answered.{Answered}
use Rattle.iol_port.specs.declared.call.Call.{Call}
use Rattle.iol_port.specs.declared.call.Call.TheVariants as call
use Rattle.iol_sim.specs.Tapped.{IsNoteOf, TappedWire, exchange_noted, tap_facts, wake_noted}
use Rattle.iol_sim.specs.declared.tap.TapNote.{TapNote}
use Rattle.iol_commands.specs.Passing.{PrintsPassed}
use Rattle.iol_commands.specs.TracePrinted.{PrintsNoteOf}
use Rattle.iol_commands.proofs.TraceLemmas.{flows_join}
use Rattle.iol_storage.specs.declared.stored.fault.StoredFault.{StoredFault}
use Rattle.iol_stored_script.specs.declared.storage_line.StorageCall.{StorageCall}
use Rattle.iol_stored_commands.specs.declared.storage_answer.StorageAnswer.{StorageAnswer}
use Rattle.iol_stored_commands.specs.StoredPlayed.{Plain, StoredCall, Storing}
use Rattle.iol_stored_commands.specs.StoredPrinted.{plain_answer_text, storage_text}
use Rattle.iol_stored_commands.specs.StoredTraced.{StoredPasses, StoredPlace, StoredStage, StoredTraces, StoredTracesFrom, stored_layout, stored_stage}
use Rattle.iol_stored_commands.specs.Wired.{CallMakes, StorageMakes, StoredOver, TakesAnswer, lacks_room}

module _ {W : Type 0} (facts : WireFacts W) where
  -- the call of the wire that a turn makes is what is noted of it
  noted : (sent : Transmission) (mid next : StoredOver (TappedWire W)) (n m : ℕ) (layout : Shape)
      (text : List ℕ) → TakesAnswer (tap_facts facts) sent mid next
      → PrintsNoteOf call.Turn n layout next.wire.last m text
      → (note : TapNote) × IsNoteOf facts note mid.wire.wire next.wire.wire
      × PrintsPassed n layout note text × (m ≡ n + 1)
  noted Wake mid next n m layout text (rate, gives, does, wakes, rest) printed =
      let (shown, follows) = rw gives.1 at printed in (wake_noted rate, gives.0, shown, follows)
  noted (Exchange message) mid next n m layout text (received, gives, does, receives, rest)
      printed =
      let (shown, follows) = rw gives.1 at printed in
      let octets = message.octets.items in
      (exchange_noted octets received, (octets, refl, gives.0), shown, follows)

  passes_of : (made : Call) (s t : StoredStage W) (reply : Result Answered StoredFault)
      (text : List ℕ) → CallMakes (tap_facts facts) s.port made reply t.port
      → PrintsNoteOf made s.number (stored_layout s.port.port.port) t.port.wire.last t.number text
      → StoredPasses facts s (Plain made) t text
  passes_of call.Turn s t reply text (is, turns) printed =
      noted turns.sent (record s.port { port = turns.mid }) t.port s.number t.number _ text
      turns.takes printed
  passes_of other s t reply text made printed = printed

  -- one call, by what it makes and what is printed of it
  pub call_traced : (n m : ℕ) (p q : StoredOver (TappedWire W)) (made : Call)
      (reply : Result Answered StoredFault) (passed : List ℕ)
      → CallMakes (tap_facts facts) p made reply q → lacks_room reply ≡ false
      → PrintsNoteOf made n (stored_layout p.port.port) q.wire.last m passed
      → StoredTraces facts (stored_stage n p) (Plain made ∷ []) (stored_stage m q)
      (passed ++ plain_answer_text made reply)
  call_traced n m p q made reply passed makes granted printed = (
    stored_stage m q,
    passed ++ plain_answer_text made reply,
    [],
    record {
      passed = passed;
      reply_text = plain_answer_text made reply;
      made = (reply, makes, granted, refl);
      passes = passes_of made (stored_stage n p) (stored_stage m q) reply passed makes printed;
      text_is = refl;
    },
    (refl, refl),
    sym (append-nil _),
  )

  -- the same of a call that a plain port hasn't
  pub storage_traced : (n : ℕ) (p q : StoredOver (TappedWire W)) (asked : StorageCall)
      (reply : Result StorageAnswer StoredFault) → StorageMakes p asked reply q
      → StoredTraces facts (stored_stage n p) (Storing asked ∷ []) (stored_stage n q)
      (storage_text reply)
  storage_traced n p q asked reply makes = (
    stored_stage n q,
    storage_text reply,
    [],
    record {
      passed = [];
      reply_text = storage_text reply;
      made = (reply, makes, refl);
      passes = (refl, refl);
      text_is = refl;
    },
    (refl, refl),
    sym (append-nil _),
  )

  stored_traces_join : (s m t : StoredStage W) (calls more : List StoredCall)
      (text later : List ℕ) → StoredTraces facts s calls m text
      → StoredTraces facts m more t later
      → StoredTraces facts s (calls ++ more) t (text ++ later)
  stored_traces_join s m t [] more text later (same, none) second =
      subst (λ x. StoredTraces facts s more t (x ++ later)) (sym none)
      (subst (λ x. StoredTraces facts x more t later) same second)
  stored_traces_join s m t (call ∷ calls) more text later (mid, first, rest, one, goes, is) second
      = (
        mid,
        first,
        rest ++ later,
        one,
        stored_traces_join mid m t calls more rest later goes second,
        rw is (append_assoc first rest later),
      )

  -- no call is made
  pub stored_traces_none : (p : StoredPlace W) → StoredTracesFrom facts p [] p
  stored_traces_none p = record {
    text = [];
    flows = record { written = []; appends = Appends-nil p.written; rest = append-nil p.waits };
    traced = (refl, refl);
  }

  -- more calls are made
  pub stored_traces_more : (p q r : StoredPlace W) (calls more : List StoredCall)
      → StoredTracesFrom facts p calls q → StoredTracesFrom facts q more r
      → StoredTracesFrom facts p (calls ++ more) r
  stored_traces_more p q r calls more one two = record {
    text = one.text ++ two.text;
    flows = flows_join _ _ _ _ _ _ one.text two.text one.flows two.flows;
    traced = stored_traces_join _ _ _ calls more one.text two.text one.traced two.traced;
  }
