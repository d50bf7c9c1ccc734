-- Outside down the frozen list is told exactly while the far end is awake and the confirm due or
-- out.
-- For the clauses of `laws::receive_gives`, `laws::rise_gives` and `laws::wake_gives`.
use Rattle.std.proofs.Common.{◌≡◌, ℕ, Bool, true, false, ◌&&◌, List, [], ◌∷◌, refl, sym, ◌∙◌, ap, arith}
use Rattle.std.proofs.lemmas.Grind.{common_steps}
use Rattle.iol_event.specs.declared.event.Event.{Event}
use Rattle.iol_event.specs.Memory.{Events}
use Rattle.iol_link.specs.Honest.{Passage, OutLost, far_after}
use Rattle.iol_far.specs.Codec.{layout_in}
use Rattle.iol_far.specs.Far.{Far, hear, heard_as}
use Rattle.iol_far.specs.Local.{LocalStep, local, locals}
use Rattle.iol_far.specs.Laws.{EventLaws, IsFrozen, Awake, confirms as octets_confirm}
use Rattle.iol_app.specs.Abstract.OfDevice.{reported_after, reported_through, reported_worked, reported_heard_as, reported_heard, reported_exchanged}
use Rattle.iol_app.specs.BothEnds.{ReadingState, Resting, Flagged, Under, Due, wants_confirm, wants_octet, EventsFit}
use Rattle.iol_app.specs.Ends.{EventsReported}
use Rattle.iol_app.proofs.Accepted.{by_accepted}
use Rattle.iol_app.proofs.FirstOctet.{confirms_of}
use Rattle.iol_app.proofs.AllLaws.{by_locals}
use Rattle.iol_app.proofs.FrozenPart.{ConfirmsReported}

pub heard_awake : (far : Far) (o : List ℕ) → (hear far o).far.awake ≡ far.awake
heard_awake far o = by_accepted (λ q. (heard_as far o q).far.awake ≡ far.awake) far o refl
    (λ w m e. refl) (λ w command k m e. refl)

worked_reported : (reading : ReadingState) (c : Bool) (m : Events) (awake t : Bool)
    → (awake ≡ true → EventsFit reading c m) → awake ≡ true → t ≡ (awake && wants_confirm reading)
    → reported_worked m c t ≡ t
worked_reported now c m awake t fits up reported = grind (arith, common_steps)

module _ (laws : (first : Event) (rest : List Event) → EventLaws first rest) where
  reported_step : (reading : ReadingState) (c : Bool) (far : Far) (step : LocalStep) (t : Bool)
      → EventsReported reading c far t
      → EventsReported reading c (local far step) (reported_after far step t)
  reported_step now c far step t h = grind (arith, common_steps)

  pub reported_locals : (reading : ReadingState) (c : Bool) (steps : List LocalStep) (far : Far)
      (t : Bool) → EventsReported reading c far t
      → EventsReported reading c (locals far steps) (reported_through far steps t)
  reported_locals r c [] far t h = h
  reported_locals r c (step ∷ steps) far t h =
      reported_locals r c steps (local far step) (reported_after far step t)
      (reported_step r c far step t h)

  -- hearing the message that is out
  fit_hear : (reading : ReadingState) (c : Bool) (far : Far) (o : List ℕ) → octets_confirm o ≡ c
      → (c ≡ true → wants_confirm reading ≡ true)
      → (far.awake ≡ true → EventsFit reading c far.events)
      → far.awake ≡ true → EventsFit reading c (hear far o).far.events
  fit_hear Resting c far o is due h w = tt
  fit_hear Flagged false far o is due h w = let k = h w in
      (k.0, k.1, (laws k.0 k.1).frozen_hears far o is (λ a. k.2) (heard_awake far o ∙ w))
  fit_hear (Under octets) false far o is due h w = let k = h w in
      (k.0, k.1, (laws k.0 k.1).frozen_hears far o is (λ a. k.2) (heard_awake far o ∙ w), k.3)
  fit_hear (Due x xs) false far o is due h w =
      (laws x xs).frozen_hears far o is h (heard_awake far o ∙ w)
  fit_hear (Due x xs) true far o is due h w =
      (laws x xs).confirming_hears far o is h (heard_awake far o ∙ w)
  fit_hear other true far o is due h w = cc (due refl)

  -- what is read stays frozen over an exchange that confirms nothing
  stays_frozen : (first : Event) (rest : List Event) (steps : List LocalStep) (far : Far)
      (o : List ℕ) → octets_confirm o ≡ false → IsFrozen first rest far.events
      → (hear (locals far steps) o).far.awake ≡ true
      → (hear (locals far steps) o).far.events.frozen ≡ far.events.frozen
  stays_frozen first rest steps far o other frozen up =
      ((laws first rest).frozen_hears (locals far steps) o other
      (by_locals (Awake (IsFrozen first rest)) (laws first rest).frozen_steps steps far
      (λ w. frozen)) up).0
      ∙ sym frozen.0

  pub frozen_stays : (reading : ReadingState) (c : Bool) (steps : List LocalStep) (far : Far)
      (o : List ℕ) → octets_confirm o ≡ false → wants_octet reading ≡ true
      → EventsFit reading c far.events → (hear (locals far steps) o).far.awake ≡ true
      → (hear (locals far steps) o).far.events.frozen ≡ far.events.frozen
  frozen_stays Flagged c steps far o other wants fit up =
      stays_frozen fit.0 fit.1 steps far o other fit.2 up
  frozen_stays (Under octets) c steps far o other wants fit up =
      stays_frozen fit.0 fit.1 steps far o other fit.2 up
  frozen_stays now c steps far o other wants fit up = absurd (cc)

  module _ (o : List ℕ) (reading : ReadingState)
      (due : octets_confirm o ≡ true → wants_confirm reading ≡ true) where
    pub reported_hear : (far : Far) (t : Bool) → EventsReported reading (octets_confirm o) far t
        → EventsReported reading (octets_confirm o) (hear far o).far (reported_heard far o t)
    reported_hear far t h = (
      (λ w. fit_hear reading (octets_confirm o) far o refl due h.0 (sym (heard_awake far o) ∙ w)),
      by_accepted (λ q. reported_heard_as q t
          ≡ ((heard_as far o q).far.awake && wants_confirm reading))
          far o h.1
          (λ w m spells. rw (confirms_of (layout_in far.page far.mode) o m spells)
          (worked_reported reading (octets_confirm o) far.events far.awake t h.0 w h.1 ∙ h.1))
          (λ w command k m spells. rw (confirms_of (layout_in far.page command.into) o m spells)
          (worked_reported reading (octets_confirm o) far.events far.awake t h.0 w h.1 ∙ h.1)),
    )

    -- an exchange keeps it
    pub reported_exchange : (steps : List LocalStep) (passage : Passage) (far : Far) (t : Bool)
        → EventsReported reading (octets_confirm o) far t →
        EventsReported reading (octets_confirm o) (far_after passage (locals far steps) o)
        (reported_exchanged far steps passage o t)
    reported_exchange steps OutLost far t h =
        reported_locals reading (octets_confirm o) steps far t h
    reported_exchange steps other far t h =
        reported_hear (locals far steps) (reported_through far steps t)
        (reported_locals reading (octets_confirm o) steps far t h)

    -- a confirm that is accepted finds its list told
    pub confirms_reported : (far : Far) (t : Bool) → EventsReported reading (octets_confirm o) far t
        → ConfirmsReported o far t
    confirms_reported far t h w c = h.1 ∙ ap (λ (b : Bool). b && wants_confirm reading) w ∙ due c
