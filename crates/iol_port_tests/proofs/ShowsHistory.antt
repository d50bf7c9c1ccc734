-- From the claim to what it says of the image that is shown and of the events that are kept.
-- For the clauses of `laws::ports_show_what_devices_had`.
use Rattle.std.proofs.Common.{◌≡◌, List, [], ◌∷◌, ◌++◌, inl, inr, refl, sym, ◌∙◌, ap, subst}
use Rattle.std.specs.Prelude.{Bool, false, Option, Some, None, IfSome}
use Rattle.iol_event.specs.declared.event.Event.{Event}
use Rattle.iol_link.specs.WireFacts.{WireFacts}
use Rattle.iol_app.specs.Abstract.Events.{frozen_events}
use Rattle.iol_app.specs.Abstract.Shown.{frozen_of}
use Rattle.iol_port.specs.Owners.{IsOneOf}
use Rattle.iol_port.specs.History.{events_handed_out}
use Rattle.iol_port.specs.Claim.{TiedClaim}
use Rattle.iol_port.specs.View.{PortValue, over}
use Rattle.iol_port_tests.specs.ShowsHistory.{ShowsHistory}

where_some : {X : Type 0} {P : X → Type 0} (o : Option X) → ((x : X) → o ≡ Some x → P x)
    → IfSome o P
where_some None f = tt
where_some (Some x) f = f x refl

behind : {X : Type 0} (x : X) (xs ys : List X) → IsOneOf x ys → IsOneOf x (xs ++ ys)
behind x [] ys one = one
behind x (y ∷ xs) ys one = inr (behind x xs ys one)

frozen_are : (events : List Event) (reported : Bool)
    → frozen_events (frozen_of events reported) ≡ events
frozen_are [] reported = refl
frozen_are (event ∷ events) reported = refl

pub shows_history : {W : Type 0} (facts : WireFacts W) (v : PortValue W)
    → TiedClaim facts v.opening (over v) → ShowsHistory facts v
shows_history facts v (claim, stands) =
    let history = claim.history in
    let memory = v.opening.far.events in
    record {
      entries = history.entries;
      history_is = claim.has.history ∙ history.history_is;
      image = where_some v.parts.core.session.image
          (λ image e. history.shown image (sym claim.has.image ∙ e));
      events = λ event one.
          let queued = subst (IsOneOf event) claim.has.queued one in
          let all = behind event (events_handed_out (claim.answered ++ [])) claim.port.queued
          queued in
          rw (frozen_are memory.frozen false) at (history.events event all);
    }
