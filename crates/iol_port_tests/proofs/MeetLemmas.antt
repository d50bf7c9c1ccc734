-- An exchange with a device that is there, on a line that loses, is an honest one.
-- For the clauses of `honest::lose_reply`, `honest::lose`, `honest::pass` and `honest::wake`.
use Rattle.std.proofs.Common.{◌≡◌, inl, refl, ◌∙◌, ap, Bool, true, false, List, [], ◌∷◌, ℕ, Option, Some, None, IsTrue}
use Rattle.std.specs.Prelude.{MatchBool}
use Rattle.iol_isdu.specs.declared.values.Request.{Request}
use Rattle.iol_isdu.specs.declared.values.Answer.{Answer}
use Rattle.iol_far.specs.Isdu.{handed_request, fits}
use Rattle.iol_far.specs.Far.{Far, hear}
use Rattle.iol_far.specs.Local.{LocalStep, Carry, local, locals, far_after_wake, has_room}
use Rattle.iol_device.specs.App.{Gives, IsCarriedOut}
use Rattle.iol_far.specs.Laws.{IsRegular}
use Rattle.iol_link.specs.Honest.{HonestExchange, HonestWake, OutLost, BackLost, Clean, silence_after}

-- what the application does is a step of the device's own
own_steps : {P : Type 0} (gives : Gives P) (request : Option Request) (old : Far) (before : P)
    (new : Far) (after : P) → IsCarriedOut gives request old before new after
    → (steps : List LocalStep) × (new ≡ locals old steps)
own_steps gives None old before new after h = ([], h.0)
own_steps {P} gives (Some request) old before new after h = split (has_room old) h
  where
    split : (room : Bool) → MatchBool room
        ((answer : Answer) × gives before request answer after × IsTrue (fits request answer)
        × (new ≡ local old (Carry answer))) ((new ≡ old) × (after ≡ before))
        → (steps : List LocalStep) × (new ≡ locals old steps)
    split true (answer, made, fit, e) = (Carry answer ∷ [], e)
    split false same = ([], same.0)

module _ {P : Type 0} (gives : Gives P) (old : Far) (before : P) (worked : Far) (after : P)
    (work : IsCarriedOut gives (handed_request old.isdu) old before worked after) where
  pub woken_is_honest : (new : Far) → IsRegular old → new ≡ far_after_wake worked
      → HonestWake old true new
  woken_is_honest new regular woke =
      let made = own_steps gives (handed_request old.isdu) old before worked after work in
      inl (record {
        regular = regular;
        steps = made.0;
        wakes = true;
        far_is = woke ∙ ap far_after_wake made.1;
        answered_is = λ e. e;
      })

  pub passed_is_honest : (sent : List ℕ) (answer : Option (List ℕ)) (new : Far) (silence : ℕ)
      → IsRegular old → new ≡ (hear worked sent).far → answer ≡ (hear worked sent).reply
      → HonestExchange old silence sent answer new (silence_after silence answer)
  passed_is_honest sent answer new silence regular heard replied =
      let made = own_steps gives (handed_request old.isdu) old before worked after work in
      let reply_is : answer ≡ (hear (locals old made.0) sent).reply = replied
      ∙ ap (λ (f : Far). (hear f sent).reply) made.1 in
      record {
        regular = regular;
        steps = made.0;
        passage = Clean;
        far_is = heard ∙ ap (λ (f : Far). (hear f sent).far) made.1;
        answer_is = reply_is;
        silence_is = ap (silence_after silence) reply_is;
      }

  pub lost_is_honest : (sent : List ℕ) (silence : ℕ) → IsRegular old
      → HonestExchange old silence sent None worked (silence_after silence None)
  lost_is_honest sent silence regular =
      let made = own_steps gives (handed_request old.isdu) old before worked after work in
      record {
        regular = regular;
        steps = made.0;
        passage = OutLost;
        far_is = made.1;
        answer_is = tt;
        silence_is = refl;
      }

  pub reply_lost_is_honest : (sent : List ℕ) (new : Far) (silence : ℕ) → IsRegular old
      → new ≡ (hear worked sent).far → HonestExchange old silence sent None new
      (silence_after silence None)
  reply_lost_is_honest sent new silence regular heard =
      let made = own_steps gives (handed_request old.isdu) old before worked after work in
      record {
        regular = regular;
        steps = made.0;
        passage = BackLost;
        far_is = heard ∙ ap (λ (f : Far). (hear f sent).far) made.1;
        answer_is = tt;
        silence_is = refl;
      }
