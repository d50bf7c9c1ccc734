-- In which order the steps of a call come: the far end's own, what it does with the message, and
-- what the reply brings.
-- For the clauses of `laws::receive_gives`, `laws::rise_gives` and `laws::wake_gives`.
use Rattle.std.proofs.lemmas.Grind.{common_steps}
use Rattle.std.proofs.lemmas.List.{append_assoc, append-nil}
use Rattle.std.proofs.lemmas.List.Folds.{list_all-append}
use Rattle.std.proofs.Common.{◌≡◌, ℕ, Bool, true, false, List, [], ◌∷◌, ◌++◌, refl, sym, ◌∙◌, arith, subst}
use Rattle.std.specs.Prelude.{Option, None, IsTrue}
use Rattle.std.specs.List.{list_all}
use Rattle.iol_isdu.specs.declared.values.Request.{Request}
use Rattle.iol_event.specs.Memory.{Events}
use Rattle.iol_far.specs.Codec.{layout_in}
use Rattle.iol_far.specs.Far.{Far, hear, heard_as, far_in_mode, far_after_message, output_of}
use Rattle.iol_far.specs.Isdu.{IsduState, Empty}
use Rattle.iol_far.specs.Laws.{confirms as octets_confirm}
use Rattle.iol_far.specs.Local.{LocalStep, locals, local}
use Rattle.iol_link.specs.Honest.{Passage, OutLost, far_after, unaltered_reply, silence_after}
use Rattle.iol_app.specs.declared.mode.Mode.{Mode}
use Rattle.iol_app.specs.declared.mode.Mode.TheVariants.{Operate}
use Rattle.iol_app.specs.Abstract.Steps.{PortStep, WireCall, Exchanged, silence_by, ImageOctets}
use Rattle.iol_app.specs.Abstract.Turn.{is_own_step, is_hearing, may_bring, IsInOrder}
use Rattle.iol_app.specs.Abstract.OfDevice.{Hidden, IsOpen, redeliver_steps, own_step, own_steps, hidden_through, event_steps, output_steps, heard_steps_as, heard_steps, passed_steps, exchange_steps, woken_steps, wake_steps, confirms_by}
use Rattle.iol_app.proofs.Accepted.{by_accepted}
use Rattle.iol_app.proofs.FirstOctet.{confirms_of}
use Rattle.iol_app.proofs.AllLaws.{by_locals}
use Rattle.iol_app.proofs.ReportedFacts.{heard_awake}
use Rattle.iol_app.proofs.OwnSession.{own_open}

-- what the far end does in a call
pub record InFarOrder (mode : Mode) (steps : List PortStep) : Type 0 where
  pub own : List PortStep
  pub heard : List PortStep
  pub is : steps ≡ own ++ heard
  pub by_itself : IsTrue (list_all is_own_step own)
  pub hears : IsTrue (is_hearing mode heard)

-- and behind it what the reply brings
pub in_order : {mode : Mode} {call : WireCall} {xs : List PortStep} (ys : List PortStep)
    → InFarOrder mode xs → IsTrue (may_bring mode call ys) → IsInOrder mode call (xs ++ ys)
in_order ys f brings = record {
  own = f.own;
  heard = f.heard;
  received = ys;
  is = rw f.is refl;
  by_itself = f.by_itself;
  hears = f.hears;
  brings = brings;
}

own_step_own : (request : Option Request) (far : Far) (step : LocalStep)
    → list_all is_own_step (own_step request far step) ≡ true
own_step_own request far step = grind (arith, common_steps)

own_all : (request : Option Request) (steps : List LocalStep) (far : Far)
    → list_all is_own_step (own_steps request far steps) ≡ true
own_all request [] far = refl
own_all request (step ∷ steps) far =
    list_all-append is_own_step (own_step request far step)
    (own_steps request (local far step) steps)
    ∙ (rw (own_step_own request far step, own_all request steps (local far step)) refl)

-- What is heard, and the request that is handed over again

-- whether it is a confirm, which only OPERATE has
abbrev pub MayConfirm : Mode → Bool → Type 0
MayConfirm mode confirms = confirms ≡ true → mode ≡ Operate

worked_order : (mode : Mode) (request : Option Request) (state : IsduState) (h : Hidden)
    (e : Events) (confirms : Bool) (output : Option ImageOctets) → MayConfirm mode confirms
    → IsTrue (is_hearing mode
    ((event_steps e confirms ++ output_steps output) ++ redeliver_steps request state h))
worked_order mode request state h e confirms output may = grind (arith, common_steps)

-- where nothing is heard, the device is handed nothing
unheard_order : (mode : Mode) (request : Option Request) (state : IsduState) (h : Hidden)
    → IsOpen state request h → IsTrue (is_hearing mode (redeliver_steps request state h))
unheard_order mode request state h opens = grind (arith, common_steps)

heard_order : (mode : Mode) (request : Option Request) (h : Hidden) (far : Far) (o : List ℕ)
    → MayConfirm mode (octets_confirm o) → IsOpen far.isdu request h
    → IsTrue (is_hearing mode
    (heard_steps far o ++ redeliver_steps request (hear far o).far.isdu h))
heard_order mode request h far o may opens = by_accepted
    (λ q. IsTrue (is_hearing mode
    (heard_steps_as q o ++ redeliver_steps request (heard_as far o q).far.isdu h)))
    far o (unheard_order mode request far.isdu h opens)
    (λ awake m spells. worked_order mode request (far_after_message far o m).isdu h far.events
    (confirms_by m.mc) (output_of (far_after_message far o m))
    (λ c. may (sym (confirms_of (layout_in far.page far.mode) o m spells) ∙ c)))
    (λ awake command w m spells. let there : Far = far_in_mode far command.into in
    worked_order mode request (far_after_message there o m).isdu h there.events
    (confirms_by m.mc) (output_of (far_after_message there o m))
    (λ c. may (sym (confirms_of (layout_in far.page command.into) o m spells) ∙ c)))

passed_order : (mode : Mode) (request : Option Request) (h : Hidden) (passage : Passage)
    (far : Far) (o : List ℕ) → MayConfirm mode (octets_confirm o) → IsOpen far.isdu request h
    → IsTrue (is_hearing mode
    (passed_steps passage far o ++ redeliver_steps request (far_after passage far o).isdu h))
passed_order mode request h OutLost far o may opens = unheard_order mode request far.isdu h opens
passed_order mode request h other far o may opens = heard_order mode request h far o may opens

-- Awake

-- a power cycle leaves it asleep until a wake
asleep : (steps : List LocalStep) (far : Far) → far.awake ≡ false
    → (locals far steps).awake ≡ false
asleep = by_locals (λ far. far.awake ≡ false) (λ far step h. grind (arith, common_steps))

pub awake_first : (steps : List LocalStep) (far : Far) → (locals far steps).awake ≡ true
    → far.awake ≡ true
awake_first steps far up = by_awake far.awake refl
  where
    by_awake : (b : Bool) → far.awake ≡ b → b ≡ true
    by_awake true e = refl
    by_awake false e = cc (asleep steps far e)

-- only an awake far end answers
abbrev pub AnswersAwake : WireCall → Far → Type 0
AnswersAwake call far = call ≡ Exchanged true → far.awake ≡ true

-- a reply is good only where no silence is left
answered_awake : (call : WireCall) (passage : Passage) (far : Far) (o : List ℕ) (n n' : ℕ)
    → n' ≡ silence_after n (unaltered_reply passage far o) → n' ≡ silence_by call n
    → AnswersAwake call far
answered_awake call passage far o n n' after by is = grind (arith, common_steps)

passed_awake : (passage : Passage) (far : Far) (o : List ℕ)
    → (far_after passage far o).awake ≡ far.awake
passed_awake OutLost far o = refl
passed_awake other far o = heard_awake far o

pub replies_awake : (call : WireCall) (passage : Passage) (far : Far) (o : List ℕ) (n n' : ℕ)
    → n' ≡ silence_after n (unaltered_reply passage far o) → n' ≡ silence_by call n
    → AnswersAwake call (far_after passage far o)
replies_awake call passage far o n n' after by is =
    passed_awake passage far o ∙ answered_awake call passage far o n n' after by is

-- an exchange
pub exchange_order : (mode : Mode) (request : Option Request) (h : Hidden) (far : Far)
    (steps : List LocalStep) (passage : Passage) (o : List ℕ)
    → MayConfirm mode (octets_confirm o) → IsOpen far.isdu request h
    → InFarOrder mode (exchange_steps request far steps passage o
    ++ redeliver_steps request (far_after passage (locals far steps) o).isdu
    (hidden_through request far steps h))
exchange_order mode request h far steps passage o may opens = record {
  own = own_steps request far steps;
  heard = passed_steps passage (locals far steps) o
      ++ redeliver_steps request (far_after passage (locals far steps) o).isdu
      (hidden_through request far steps h);
  is = append_assoc (own_steps request far steps) (passed_steps passage (locals far steps) o)
      (redeliver_steps request (far_after passage (locals far steps) o).isdu
      (hidden_through request far steps h));
  by_itself = own_all request steps far;
  hears = passed_order mode request (hidden_through request far steps h) passage
      (locals far steps) o may (own_open request h steps far opens);
}

-- one with no request under way
pub free_order : (mode : Mode) (h : Hidden) (far : Far) (steps : List LocalStep)
    (passage : Passage) (o : List ℕ) → octets_confirm o ≡ false → IsOpen far.isdu None h
    → InFarOrder mode (exchange_steps None far steps passage o)
free_order mode h far steps passage o unconfirmed opens =
    subst (InFarOrder mode) (append-nil (exchange_steps None far steps passage o))
    (exchange_order mode None h far steps passage o
    (λ e. absurd (let z : false ≡ true = sym unconfirmed ∙ e in cc)) opens)

woken_hears : (mode : Mode) (wakes : Bool) (far : Far)
    → IsTrue (is_hearing mode (woken_steps wakes far))
woken_hears mode true far = subst (λ (steps : List PortStep). IsTrue (is_hearing mode steps))
    (append-nil (woken_steps true far)) (worked_order mode None Empty
    (record { answer = None; late = None }) far.events false None (λ e. absurd (cc e)))
woken_hears mode false far = refl

-- a wake
pub wake_order : (mode : Mode) (far : Far) (steps : List LocalStep) (wakes : Bool)
    → InFarOrder mode (wake_steps far steps wakes)
wake_order mode far steps wakes = record {
  own = own_steps None far steps;
  heard = woken_steps wakes (locals far steps);
  is = refl;
  by_itself = own_all None steps far;
  hears = woken_hears mode wakes (locals far steps);
}
