-- What the two ends' level says of the request that may still be carried out, and of its answer.
-- For the clauses of `laws::receive_gives`, `laws::rise_gives`, `Core::abort` and 8 more.
use Rattle.std.proofs.Common.{◌≡◌, ℕ, suc, List, [], ◌∷◌, refl, subst, arith}
use Rattle.std.proofs.lemmas.Grind.{common_steps}
use Rattle.std.specs.Prelude.{Option, Some, None}
use Rattle.iol_mseq.specs.declared.master.MasterMsg.{MasterMsg}
use Rattle.iol_isdu.specs.declared.values.Request.{Request}
use Rattle.iol_far.specs.declared.carried.Carried.{Carried}
use Rattle.iol_far.specs.Isdu.{IsduState, Handed, fits, isdu_with_octets, isdu_data}
use Rattle.iol_far.specs.Far.{Far, HearResult, hear, heard_as}
use Rattle.iol_far.specs.Local.{LocalStep, local, locals}
use Rattle.iol_link.specs.Honest.{Passage, OutLost, far_after}
use Rattle.iol_far.specs.declared.kind.Kind.{Kind}
use Rattle.iol_far.specs.declared.kind.HandsOver.{HandsOver}
use Rattle.iol_far.specs.declared.kind.Recalls.{Recalls}
use Rattle.iol_far.specs.Level.{Progress, IsWritten, Stands as FarStands, Move, Begin, Leave, after, base_after, FarLink, IsIdle, IsGrown, IsOutOnce}
use Rattle.iol_far.specs.Laws.{ReplySays}
use Rattle.iol_app.specs.Abstract.OfDevice.{Hidden, open_request, IsOpen, hidden_after, hidden_through, hidden_redelivered, redeliver_steps}
use Rattle.iol_app.specs.BothEnds.{AnswerFits, ProgressFits}
use Rattle.iol_app.proofs.Accepted.{by_accepted}
use Rattle.iol_app.proofs.Moves.{idle_base}
use Rattle.iol_app.proofs.OwnSession.{own_open_step}
use Rattle.iol_app.specs.Exchange.{hidden_lost}

pub handed_opens : (base : List Carried) (request : Option Request) (h : Hidden)
    (carried : List Carried) (q : Request)
    → request ≡ Some q → carried ≡ base → AnswerFits base request h carried
    → open_request request h ≡ Some q
handed_opens base request h carried q named same fits = grind (arith, common_steps)

-- own steps make none late that wasn't, and keep the record tied to the answer where it was
module _ (Tied : Type 0) (base : List Carried) (request : Option Request) where
  abbrev pub IsTied : Hidden → List Carried → Type 0
  IsTied h carried = (h.late ≡ None) × (Tied → AnswerFits base request h carried)

  pub tied_locals : (steps : List LocalStep) (far : Far) (h : Hidden) → IsOpen far.isdu request h
      → IsTied h far.carried
      → IsTied (hidden_through request far steps h) (locals far steps).carried
  tied_locals [] far h opens tied = tied
  tied_locals (step ∷ steps) far h opens tied =
      tied_locals steps (local far step) (hidden_after request far step h)
      (own_open_step request h far step opens) (grind (arith, common_steps))

pub hear_carried : (far : Far) (o : List ℕ) → (hear far o).far.carried ≡ far.carried
hear_carried far o = by_accepted (λ q. (heard_as far o q).far.carried ≡ far.carried) far o refl
    (λ awake m e. refl) (λ awake command w m e. refl)

pub carried_after : (passage : Passage) (far : Far) (o : List ℕ)
    → (far_after passage far o).carried ≡ far.carried
carried_after OutLost far o = refl
carried_after other far o = hear_carried far o

unhanded : (text : List ℕ) (last : Option ℕ) (q : Request)
    → Handed q ≡ isdu_with_octets text last → ⊥
unhanded text last q e = grind (arith, common_steps)

written_handed : (hands_over : HandsOver) (size : ℕ) (base : List Carried) (r : Request) (i : ℕ)
    (q : Request) (counted : Option ℕ) (c : List Carried)
    → IsWritten hands_over size base r i (Handed q) counted c → (q ≡ r) × (c ≡ base)
written_handed hands_over size base r i q counted c h = grind (arith, common_steps, unhanded)

module _ (hands_over : HandsOver) (size : ℕ) (base : List Carried) (p : Progress)
    (counted : Option ℕ) (c : List Carried) where
  -- the far end is handed a request only where the progress names it, and the record is as it was
  stands_handed : (q : Request) → FarStands hands_over size base p (Handed q) counted c
      → ((request : Option Request) → ProgressFits p request → request ≡ Some q) × (c ≡ base)
  stands_handed q h = grind (arith, common_steps, written_handed)

  -- what is handed is the request under way, where both stand so
  pub stands_open : (state : IsduState) (request : Option Request) (h : Hidden)
      → FarStands hands_over size base p state counted c → ProgressFits p request
      → AnswerFits base request h c → IsOpen state request h
  stands_open (Handed q) request h stands fits answer =
      let there = stands_handed q stands in
      handed_opens base request h c q (there.0 request fits) there.1 answer
  stands_open state request h stands fits answer = tt

-- what is handed once more has no answer any more
pub redeliver_opens : (request : Option Request) (q : Request) (h : Hidden) → request ≡ Some q
    → IsOpen (Handed q) request (hidden_redelivered request (Handed q) h)
redeliver_opens request q h e = grind (arith, common_steps)

pub open_redelivered : (state : IsduState) (request : Option Request) (h : Hidden)
    → IsOpen state request h → IsOpen state request (hidden_redelivered request state h)
    × (hidden_redelivered request state h ≡ h) × (redeliver_steps request state h ≡ [])
open_redelivered state request h opens = grind (arith, common_steps)

pub redeliver_late : (request : Option Request) (state : IsduState) (h : Hidden)
    → (hidden_redelivered request state h).late ≡ h.late
redeliver_late request state h = grind (arith, common_steps)

-- the progress behind a reply is that of the request too
fits_after : (trust : Recalls) (vain : ℕ) (p : Progress) (what : Move) (x : List ℕ)
    (request : Option Request) → ProgressFits p request
    → ((q : Request) → what ≡ Begin q → request ≡ Some q)
    → ProgressFits (after trust vain p what x) request
fits_after trust vain p what x request fits begins = grind (arith, common_steps)

-- where that isn't over, the record that it began with is that of before
base_stays : (what : Move) (base c : List Carried) (p : Progress) → (what ≡ Leave → ⊥)
    → ((q : Request) → what ≡ Begin q → IsIdle p) → IsGrown base p c → c ≡ base_after what base c
    → c ≡ base
base_stays what base c p other idle grown e = grind (arith, common_steps, idle_base)

-- the far end once it heard a message that it replies to
pub replied_opens : {page : List ℕ} {kind : Kind} {trust : Recalls} {vain size : ℕ}
    {base : List Carried} {link : FarLink} {p : Progress} {o : List ℕ} {m : MasterMsg} {what : Move}
    {heard : HearResult} → ReplySays page kind trust vain size base link p o m what heard
    → (request : Option Request) (h : Hidden) → ProgressFits p request
    → ((q : Request) → what ≡ Begin q → (request ≡ Some q) × IsIdle p)
    → IsOpen heard.far.isdu request (hidden_redelivered request heard.far.isdu h)
    × (IsOutOnce kind.hands_over size what (suc vain)
    → AnswerFits base request h heard.far.carried → IsOpen heard.far.isdu request h)
replied_opens {kind} {trust} {vain} {size} {base} {p} {what} {heard} says request h fits begins =
    by_state heard.far.isdu refl
  where
    p' : Progress
    p' = after trust vain p what (isdu_data size heard.far.isdu)

    c : List Carried
    c = heard.far.carried

    Holds : IsduState → Type 0
    Holds s = FarStands kind.hands_over size (base_after what base c) p' s heard.far.counted c

    left : (q : Request) → what ≡ Leave → Holds (Handed q) → ⊥
    left q e = grind (arith, common_steps)

    by_state : (s : IsduState) → heard.far.isdu ≡ s
        → IsOpen s request (hidden_redelivered request s h)
        × (IsOutOnce kind.hands_over size what (suc vain) → AnswerFits base request h c
        → IsOpen s request h)
    by_state (Handed q) e =
        let stands = subst Holds e says.before.stands in
        let there = stands_handed kind.hands_over size (base_after what base c) p'
        heard.far.counted c q stands in
        let named = there.0 request (fits_after trust vain p what (isdu_data size heard.far.isdu)
        request fits (λ r k. (begins r k).0)) in (
          redeliver_opens request q h named,
          λ once answer. handed_opens base request h c q named
              (base_stays what base c p (λ k. left q k stands) (λ r k. (begins r k).1)
              (says.grown once) there.1) answer,
        )
    by_state s e = (tt, λ once answer. tt)

-- what the device is handed is still what it may carry out
pub lost_opens : (state : IsduState) (request : Option Request) (h : Hidden)
    → IsOpen state request h → IsOpen state None (hidden_lost request h)
lost_opens state request h opens = grind (arith, common_steps)
