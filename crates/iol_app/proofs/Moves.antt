-- What a move says of the message's channel, and of the request.
-- For the clauses of `laws::receive_gives`, `laws::rise_gives`, `Core::abort` and 8 more.
use Rattle.std.proofs.Common.{◌≡◌, ℕ, suc, ◌*◌, ◌<◌, true, List, [], length, refl, arith, false, ◌++◌}
use Rattle.std.proofs.lemmas.Grind.{common_steps}
use Rattle.std.specs.Prelude.{Option, if◌then◌else◌, IsTrue, Some}
use Rattle.iol_mseq.specs.declared.master.MasterMsg.{MasterMsg}
use Rattle.iol_isdu.specs.declared.values.Request.{Request}
use Rattle.iol_isdu.specs.declared.values.Answer.{Answer}
use Rattle.iol_segment.specs.TextLaws.{segments_up_to}
use Rattle.iol_far.specs.declared.carried.Carried.{Carried}
use Rattle.iol_far.specs.declared.kind.Recalls.{Recalls}
use Rattle.iol_far.specs.Isdu.{fits, answer_text_to, isdu_data, IsduState, Answered}
use Rattle.iol_far.specs.Far.{Far, data_of}
use Rattle.iol_far.specs.Level.{Progress, Received as IsReceived, Move, Begin, Ask, Next, Leave, FarLink, after, IsSent, base_after, IsIdle, IsGrown, Perhaps, Written, Busy as IsBusy, Unsure, Stands as FarStands, progress_after_ask, progress_after_doubt, may_be_none}
use Rattle.iol_far.specs.declared.kind.HandsOver.{HandsOver}
use Rattle.iol_mode.specs.declared.configuration.Devices.{Devices}
use Rattle.iol_app.specs.Abstract.Steps.{repeats_at}
use Rattle.iol_app.specs.Abstract.OfDevice.{Hidden}
use Rattle.iol_app.specs.BothEnds.{AnswerFits}
use Rattle.iol_app.specs.Exchange.{ReadsAnswer}
use Rattle.std.proofs.lemmas.List.{append_cancel_right}
use Rattle.iol_segment.specs.Cut.{segment}

-- the octets that the reply to a message brings
abbrev pub data_received : ℕ → MasterMsg → Far → List ℕ
data_received size m far = if m.mc.read then data_of far size m.mc.channel m.mc.address else []

-- only reads of the answer bring the request on by what they bring
same_after : (trust : Recalls) (vain : ℕ) (p : Progress) (what : Move) (x y : List ℕ)
    → (ReadsAnswer what → x ≡ y) → after trust vain p what x ≡ after trust vain p what y
same_after trust vain p what x y same = grind (arith, common_steps)

module _ {page : List ℕ} {size : ℕ} {link : FarLink} {p : Progress} {o : List ℕ} {m : MasterMsg}
    {what : Move} (sent : IsSent page size link p o m what) where
  -- and they bring what the device's ISDU sends
  pub answers_data : (far : Far) → ReadsAnswer what
      → data_received size m far ≡ isdu_data size far.isdu
  answers_data far asks = grind (arith, common_steps, sent.move)

  pub data_after : (trust : Recalls) (vain : ℕ) (far : Far)
      → after trust vain p what (data_received size m far)
      ≡ after trust vain p what (isdu_data size far.isdu)
  data_after trust vain far = same_after trust vain p what (data_received size m far)
      (isdu_data size far.isdu) (answers_data far)

  -- a request is begun where none is under way, and an answer asked for where one is
  pub begins_idle : (q : Request) → what ≡ Begin q → IsIdle p
  begins_idle q e = grind (arith, common_steps, sent.move)

-- a COUNT read wants a segment that each answer has whose text begins with the octets so far
pub next_wants : {page : List ℕ} {size : ℕ} {link : FarLink} {r : Request} {i : ℕ} {t o : List ℕ}
    {m : MasterMsg} → IsSent page size link (IsReceived r i t) o m Next → (a : Answer)
    → IsTrue (fits r a) → t ≡ segments_up_to size (answer_text_to r a) i
    → suc i * size < length (answer_text_to r a)
next_wants sent a fitting same = grind (arith, common_steps, sent.move)

-- where none is under way the record has grown by nothing
pub idle_base : (base carried : List Carried) (p : Progress) → IsIdle p → IsGrown base p carried
    → carried ≡ base
idle_base base carried p idle grown = grind (arith, common_steps)

-- only a request's first segment hands it over
pub whole_begins : (devices : Devices) (hands_over : HandsOver) (size : ℕ) (what : Move)
    → repeats_at devices hands_over size what ≡ true → (q : Request) × (what ≡ Begin q)
whole_begins devices hands_over size what whole = grind (arith, common_steps)

-- the base stays while the answer is read
pub answers_base : (what : Move) (base carried : List Carried) → ReadsAnswer what
    → base_after what base carried ≡ base
answers_base what base carried holds = grind (arith, common_steps)

-- and the record is the base still, or again
pub answer_after : (what : Move) (base carried : List Carried) (request : Option Request)
    (h : Hidden) → (what ≡ Leave → carried ≡ base)
    → ((q : Request) → what ≡ Begin q → carried ≡ base) → AnswerFits base request h carried
    → AnswerFits (base_after what base carried) request h carried
answer_after what base carried request h leaves begins answer = grind (arith, common_steps)

-- The octets of an answer that the master has had

-- where these octets are the last segment had of an answer, it has octets of its text
abbrev HasText : ℕ → List ℕ → Progress → Type 0
HasText size data_in (IsReceived r i octets) = (a : Answer) → IsTrue (fits r a)
    → octets ≡ segments_up_to size (answer_text_to r a) i
    → data_in ≡ segment size (answer_text_to r a) i
    → i * size < length (answer_text_to r a)
HasText size data_in p = Unit {0}

-- a START read brings the first segment
first_text : (size : ℕ) (q : Request) (a : Answer) → 0 * size < length (answer_text_to q a)
first_text size q a = grind (arith, common_steps)

asked_text : (trust : Recalls) (size : ℕ) (q : Request) (data_in : List ℕ)
    → HasText size data_in (progress_after_ask trust q data_in)
asked_text trust size q data_in = grind (arith, common_steps, first_text)

-- and so does one that is a question
wondered_text : (vain size : ℕ) (q : Request) (data_in : List ℕ)
    → HasText size data_in (progress_after_doubt vain q data_in)
wondered_text vain size q data_in = grind (arith, common_steps, first_text)

-- a COUNT read brings the next one
next_text : (size : ℕ) (q : Request) (i : ℕ) (t data_in : List ℕ)
    → ((a : Answer) → IsTrue (fits q a) → t ≡ segments_up_to size (answer_text_to q a) i
    → suc i * size < length (answer_text_to q a))
    → HasText size data_in (IsReceived q (suc i) (t ++ data_in))
next_text size q i t data_in wants a fitting whole part = wants a fitting
    (append_cancel_right t (segments_up_to size (answer_text_to q a) i)
    (segment size (answer_text_to q a) (suc i)) (rw part at whole))

has_text : {page : List ℕ} {size : ℕ} {link : FarLink} {o : List ℕ} {m : MasterMsg}
    (trust : Recalls)
    (vain : ℕ) (data_in : List ℕ) (what : Move) (p : Progress) → ReadsAnswer what
    → IsSent page size link p o m what → HasText size data_in (after trust vain p what data_in)
has_text {size} trust vain data_in Ask (Perhaps q) k sent = wondered_text vain size q data_in
has_text {size} trust vain data_in Ask (Written q i) k sent = asked_text trust size q data_in
has_text {size} trust vain data_in Ask (IsBusy q) k sent = asked_text trust size q data_in
has_text {size} trust vain data_in Next (IsReceived q i t) k sent =
    elim (may_be_none trust vain t data_in) as (λ b. HasText size data_in
    (if b then Unsure q else IsReceived q (suc i) (t ++ data_in)))
    [ true ↦ tt | false ↦ next_text size q i t data_in (next_wants sent) ]
has_text trust vain data_in Ask p k sent = absurd sent.move
has_text trust vain data_in Next p k sent = absurd sent.move
has_text trust vain data_in what p k sent = absurd k

-- they are the segments of an answer to the request, the last of which has octets of its text
module _ {page : List ℕ} {size : ℕ} {link : FarLink} {p : Progress} {o : List ℕ} {m : MasterMsg}
    {what : Move} (sent : IsSent page size link p o m what) where
  pub text_received : (trust : Recalls) (vain : ℕ) (hands_over : HandsOver) (base : List Carried)
      (r : Request) (i : ℕ) (octets : List ℕ) (s : IsduState) (counted : Option ℕ)
      (c : List Carried) → FarStands hands_over size base (IsReceived r i octets) s counted c
      → ReadsAnswer what → after trust vain p what (isdu_data size s) ≡ IsReceived r i octets
      → (a : Answer) × IsTrue (fits r a) × (octets ≡ segments_up_to size (answer_text_to r a) i)
      × (i * size < length (answer_text_to r a))
  text_received trust vain hands_over base r i octets (Answered q a (Some j)) counted c h k is =
      let fitting = rw h.0 at h.1 in
      let data_in = isdu_data size (Answered q a (Some j)) in
      let last : data_in ≡ segment size (answer_text_to r a) i = rw (h.2, h.0) refl in
      let has = rw is at (has_text trust vain data_in what p k sent) in
      (a, fitting, h.3, has a fitting h.3 last)
  text_received trust vain hands_over base r i octets state counted c h k is = absurd h
