-- No segment of an answer is refused.
-- For the clauses of `laws::answers_are_taken_up`.
use Rattle.std.proofs.lemmas.Bool.Decides.{nat_tests}
use Rattle.std.proofs.lemmas.Grind.{common_steps}
use Rattle.std.proofs.Common.{arith, ◌≡◌, ℕ, suc, ◌*◌, ◌<◌, ◌≤◌, ⊎_elim, false, ◌==◌, List, [], ◌++◌, length, take, drop, refl, sym, ap, ◌∙◌, None, Result}
use Rattle.std.specs.Prelude.{slice_index, IsTrue}
use Rattle.std.proofs.lemmas.Bool.{cases_lt}
use Rattle.std.proofs.lemmas.List.{append-nil, take-append-drop}
use Rattle.std.proofs.Math.Numerals.{add-one}
use Rattle.iol_isdu.specs.declared.values.Answer.{Answer}
use Rattle.iol_isdu.specs.declared.values.Request.{Request}
use Rattle.iol_isdu.specs.declared.fault.IsduFault.{IsduFault}
use Rattle.iol_isdu.specs.Frame.{total_at}
use Rattle.iol_isdu.specs.Answers.{BeginsWithAnswer, IsAnswerText, answer_fault, is_read}
use Rattle.iol_isdu.specs.Texts.{FitsAnswer}
use Rattle.iol_isdu.specs.Laws.{OneAnswerText}
use Rattle.iol_segment.specs.Cut.{Cutting}
use Rattle.iol_segment.specs.Join.{Open, Complete, stage, stage_by, stage_step}
use Rattle.iol_segment.specs.JoinLaws.{count_at}
use Rattle.iol_segment.specs.TextLaws.{TextLaws, HoldsLength, segments_up_to}
use Rattle.iol_far.specs.Isdu.{answer_text_to, fits}
use Rattle.iol_far.specs.SegmentLaws.{AnswersFit}
use Rattle.iol_app.specs.declared.request.Current.{Current}
use Rattle.iol_app.specs.declared.request.RequestProgress.{RequestProgress}
use Rattle.iol_app.specs.declared.request.RequestProgress.TheVariants.{Doubting, Asking, Receiving}
use Rattle.iol_app.specs.Requests.{effect_of_segment, effect_of_reply, IsCurrent}
use Rattle.iol_app.specs.Moves.{next_segment, octets_received, IsReading, is_forgotten, TakesUpSegment, AnswersAreTakenUp}
use Rattle.iol_app.proofs.Joining.{taken_next}

-- an answer that fits the request of a cut
record Fitting (cutter : Cutting Request) (answer : Answer) : Type 0 where
  pub laws : TextLaws cutter.size
  pub valid : FitsAnswer (is_read cutter.source) answer
  pub spells : IsAnswerText (is_read cutter.source) answer (answer_text_to cutter.source answer)
  pub begins : BeginsWithAnswer (is_read cutter.source) (answer_text_to cutter.source answer) answer
  pub accepted : answer_fault (is_read cutter.source) (answer_text_to cutter.source answer) ≡ None
  pub holds : HoldsLength (answer_text_to cutter.source answer)

fitting : AnswersFit → ((size : ℕ) → 1 ≤ size → TextLaws size) → OneAnswerText
    → (cutter : Cutting Request) (answer : Answer) → 1 ≤ cutter.size
    → IsTrue (fits cutter.source answer) → Fitting cutter answer
fitting fit_answers laws one cutter answer some h =
    let read = is_read cutter.source in
    let text = answer_text_to cutter.source answer in
    let fit : FitsAnswer read answer = fit_answers cutter.source answer h in
    let holds : HoldsLength text = (laws cutter.size some).answers read answer fit in
    let spells : IsAnswerText read answer text = (one read answer fit text).1 refl in
    let begins : BeginsWithAnswer read text answer =
    record { text = text; rest = []; spells = spells; whole = sym (append-nil text) } in
    let accepted = (laws cutter.size some).accepted read answer fit in
    assumption (laws cutter.size some, fit, holds, spells, begins, accepted)

-- octets that are whole begin with the whole text
whole_front : (total : Result ℕ IsduFault) (octets text : List ℕ)
    → stage_by total octets ≡ Complete text → take (length text) octets ≡ text
whole_front total octets text e = grind (arith, nat_tests, common_steps)

-- the segment of this number was joined
joined_up : (current : Current) (answer : Answer) (last : ℕ) → Fitting current.cutter answer
    → last * current.cutter.size < length (answer_text_to current.cutter.source answer)
    → (octets : List ℕ) → octets ≡ segments_up_to current.cutter.size
    (answer_text_to current.cutter.source answer) last
    → TakesUpSegment current answer last octets
    (effect_of_segment last (stage_step (count_at last) octets (stage octets)).took
    (stage_step (count_at last) octets (stage octets)).joining
    (record current { repeat = false }))
joined_up current answer last h low octets same =
    let size = current.cutter.size in
    let text = answer_text_to current.cutter.source answer in
    ⊎_elim
    (λ (more : suc last * size < length text).
    rw (ap stage same ∙ h.laws.grows text last h.holds more)
    ((stage_step (count_at last) octets Open).joining, refl, refl))
    (λ (all : length text ≤ suc last * size).
    let whole : stage octets ≡ Complete text =
    ap stage same ∙ h.laws.ends text last h.holds (low, all) in
    let front = whole_front (total_at octets) octets text whole in
    let rest = drop (length text) octets in
    let parts : octets ≡ text ++ rest = rw front at (sym (take-append-drop (length text) octets)) in
    rw (whole, h.accepted)
    (h.begins, record { text = text; rest = rest; spells = h.spells; whole = parts }))
    (cases_lt (suc last * size) (length text))

-- the first segment of an answer is no word of the device's own
module _ (cutter : Cutting Request) (od : List ℕ) (answer : Answer) (h : Fitting cutter answer)
    (is : od ≡ segments_up_to cutter.size (answer_text_to cutter.source answer) 0) where
  not_busy : (slice_index od 0 == 1) ≡ false
  not_busy = rw is (h.laws.busy (is_read cutter.source) answer h.valid)

  not_none : (slice_index od 0 == 0) ≡ false
  not_none = rw is (h.laws.silent (is_read cutter.source) answer h.valid)

taken_up : (t : Current) (p : RequestProgress) (limit : ℕ) (od : List ℕ) (answer : Answer)
    → let current : Current = record t { progress = p } in
    IsCurrent current → is_forgotten p current.repeat od ≡ false → IsReading p
    → Fitting current.cutter answer
    → octets_received p od ≡ segments_up_to current.cutter.size
    (answer_text_to current.cutter.source answer) (next_segment p)
    → next_segment p * current.cutter.size < length (answer_text_to current.cutter.source answer)
    → TakesUpSegment current answer (next_segment p) (octets_received p od)
    (effect_of_reply limit od current)
taken_up t Doubting limit od answer c retained reading h is low =
    rw (not_none t.cutter od answer h is, not_busy t.cutter od answer h is)
    (joined_up (record t { progress = Doubting }) answer 0 h low od is)
taken_up t (Asking busy) limit od answer c retained reading h is low =
    rw (not_busy t.cutter od answer h is, not_none t.cutter od answer h is)
    (joined_up (record t { progress = Asking busy }) answer 0 h low od is)
taken_up t (Receiving joining last) limit od answer c retained reading h is low =
    rw (retained, taken_next t.cutter.size last joining od c.progress, add-one last)
    (joined_up (record t { progress = Receiving joining last }) answer (suc last) h low
    (joining.text ++ od) is)
taken_up t other limit od answer c retained reading h is low = absurd reading

pub answers_are_taken_up : AnswersFit → ((size : ℕ) → 1 ≤ size → TextLaws size) → OneAnswerText
    → AnswersAreTakenUp
answers_are_taken_up fit_answers laws one current limit od answer c retained reading fit is low =
    taken_up current current.progress limit od answer c retained reading
    (fitting fit_answers laws one current.cutter answer c.some fit) is low
