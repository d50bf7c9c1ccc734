-- What the kinds of good replies rest on: what zeros in place of an answer can be, and what is in
-- doubt then; what is counted, and what is noted, of the message that is out.
-- For the clauses of `laws::receive_gives`.
use Rattle.std.proofs.lemmas.Grind.{common_steps}
use Rattle.std.proofs.Common.{◌≡◌, ℕ, zero, suc, ◌+◌, ◌%◌, min, Bool, true, false, ◌==◌, ◌&&◌, List, [], ◌∷◌, ◌++◌, length, refl, ap, arith, Option, Some, ◌⊎◌}
use Rattle.std.specs.Prelude.{IfSome, IsTrue, if◌then◌else◌, slice_index, bytes_eq, replicate, None, IsSome}
use Rattle.std.proofs.lemmas.Bool.Decides.{nat_tests}
use Rattle.iol_octets.specs.Zeros.{are_zeros}
use Rattle.iol_octets.specs.declared.flow_control.Flow.TheVariants.{Count}
use Rattle.iol_isdu.specs.Answers.{is_read, answer_fault}
use Rattle.iol_isdu.specs.declared.values.Request.{Request}
use Rattle.iol_isdu.specs.declared.values.Cause.{Cause}
use Rattle.iol_isdu.specs.declared.values.Cause.TheVariants.{BusyTooLong, Protocol}
use Rattle.iol_segment.specs.TextLaws.{segments_up_to}
use Rattle.iol_segment.specs.Cut.{Cutting, last_issued}
use Rattle.iol_segment.specs.Join.{Joining, Stage, JoinStep, stage, stage_step, join_step, Complete}
use Rattle.iol_far.specs.declared.kind.HandsOver.{HandsOver}
use Rattle.iol_far.specs.declared.kind.Recalls.{Recalls}
use Rattle.iol_far.specs.declared.kind.Recalls.TheVariants.{UntilSent}
use Rattle.iol_far.specs.Level.{NoneHeld, Received as IsReceived, Unsure, Move, Leave, Other, IsIdle, is_open, progress_after_ask, may_be_none, Busy as IsBusy, Stands as FarStands, grown_by}
use Rattle.iol_mode.specs.declared.configuration.Devices.{Devices}
use Rattle.iol_mode.specs.declared.configuration.Devices.TheVariants.{Own, Any}
use Rattle.iol_mode.specs.Kinds.{trusted_recalls}
use Rattle.iol_app.specs.Abstract.Steps.{repeats_at, misreads_at, doubts_at, Moment}
use Rattle.iol_app.specs.Exchange.{ReadsAnswer, MayAbort}
use Rattle.iol_app.specs.declared.request.Current.{Current}
use Rattle.iol_app.specs.declared.request.RequestProgress.TheVariants.{Refused}
use Rattle.iol_app.specs.declared.session.Purpose.{Purpose}
use Rattle.iol_app.specs.declared.session.Purpose.TheVariants.{Request as NextMessage}
use Rattle.iol_app.specs.Requests.{text_of, segment_progress, sent_anew, one_more_busy, waiting_abort, current_after_refusal, forgotten_by, ReplyEffect, GoesOn, HasText, effect_of_segment, effect_of_count_read, IsJoining, effect_of_text}
use Rattle.iol_app.specs.Moves.{before_last, progress_of, segment_move}
use Rattle.iol_app.specs.Ends.{BusyAt, AbortAt}
use Rattle.iol_app.proofs.Joining.{taken_next}
use Rattle.iol_app.proofs.Sessions.{text_some}
use Rattle.iol_app.specs.CoreStands.{vain_by, RepeatBy}
use Rattle.iol_isdu.specs.declared.fault.IsduFault.{IsduFault}
use Rattle.iol_isdu.specs.declared.values.Answer.{Answer}
use Rattle.iol_far.specs.declared.carried.Carried.{Carried}
use Rattle.iol_far.specs.Isdu.{IsduState, fits, answer_text_to, isdu_data}
use Rattle.iol_app.specs.Abstract.OfDevice.{Hidden}
use Rattle.iol_app.specs.Abstract.Shown.{MasterFields}
use Rattle.iol_app.specs.Abstract.OfMaster.{WasAborted, received_steps}
use Rattle.iol_app.specs.BothEnds.{AnswerFits}
use Rattle.iol_app.proofs.OwnSession.{SessionRuns}

pub first_idle : (devices : Devices) (source : Request) (issued : ℕ)
    → segment_move source issued ≡ Leave → IsIdle (before_last devices source issued)
first_idle devices source issued e = grind (arith, common_steps)

pub busy_waits : (doubts : Bool) (limit busy : ℕ) (cancels : Bool) (abort : Option Cause)
    (counted : ℕ) → counted ≡ min busy 65535 → AbortAt doubts limit abort busy cancels
    → AbortAt doubts limit
    (if one_more_busy counted == limit then waiting_abort abort BusyTooLong else abort)
    (busy + 1) cancels
busy_waits doubts limit busy cancels abort counted e k = grind (arith, common_steps)

-- only a request's first segment hands it over
pub hands_none : (devices : Devices) (hands_over : HandsOver) (size : ℕ) (what : Move)
    → ReadsAnswer what ⊎ (what ≡ Other) → repeats_at devices hands_over size what ≡ false
hands_none devices hands_over size what asks = grind (arith, common_steps)

-- At a port for any device

pub repeats_any : (devices : Devices) → (devices ≡ Own → ⊥) → devices ≡ Any
repeats_any devices other = grind (arith, common_steps)

pub refused_waits : (doubts : Bool) (limit busy : ℕ) (cancels : Bool) (abort : Option Cause)
    → IsTrue doubts → AbortAt doubts limit abort busy cancels
    → BusyAt doubts Refused busy × AbortAt doubts limit (waiting_abort abort Protocol) busy cancels
refused_waits doubts limit busy cancels abort may h = grind (arith, common_steps)

-- the one segment goes out anew
pub anew_busy : (doubts : Bool) (cutter : Cutting Request) (busy : ℕ) → busy ≡ 0
    → cutter.issued ≡ 1
    → BusyAt doubts (segment_progress (last_issued cutter.size (text_of cutter) cutter.issued)) busy
anew_busy doubts cutter busy e one = grind (arith, nat_tests, common_steps, text_some)

pub anew_idle : (idle : Bool) (current : Current)
    → current.cutter.issued ≡ 1 → progress_of Any idle (Some (sent_anew current)) ≡ NoneHeld
anew_idle idle current one = grind (arith, nat_tests, common_steps, text_some)

-- it was asked for so often in vain
pub vain_repeat : (devices : Devices) (current : Current) (tries : ℕ) → devices ≡ Any
    → RepeatBy devices NextMessage tries current → current.repeat ≡ true
    → (k : ℕ) × (vain_by devices NextMessage (Some current) tries ≡ suc k)
vain_repeat Any current zero any low repeat =
    absurd (omega (arith, low repeat))
vain_repeat Any current (suc k) any low repeat = (k, rw repeat refl)
vain_repeat Own current tries any low repeat = cc

pub vain_some : (devices : Devices) (current : Current) (tries k : ℕ) → devices ≡ Any
    → vain_by devices NextMessage (Some current) tries ≡ suc k → current.repeat ≡ true
vain_some devices current tries k any some = grind (arith, common_steps)

-- zeros where a text would end
pub zeros : (octets : List ℕ) → are_zeros octets ≡ bytes_eq octets (replicate (length octets) 0)
zeros [] = refl
zeros (octet ∷ octets) = ap (λ (b : Bool). (octet == 0) && b) (zeros octets)

staged_forgotten : (count : Option ℕ) (octets od : List ℕ) (at : Stage) → forgotten_by
    (stage_step count octets at).took od ≡ true → (are_zeros od ≡ true) × (is_open at ≡ false)
staged_forgotten count octets od at e = grind (arith, common_steps)

-- such are none of an answer, or are as a device sends them that has forgotten it
pub forgotten_none : {size last : ℕ} {joining : Joining} (od : List ℕ) (k : ℕ)
    → IsJoining size last joining
    → forgotten_by (join_step joining (Count ((last + 1) % 16)) od).took od ≡ true
    → may_be_none UntilSent (suc k) joining.text od ≡ true
forgotten_none {size} {last} {joining} od k h e =
    let found = staged_forgotten (Some (suc last % 16)) (joining.text ++ od) od
    (stage (joining.text ++ od)) (rw (taken_next size last joining od h) at e) in
    rw (← zeros od, found.0, found.1) refl

-- where they end a text, it is refused, or taken for an answer's by who asked for them once
abbrev pub EndsText : Bool → Current → ReplyEffect → Type 0
EndsText repeat current (GoesOn next) = next ≡ current_after_refusal current
EndsText repeat current (HasText text) = repeat ≡ false

none_zeros : (text od : List ℕ) (k : ℕ) → are_zeros od ≡ bytes_eq od (replicate (length od) 0)
    → may_be_none UntilSent (suc k) text od ≡ true
    → (are_zeros od ≡ true) × (is_open (stage (text ++ od)) ≡ false)
none_zeros text od k same e = grind (arith, common_steps)

finished_ends : (repeat : Bool) (current : Current) (text : List ℕ) (fault : Option IsduFault)
    → EndsText repeat current (if repeat && true
    then GoesOn (current_after_refusal current) else effect_of_text text fault current)
finished_ends repeat current text fault = grind (arith, common_steps)

staged_ends : (repeat : Bool) (current : Current) (last : ℕ)
    (count : Option ℕ) (octets od : List ℕ) (at : Stage) → are_zeros od ≡ true
    → is_open at ≡ false → let t : JoinStep = stage_step count octets at in
    EndsText repeat current (if repeat && forgotten_by t.took od
    then GoesOn (current_after_refusal current) else effect_of_segment last t.took t.joining
    current)
staged_ends repeat current last count octets od (Complete text) none closed =
    rw none (finished_ends repeat current text
    (answer_fault (is_read current.cutter.source) text))
staged_ends repeat current last count octets od at none closed = grind (arith, common_steps)

pub none_ends : {size last : ℕ} {joining : Joining} (current : Current)
    (od : List ℕ) (k : ℕ) (repeat : Bool) → IsJoining size last joining
    → may_be_none UntilSent (suc k) joining.text od ≡ true
    → EndsText repeat current (effect_of_count_read repeat joining (last + 1) od current)
none_ends {size} {last} {joining} current od k repeat h e =
    let none = none_zeros joining.text od k (zeros od) e in
    rw (taken_next size last joining od h) (staged_ends repeat current (last + 1)
    (Some (suc last % 16)) (joining.text ++ od) od (stage (joining.text ++ od)) none.0 none.1)

pub trusts_none : (devices : Devices) (recalls : Recalls) (vain : ℕ) (text od : List ℕ)
    → may_be_none (trusted_recalls devices recalls) vain text od ≡ true
    → ((devices ≡ Any) ⊎ IsTrue (misreads_at devices recalls))
    × ((k : ℕ) × (vain ≡ suc k) × (may_be_none UntilSent (suc k) text od ≡ true))
trusts_none devices recalls vain text od e = grind (arith, common_steps)

-- where it is told by zeros, something may be in doubt
pub doubts_of : (devices : Devices) (recalls : Recalls)
    → (devices ≡ Any) ⊎ IsTrue (misreads_at devices recalls) → IsTrue (doubts_at devices recalls)
doubts_of devices recalls h = grind (arith, common_steps)

-- a START read that brought nothing: an answer that is recalled begins otherwise
pub asked_nothing : (devices : Devices) (recalls : Recalls) (source : Request) (od : List ℕ)
    → (slice_index od 0 == 1) ≡ false → (slice_index od 0 == 0) ≡ true
    → (progress_after_ask (trusted_recalls devices recalls) source od ≡ IsReceived source 0 od)
    ⊎ ((progress_after_ask (trusted_recalls devices recalls) source od ≡ Unsure source)
    × IsTrue (doubts_at devices recalls))
asked_nothing devices recalls source od other none = grind (arith, common_steps)

pub not_zero : (octet : ℕ) → (octet == 1) ≡ true → (octet == 0) ≡ false
not_zero octet e = grind (arith, nat_tests)

pub not_both : (x y : Bool) → (x ≡ true → y ≡ true → ⊥) → (x && y) ≡ false
not_both x y h = grind (arith, common_steps)

-- of a request whose message isn't out nothing is noted
pub other_once : (devices : Devices) (e : Purpose) (tries : ℕ) (current : Option Current)
    → (e ≡ NextMessage → ⊥) → IfSome current (RepeatBy devices e tries)
    → IfSome current (λ c. c.repeat ≡ false)
other_once devices e tries current other h = grind (arith, common_steps)

-- the session where a request is cut off, whether it had an answer or not
pub aborted_session : (m : Moment) (fields : MasterFields) (h : Hidden) (c : List Carried)
    (r : Request)
    (cause : Cause) → fields.request ≡ Some r
    → MayAbort (doubts_at m.terms.devices m.terms.kind.recalls) m.terms.busy_limit fields.busy
    fields.asked cause → SessionRuns m fields h c (received_steps (WasAborted cause) fields.request)
    (record fields { request = None }) h c
aborted_session m fields h c r cause under may = grind (arith, common_steps)

-- What a good reply says of the answer

not_one : (size : ℕ) → (slice_index (replicate size 0) 0 == 1) ≡ true → ⊥
not_one size e = grind (arith, common_steps)

pub more_grown : (base : List Carried) (r : Request) (a : Answer) → base ≡ grown_by base r a → ⊥
more_grown base r a e = grind (arith, common_steps)

-- a device that is busy has not answered
pub busy_unanswered : (hands_over : HandsOver) (size : ℕ) (base : List Carried) (r : Request)
    (s : IsduState) (counted : Option ℕ) (c : List Carried) (h : Hidden)
    → FarStands hands_over size base (IsBusy r) s counted c → AnswerFits base (Some r) h c
    → (slice_index (isdu_data size s) 0 == 1) ≡ true → h.answer ≡ None
busy_unanswered hands_over size base r s counted c h stands answer e =
    grind (arith, common_steps, not_one, more_grown)

-- where the record has grown, the device has answered
pub grown_answered : (base : List Carried) (r : Request) (a : Answer) (h : Hidden)
    (c : List Carried) → AnswerFits base (Some r) h c → c ≡ grown_by base r a → IsSome h.answer
grown_answered base r a h c fits grown = grind (arith, common_steps, more_grown)

pub answer_received : (hands_over : HandsOver) (size : ℕ) (base : List Carried) (r : Request)
    (i : ℕ)
    (text : List ℕ) (s : IsduState) (counted : Option ℕ) (c : List Carried) (h : Hidden)
    (x : Answer) → FarStands hands_over size base (IsReceived r i text) s counted c
    → AnswerFits base (Some r) h c
    → ((a : Answer) → IsTrue (fits r a) → text ≡ segments_up_to size (answer_text_to r a) i → a ≡ x)
    → h.answer ≡ Some x
answer_received hands_over size base r i text s counted c h x stands fits only =
    grind (arith, common_steps)
