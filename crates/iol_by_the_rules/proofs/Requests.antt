-- The request under way: the port's session, and the transfer that the watch knows.
-- For the clauses of `laws::ports_are_by_the_rules`.
use Rattle.std.proofs.Common.{◌≡◌, ◌⊎◌, inl, inr, ℕ, zero, suc, ◌+◌, ◌*◌, ◌≤◌, ◌<◌, Bool, true, false, not, ◌&&◌, ◌==◌, nat_lt, if◌then◌else◌, List, [], ◌++◌, length, refl, sym, ap, subst, add-one, arith}
use Rattle.std.proofs.lemmas.Bool.Decides.{nat_tests}
use Rattle.std.proofs.lemmas.Grind.{common_steps}
use Rattle.std.specs.Prelude.{Option, Some, None, IsSome, is_some, Result, Ok, slice_index, ⊤}
use Rattle.arrayvec.specs.ArrayVec.{ArrayVec}
use Rattle.iol_octets.specs.Zeros.{are_zeros}
use Rattle.iol_octets.specs.SegmentNumber.{segment_number}
use Rattle.iol_octets.specs.declared.flow_control.Flow.{Flow}
use Rattle.iol_octets.specs.declared.flow_control.Flow.TheVariants.{Start, Count}
use Rattle.iol_octets.specs.Flow.{IsFlow}
use Rattle.iol_isdu.specs.declared.values.Request.{Request}
use Rattle.iol_isdu.specs.declared.values.Cause.{Cause}
use Rattle.iol_isdu.specs.declared.fault.IsduFault.{IsduFault}
use Rattle.iol_isdu.specs.Answers.{answer_fault, is_read}
use Rattle.iol_isdu.specs.Texts.{IsRequest, request_text}
use Rattle.iol_segment.specs.declared.took.Took.{Took}
use Rattle.iol_segment.specs.declared.took.JoinFault.{JoinFault}
use Rattle.iol_segment.specs.Cut.{Cutting, segment, flow_at}
use Rattle.iol_segment.specs.Join.{Joining, Stage, Open, Complete, Wrong, JoinStep, stage, stage_step, join_step}
use Rattle.iol_segment.specs.JoinLaws.{count_at}
use Rattle.iol_segment.specs.TextLaws.{TextLaws}
use Rattle.iol_far.specs.Codec.{flow_of}
use Rattle.iol_judge.specs.declared.master_transfer.MasterTransfer.{MasterTransfer}
use Rattle.iol_judge.specs.declared.master_transfer.MasterTransfer.TheVariants as watch
use Rattle.iol_judge.specs.MasterTransfers.{transfer_after_message, transfer_after_reply, transfer_after_repeat, transfer_in_answer, ended_by_zeros, asked_after_reply, doubted_updated}
use Rattle.iol_app.specs.declared.request.Current.{Current}
use Rattle.iol_app.specs.declared.request.RequestProgress.{RequestProgress}
use Rattle.iol_app.specs.declared.request.RequestProgress.TheVariants.{Sending, Doubting, Asking, Receiving, Refused}
use Rattle.iol_app.specs.Messages.{progress_head, progress_data}
use Rattle.iol_app.specs.Requests.{current_after_segment, new_current, current_with_abort, waiting_abort, current_after_refusal, current_after_busy, one_more_busy, ReplyEffect, GoesOn, HasText, effect_of_text, effect_of_segment, effect_of_start_read, effect_of_count_read, effect_of_reply, forgotten_by, replied_at, sent_anew, is_whole_out, is_doubting}
use Rattle.iol_by_the_rules.proofs.Segments.{is_free, is_silent, sent_up_to, Waits, counts_on, open_short, flow_back, segment_due}

-- The answer so far

-- octets of an answer that are no whole text
pub record Joins (joining : Joining) (received : ℕ) : Type 0 where
  pub started : joining.started ≡ true
  pub count : joining.count ≡ count_at received
  pub open_text : stage joining.text ≡ Open

abbrev pub IsAnswering : Bool → Joining → Option ℕ → MasterTransfer → Type 0
IsAnswering read joining last transfer =
    (transfer ≡ watch.Answered read (record { items = joining.text }) last)
    ⊎ (transfer ≡ watch.Repeated read (record { items = joining.text }) last)

-- the next segment is asked for: again, unless the message went out once
abbrev pub IsAsking : Bool → Bool → Joining → Option ℕ → MasterTransfer → Type 0
IsAsking repeat read joining last transfer =
    ((repeat ≡ false) × (transfer ≡ watch.Answered read (record { items = joining.text }) last))
    ⊎ (transfer ≡ watch.Repeated read (record { items = joining.text }) last)

-- Which segment was given last

pub record IsIssued (size : ℕ) (r : Request) (issued : ℕ) (flow : Flow) (piece : ArrayVec ℕ)
    (i : ℕ) : Type 0 where
  pub issued_is : issued ≡ suc i
  pub begins : i * size < length (request_text r)
  pub flow_is : flow ≡ flow_at i
  pub piece_is : piece.items ≡ segment size (request_text r) i

-- Between two messages of the request

abbrev pub ProgressGoes : Cutting Request → Option Cause → RequestProgress → MasterTransfer → Type 0
ProgressGoes cutter abort (Sending flow piece) transfer = (i : ℕ)
    × IsIssued cutter.size cutter.source cutter.issued flow piece i
    × Waits cutter.size cutter.source i transfer
ProgressGoes cutter abort Doubting transfer = ⊥
ProgressGoes cutter abort (Asking busy) transfer = transfer ≡ watch.Asked (is_read cutter.source)
ProgressGoes cutter abort (Receiving joining received) transfer = Joins joining received
    × IsAnswering (is_read cutter.source) joining (count_at received) transfer
ProgressGoes cutter abort Refused transfer = IsSome abort

-- its next message is due, or its ABORT
pub record RequestGoes (current : Current) (transfer : MasterTransfer) : Type 0 where
  pub request : IsRequest current.cutter.source
  pub some : 1 ≤ current.cutter.size
  pub repeat : current.repeat ≡ false
  pub at : ProgressGoes current.cutter current.abort current.progress transfer

-- the watch knows of one
abbrev pub RequestStands : Option Current → MasterTransfer → Type 0
RequestStands None transfer = is_free transfer ≡ true
RequestStands (Some current) transfer = RequestGoes current transfer × (is_silent transfer ≡ false)

-- Once its message was sent

abbrev pub ProgressOut : Cutting Request → Bool → RequestProgress → MasterTransfer → Type 0
ProgressOut cutter repeat (Sending flow piece) transfer = (i : ℕ)
    × IsIssued cutter.size cutter.source cutter.issued flow piece i
    × (transfer ≡ sent_up_to cutter.size cutter.source i)
ProgressOut cutter repeat Doubting transfer = (cutter.issued ≡ 1)
    × (0 < length (request_text cutter.source))
    × (transfer
    ≡ (if repeat then watch.Asked (is_read cutter.source)
    else watch.Doubted (is_read cutter.source)))
ProgressOut cutter repeat (Asking busy) transfer = transfer ≡ watch.Asked (is_read cutter.source)
ProgressOut cutter repeat (Receiving joining received) transfer = Joins joining received
    × IsAsking repeat (is_read cutter.source) joining (Some (segment_number (suc received)))
    transfer
ProgressOut cutter repeat Refused transfer = ⊥

pub record RequestOut (current : Current) (transfer : MasterTransfer) : Type 0 where
  pub request : IsRequest current.cutter.source
  pub some : 1 ≤ current.cutter.size
  pub at : ProgressOut current.cutter current.repeat current.progress transfer

-- what a reply makes of it
abbrev pub EffectStands : ReplyEffect → MasterTransfer → Type 0
EffectStands (GoesOn current) transfer = RequestStands (Some current) transfer
EffectStands (HasText text) transfer = is_free transfer ≡ true

-- A cancel

abort_goes : (cutter : Cutting Request) (abort : Option Cause) (cause : Cause)
    (progress : RequestProgress) (transfer : MasterTransfer)
    → ProgressGoes cutter abort progress transfer
    → ProgressGoes cutter (waiting_abort abort cause) progress transfer
abort_goes cutter abort cause (Sending flow piece) transfer h = h
abort_goes cutter abort cause Doubting transfer h = h
abort_goes cutter abort cause (Asking busy) transfer h = h
abort_goes cutter abort cause (Receiving joining received) transfer h = h
abort_goes cutter abort cause Refused transfer h = refl

pub cancel_stands : (cause : Cause) (current : Current) (transfer : MasterTransfer)
    → RequestStands (Some current) transfer
    → RequestStands (Some (current_with_abort cause current)) transfer
cancel_stands cause current transfer (goes, known) = (
  record {
    request = goes.request;
    some = goes.some;
    repeat = goes.repeat;
    at = abort_goes current.cutter current.abort cause current.progress transfer goes.at;
  },
  known,
)

pub cancel_out : (cause : Cause) (current : Current) (transfer : MasterTransfer)
    → RequestOut current transfer → RequestOut (current_with_abort cause current) transfer
cancel_out cause current transfer out =
    record { request = out.request; some = out.some; at = out.at }

-- A request is begun

text_some : (r : Request) (size : ℕ) → IsRequest r → TextLaws size → 0 < length (request_text r)
text_some r size fits laws = grind (arith, common_steps, laws.requests r fits)

module _ (size : ℕ) (r : Request) (some : 1 ≤ size) (fits : IsRequest r)
    (laws : TextLaws size)
  where
    pub begun_goes : (transfer : MasterTransfer) → is_free transfer ≡ true
        → RequestGoes (new_current size r) transfer
    begun_goes transfer free =
        let low : nat_lt (0 * size) (length (request_text r)) ≡ true =
        grind (arith, nat_tests, text_some r size fits laws) in
        record {
          request = fits;
          some = some;
          repeat = refl;
          at = rw low (
            0,
            record {
              issued_is = refl;
              begins = omega (arith, text_some r size fits laws);
              flow_is = refl;
              piece_is = refl;
            },
            free,
          );
        }

-- A good reply

module _ (current : Current) (request : IsRequest current.cutter.source)
    (some : 1 ≤ current.cutter.size) (once : current.repeat ≡ false)
  where
    abbrev reads : Bool
    reads = is_read current.cutter.source

    refusal_stands : (transfer : MasterTransfer) → is_silent transfer ≡ false
        → RequestStands (Some (current_after_refusal current)) transfer
    refusal_stands transfer known =
        (record { request = request; some = some; repeat = once; at = refl }, known)

    busy_stands : (busy limit : ℕ)
        → RequestStands (Some (current_after_busy busy limit current)) (watch.Asked reads)
    busy_stands busy limit =
        (record { request = request; some = some; repeat = once; at = refl }, refl)

    -- a whole text
    text_stands : (text : List ℕ) (fault : Option IsduFault)
        → EffectStands (effect_of_text text fault current)
        (if is_some fault then watch.Refused else watch.Quiet)
    text_stands text None = refl
    text_stands text (Some fault) = refusal_stands watch.Refused refl

    -- a segment was taken
    taken_stands : (received : ℕ) (octets : List ℕ) (at : Stage) → stage octets ≡ at
        → let t : JoinStep = stage_step (count_at received) octets at in
        EffectStands (effect_of_segment received t.took t.joining current)
        (transfer_in_answer reads octets (count_at received))
    taken_stands received octets Open is =
        let short : length octets ≤ 238 = open_short octets is in
        let answered : transfer_in_answer reads octets (count_at received)
        ≡ watch.Answered reads (record { items = octets }) (count_at received) =
        grind (arith, nat_tests, is, short) in
        rw answered (
          record {
            request = request;
            some = some;
            repeat = once;
            at = (record { started = refl; count = refl; open_text = is }, inl refl);
          },
          refl,
        )
    taken_stands received octets (Complete text) is =
        let ended : transfer_in_answer reads octets (count_at received)
        ≡ (if is_some (answer_fault reads text) then watch.Refused else watch.Quiet) =
        grind (arith, is) in
        rw ended (text_stands text (answer_fault reads text))
    taken_stands received octets Wrong is =
        let refused : transfer_in_answer reads octets (count_at received) ≡ watch.Refused =
        grind (arith, is) in
        rw refused (refusal_stands watch.Refused refl)

    -- the reply to a START read
    start_by : (busies nothing : Bool) (busy limit : ℕ) (od : List ℕ)
        → (slice_index od 0 == 1) ≡ busies → (slice_index od 0 == 0) ≡ nothing
        → EffectStands (effect_of_start_read busy limit od current) (asked_after_reply reads od)
    start_by true nothing busy limit od is none =
        rw is (busy_stands (one_more_busy busy) limit)
    start_by false true busy limit od is none =
        rw (is, none) (refusal_stands watch.Refused refl)
    start_by false false busy limit od is none =
        rw (is, none) (taken_stands 0 od (stage od) refl)

    start_stands : (busy limit : ℕ) (od : List ℕ)
        → EffectStands (effect_of_start_read busy limit od current) (asked_after_reply reads od)
    start_stands busy limit od =
        start_by (slice_index od 0 == 1) (slice_index od 0 == 0) busy limit od refl refl

    -- zeros that may be none of it
    ended_stands : (effect : ReplyEffect) (zeros : Bool) (updated : MasterTransfer)
        → EffectStands effect updated
        → EffectStands effect (if zeros then ended_by_zeros updated else updated)
    ended_stands effect false updated stands = stands
    ended_stands (GoesOn next) true updated stands = grind (arith, stands.1, stands.0)
    ended_stands (HasText text) true updated stands = grind (arith, stands)

    ended_known : (updated : MasterTransfer) → is_silent (ended_by_zeros updated) ≡ false
    ended_known updated = grind arith

    forgotten_zeros : (took : Result Took JoinFault) (od : List ℕ)
        → forgotten_by took od ≡ true → are_zeros od ≡ true
    forgotten_zeros took od e = grind arith

    next_taken : (received : ℕ) (j : Joining) (od : List ℕ) → Joins j received
        → join_step j (Count (segment_number (received + 1))) od
        ≡ stage_step (count_at (suc received)) (j.text ++ od) (stage (j.text ++ od))
    next_taken received j od h =
        grind (arith, nat_tests, common_steps, h.started, h.count, h.open_text)

    -- the reply to a COUNT read
    count_by : (forgot : Bool) (repeat : Bool) (joining : Joining) (received : ℕ) (od : List ℕ)
        (updated : MasterTransfer) (t : JoinStep) → Joins joining received
        → t ≡ stage_step (count_at (suc received)) (joining.text ++ od) (stage (joining.text ++ od))
        → updated ≡ transfer_in_answer reads (joining.text ++ od) (count_at (suc received))
        → (repeat && forgotten_by t.took od) ≡ forgot
        → EffectStands (if forgot then GoesOn (current_after_refusal current)
        else effect_of_segment (received + 1) t.took t.joining current)
        (if are_zeros od then ended_by_zeros updated else updated)
    count_by true repeat joining received od updated t joins is same forgot =
        let zeros : are_zeros od ≡ true =
        forgotten_zeros t.took od (grind (arith, forgot)) in
        rw zeros (refusal_stands (ended_by_zeros updated) (ended_known updated))
    count_by false repeat joining received od updated t joins is same forgot =
        rw (is, same, add-one received)
        (ended_stands _ (are_zeros od) _
        (taken_stands (suc received) (joining.text ++ od) (stage (joining.text ++ od)) refl))

    count_stands : (repeat : Bool) (joining : Joining) (received : ℕ) (od : List ℕ)
        (transfer : MasterTransfer) → Joins joining received
        → IsAsking repeat reads joining (Some (segment_number (suc received))) transfer
        → EffectStands (effect_of_count_read repeat joining (received + 1) od current)
        (transfer_after_reply transfer od)
    count_stands repeat joining received od transfer joins (inl asked) =
        rw (asked.0, asked.1, next_taken received joining od joins, add-one received)
        (taken_stands (suc received) (joining.text ++ od) (stage (joining.text ++ od)) refl)
    count_stands repeat joining received od transfer joins (inr asked) =
        let t : JoinStep = join_step joining (Count (segment_number (received + 1))) od in
        rw asked (count_by (repeat && forgotten_by t.took od) repeat joining received od
        (transfer_in_answer reads (joining.text ++ od) (count_at (suc received))) t joins
        (next_taken received joining od joins) refl refl)

-- The next segment was sent

module _ (size : ℕ) (r : Request) (issued : ℕ) (request : IsRequest r) (some : 1 ≤ size)
    (repeat : Bool) (once : repeat ≡ false) (abort : Option Cause) (i : ℕ) (is : issued ≡ suc i)
  where
    abbrev sent_on : Current
    sent_on = current_after_segment (record {
      cutter = record { source = r; size = size; issued = issued };
      progress = Asking 0;
      repeat = repeat;
      abort = abort;
    })

    sent_by : (more : Bool) → nat_lt (suc i * size) (length (request_text r)) ≡ more
        → RequestStands (Some sent_on) (sent_up_to size r i)
    sent_by true e = rw (is, e) (
      record {
        request = request;
        some = some;
        repeat = once;
        at = (
          suc i,
          record {
            issued_is = grind arith;
            begins = grind (arith, nat_tests, e);
            flow_is = refl;
            piece_is = refl;
          },
          refl,
        );
      },
      refl,
    )
    sent_by false e =
        rw (is, e) (record { request = request; some = some; repeat = once; at = refl }, refl)

-- What the good reply to its message makes of both

abbrev pub request_heard : RequestProgress → MasterTransfer → List ℕ → MasterTransfer
request_heard (Sending flow piece) transfer od = transfer
request_heard progress transfer od = transfer_after_reply transfer od

module _ (current : Current) (request : IsRequest current.cutter.source)
    (some : 1 ≤ current.cutter.size) (once : current.repeat ≡ false)
  where
    open current use {cutter}

    -- the one segment goes out anew
    anew_stands : cutter.issued ≡ 1 → 0 < length (request_text cutter.source)
        → RequestStands (Some (sent_anew current)) watch.Undecided
    anew_stands one long =
        let low : nat_lt (0 * cutter.size) (length (request_text cutter.source)) ≡ true =
        grind (arith, nat_tests, long) in
        rw (one, low) (
          record {
            request = request;
            some = some;
            repeat = once;
            at = (
              0,
              record {
                issued_is = refl;
                begins = omega (arith, long);
                flow_is = refl;
                piece_is = refl;
              },
              refl,
            );
          },
          refl,
        )

    not_nothing : (od : List ℕ) → (slice_index od 0 == 0) ≡ false
        → doubted_updated (is_read cutter.source) od ≡ asked_after_reply (is_read cutter.source) od
    not_nothing od is = grind (arith, is)

    nothing_decided : (od : List ℕ) → (slice_index od 0 == 0) ≡ true
        → doubted_updated (is_read cutter.source) od ≡ watch.Undecided
    nothing_decided od is = grind (arith, is)

    question_by : (nothing repeat : Bool) (limit : ℕ) (od : List ℕ)
        → (slice_index od 0 == 0) ≡ nothing
        → cutter.issued ≡ 1 → 0 < length (request_text cutter.source)
        → EffectStands (if nothing && not repeat then GoesOn (sent_anew current)
        else effect_of_start_read 0 limit od current)
        (transfer_after_reply (if repeat then watch.Asked (is_read cutter.source)
        else watch.Doubted (is_read cutter.source)) od)
    question_by true true limit od is one long = start_stands current request some once 0 limit od
    question_by false true limit od is one long = start_stands current request some once 0 limit od
    question_by true false limit od is one long =
        subst (EffectStands (GoesOn (sent_anew current))) (sym (nothing_decided od is))
        (anew_stands one long)
    question_by false false limit od is one long =
        subst (EffectStands (effect_of_start_read 0 limit od current)) (sym (not_nothing od is))
        (start_stands current request some once 0 limit od)

    replied_stands : (progress : RequestProgress) (repeat : Bool) (limit : ℕ) (od : List ℕ)
        (transfer : MasterTransfer) → ProgressOut cutter repeat progress transfer
        → EffectStands (replied_at progress repeat limit od current)
        (request_heard progress transfer od)
    replied_stands (Sending flow piece) repeat limit od transfer (i, issued, is) =
        rw is (sent_by cutter.size cutter.source cutter.issued request some current.repeat once
        current.abort i
        issued.issued_is (nat_lt (suc i * cutter.size) (length (request_text cutter.source))) refl)
    replied_stands Doubting repeat limit od transfer (one, long, is) =
        rw is (question_by (slice_index od 0 == 0) repeat limit od refl one long)
    replied_stands (Asking busy) repeat limit od transfer is =
        rw is (start_stands current request some once busy limit od)
    replied_stands (Receiving joining received) repeat limit od transfer (joins, asked) =
        count_stands current request some once repeat joining received od transfer joins asked
    replied_stands Refused repeat limit od transfer out = absurd out

pub reply_stands : (current : Current) (transfer : MasterTransfer) (limit : ℕ) (od : List ℕ)
    → RequestOut current transfer
    → EffectStands (effect_of_reply limit od current)
    (request_heard current.progress transfer od)
reply_stands current transfer limit od out =
    replied_stands (record current { repeat = false }) out.request out.some refl current.progress
    current.repeat limit od transfer out.at

-- No good reply: its message goes out again

repeat_out : (cutter : Cutting Request) (repeat : Bool) (progress : RequestProgress)
    (transfer : MasterTransfer) → ProgressOut cutter repeat progress transfer
    → ProgressOut cutter true progress (transfer_after_repeat transfer)
repeat_out cutter repeat (Sending flow piece) transfer (i, issued, is) =
    (i, issued, grind (arith, is))
repeat_out cutter repeat Doubting transfer (one, long, is) = (one, long, grind (arith, is))
repeat_out cutter repeat (Asking busy) transfer is = rw is refl
repeat_out cutter repeat (Receiving joining received) transfer (joins, inl asked) =
    (joins, inr (rw asked.1 refl))
repeat_out cutter repeat (Receiving joining received) transfer (joins, inr asked) =
    (joins, inr (rw asked refl))
repeat_out cutter repeat Refused transfer out = absurd out

-- at a port for any device that is noted
pub noted_out : (current : Current) (transfer : MasterTransfer) → RequestOut current transfer
    → RequestOut (record current { repeat = true }) (transfer_after_repeat transfer)
noted_out current transfer out = record {
  request = out.request;
  some = out.some;
  at = repeat_out current.cutter current.repeat current.progress transfer out.at;
}

-- and at one for our own it isn't, where nothing is in doubt
unnoted_out : (cutter : Cutting Request) (repeat : Bool) (progress : RequestProgress)
    (transfer : MasterTransfer) → is_doubting progress ≡ false
    → ProgressOut cutter repeat progress transfer
    → ProgressOut cutter repeat progress (transfer_after_repeat transfer)
unnoted_out cutter repeat (Sending flow piece) transfer sure (i, issued, is) =
    (i, issued, grind (arith, is))
unnoted_out cutter repeat Doubting transfer sure out = grind (arith, sure)
unnoted_out cutter repeat (Asking busy) transfer sure is = rw is refl
unnoted_out cutter repeat (Receiving joining received) transfer sure (joins, inl asked) =
    (joins, inr (rw asked.1 refl))
unnoted_out cutter repeat (Receiving joining received) transfer sure (joins, inr asked) =
    (joins, inr (rw asked refl))
unnoted_out cutter repeat Refused transfer sure out = absurd out

pub still_out : (current : Current) (transfer : MasterTransfer)
    → is_doubting current.progress ≡ false → RequestOut current transfer
    → RequestOut current (transfer_after_repeat transfer)
still_out current transfer sure out = record {
  request = out.request;
  some = out.some;
  at = unnoted_out current.cutter current.repeat current.progress transfer sure out.at;
}

-- or a question goes out in place of the whole request
whole_asked : (cutter : Cutting Request) (repeat : Bool) (progress : RequestProgress)
    (transfer : MasterTransfer) → is_whole_out cutter progress ≡ true
    → ProgressOut cutter repeat progress transfer
    → (transfer ≡ watch.Asked (is_read cutter.source)) × (cutter.issued ≡ 1)
    × (0 < length (request_text cutter.source))
whole_asked cutter repeat (Sending Start piece) transfer whole (zero, issued, is) = (
  grind (arith, nat_tests, is, whole, issued.issued_is),
  issued.issued_is,
  grind (arith, issued.begins),
)
whole_asked cutter repeat (Sending Start piece) transfer whole (suc i, issued, is) =
    grind (arith, nat_tests, issued.flow_is)
whole_asked cutter repeat progress transfer whole out = grind (arith, whole)

pub doubted_out : (current : Current) (transfer : MasterTransfer)
    → is_whole_out current.cutter current.progress ≡ true → RequestOut current transfer
    → (transfer ≡ watch.Asked (is_read current.cutter.source))
    × RequestOut (record current { progress = Doubting; repeat = false })
    (watch.Doubted (is_read current.cutter.source))
doubted_out current transfer whole out =
    let asked = whole_asked current.cutter current.repeat current.progress transfer whole
    out.at in (
      asked.0,
      record { request = out.request; some = out.some; at = (asked.1, asked.2, refl) },
    )

-- Its next message

abbrev pub IsDueNext : RequestProgress → Type 0
IsDueNext Refused = ⊥
IsDueNext progress = ⊤

-- the message of another purpose goes out again
pub repeat_stands : (current : Option Current) (transfer : MasterTransfer)
    → RequestStands current transfer → RequestStands current (transfer_after_repeat transfer)
repeat_stands None transfer free = grind (arith, free)
repeat_stands (Some current) transfer (goes, known) = (
  record {
    request = goes.request;
    some = goes.some;
    repeat = goes.repeat;
    at = repeat_goes current.cutter current.abort current.progress transfer goes.at;
  },
  grind (arith, known),
)
  where
    repeat_goes : (cutter : Cutting Request) (abort : Option Cause) (progress : RequestProgress)
        (transfer : MasterTransfer) → ProgressGoes cutter abort progress transfer
        → ProgressGoes cutter abort progress (transfer_after_repeat transfer)
    repeat_goes cutter abort (Sending flow piece) transfer (zero, issued, waits) =
        (zero, issued, grind (arith, waits))
    repeat_goes cutter abort (Sending flow piece) transfer (suc i, issued, waits) =
        (suc i, issued, rw waits refl)
    repeat_goes cutter abort Doubting transfer at = absurd at
    repeat_goes cutter abort (Asking busy) transfer at = rw at refl
    repeat_goes cutter abort (Receiving joining received) transfer (joins, inl is) =
        (joins, inr (rw is refl))
    repeat_goes cutter abort (Receiving joining received) transfer (joins, inr is) =
        (joins, inr (rw is refl))
    repeat_goes cutter abort Refused transfer at = at

flow_fits : (i : ℕ) → IsFlow (flow_at i)
flow_fits zero = tt
flow_fits (suc i) = grind (arith, nat_tests)

number_fits : (n : ℕ) → IsFlow (Count (segment_number n))
number_fits n = omega arith

-- where its next message is due, the watch takes it
abbrev pub SentOn : Current → MasterTransfer → MasterTransfer → Type 0
SentOn current before after =
    (transfer_after_message true before (progress_head current.progress).read
    (flow_of (progress_head current.progress).address) (progress_data current.progress) ≡ Ok after)
    × RequestOut current after

module _ (laws : (size : ℕ) → 1 ≤ size → TextLaws size) where
  next_by : (current : Current) (progress : RequestProgress) (before : MasterTransfer)
      → IsRequest current.cutter.source → 1 ≤ current.cutter.size → current.repeat ≡ false
      → ProgressGoes current.cutter current.abort progress before → IsDueNext progress
      → (after : MasterTransfer)
      × (transfer_after_message true before (progress_head progress).read
      (flow_of (progress_head progress).address) (progress_data progress) ≡ Ok after)
      × ProgressOut current.cutter current.repeat progress after
  next_by current (Sending flow piece) before request some once (i, issued, waits) due =
      let cutter : Cutting Request = current.cutter in (
        sent_up_to cutter.size cutter.source i,
        rw (issued.flow_is, issued.piece_is, flow_back (flow_at i) (flow_fits i))
            (segment_due cutter.size cutter.source request (laws cutter.size some) i before
            issued.begins waits),
        (i, issued, refl),
      )
  next_by current Doubting before request some once at due = absurd at
  next_by current (Asking busy) before request some once at due = (
    watch.Asked (is_read current.cutter.source),
    rw (at, flow_back Start tt) refl,
    refl,
  )
  next_by current (Receiving joining received) before request some once (joins, answering) due =
      let text : ArrayVec ℕ = record { items = joining.text } in
      let number : ℕ = segment_number (received + 1) in (
        watch.Answered (is_read current.cutter.source) text (Some number),
        rw (flow_back (Count number) (number_fits (received + 1)))
            (asked_next (is_read current.cutter.source) joining received before answering),
        (
          joins,
          inl (
            once,
            ap (λ n. watch.Answered (is_read current.cutter.source) text
                (Some (segment_number n))) (add-one received),
          ),
        ),
      )
    where
      asked_next : (read : Bool) (joining : Joining) (received : ℕ) (before : MasterTransfer)
          → IsAnswering read joining (count_at received) before
          → transfer_after_message true before true (Count (segment_number (received + 1))) []
          ≡ Ok (watch.Answered read (record { items = joining.text })
          (Some (segment_number (received + 1))))
      asked_next read joining received before (inl is) =
          grind (arith, nat_tests, is, counts_on received, add-one received)
      asked_next read joining received before (inr is) =
          grind (arith, nat_tests, is, counts_on received, add-one received)
  next_by current Refused before request some once at due = absurd due

  pub next_due : (current : Current) (before : MasterTransfer) → RequestGoes current before
      → IsDueNext current.progress → (after : MasterTransfer) × SentOn current before after
  next_due current before goes due =
      let next = next_by current current.progress before goes.request goes.some goes.repeat goes.at
      due in (
        next.0,
        (next.1, record { request = goes.request; some = goes.some; at = next.2 }),
      )
