-- What always holds of a session.
-- For the clauses of `PortSession::absorb`, `PortSession::miss_confirm`,
--     `PortSession::miss_request` and 9 more.
use Rattle.std.proofs.lemmas.Grind.{common_steps}
use Rattle.std.proofs.lemmas.Bool.Decides.{nat_tests}
use Rattle.std.proofs.Common.{◌≡◌, ℕ, ◌+◌, ◌%◌, ◌<◌, ◌≤◌, Bool, true, false, ◌&&◌, ◌==◌, Result, if◌then◌else◌, List, length, refl, sym, ap, subst, ◌∙◌, arith, Option, Some, None}
use Rattle.std.specs.Prelude.{not, slice_index, IfSome, unwrap_or}
use Rattle.std.proofs.lemmas.List.{length-append}
use Rattle.iol_mseq.specs.Shape.{Shape, IsLayout}
use Rattle.iol_mseq.specs.Master.{HasMasterParts}
use Rattle.iol_mseq.specs.Replies.{answered_od}
use Rattle.iol_mseq.specs.declared.reply.Reply.{Reply}
use Rattle.iol_mseq.specs.declared.master.MasterMsg.{MasterMsg}
use Rattle.iol_isdu.specs.declared.values.Request.{Request}
use Rattle.iol_isdu.specs.Texts.{request_front}
use Rattle.iol_mseq.specs.Parts.{first_of_zeros}
use Rattle.iol_segment.specs.Cut.{Cutting}
use Rattle.iol_segment.specs.Join.{Joining, join_step}
use Rattle.arrayvec.specs.ArrayVec.{ArrayVec}
use Rattle.iol_octets.specs.Control.{control_of}
use Rattle.iol_octets.specs.declared.flow_control.Flow.{Flow}
use Rattle.iol_octets.specs.declared.flow_control.Flow.TheVariants.{Start, Count}
use Rattle.iol_segment.specs.declared.took.Took.{Took}
use Rattle.iol_isdu.specs.Answers.{is_read}
use Rattle.iol_isdu.specs.declared.fault.IsduFault.{IsduFault}
use Rattle.iol_segment.specs.declared.took.JoinFault.{JoinFault}
use Rattle.iol_app.specs.declared.output.OutputState.{OutputState}
use Rattle.iol_app.specs.declared.event_work.ReadingProgress.{ReadingProgress}
use Rattle.iol_app.specs.declared.request.Current.{Current}
use Rattle.iol_app.specs.declared.request.RequestProgress.{RequestProgress}
use Rattle.iol_app.specs.declared.request.RequestProgress.TheVariants.{Sending, Doubting, Asking, Receiving, Refused}
use Rattle.iol_app.specs.declared.session.Purpose.{Purpose}
use Rattle.iol_app.specs.declared.session.Purpose.TheVariants.{Abort, Request as NextMessage}
use Rattle.iol_app.specs.declared.report.Said.{Said}
use Rattle.iol_app.specs.Outputs.{output_to_carry, IsOutput}
use Rattle.iol_app.specs.Requests.{text_of, ReplyEffect, GoesOn, effect_of_start_read, effect_of_question, sent_anew, effect_of_text, effect_of_segment, forgotten_by, current_after_refusal, segment_progress, is_doubting, replied_at, effect_of_reply, current_of_effect, current_after, request_under_way, request_after, IsEffectReport, IsReport, Suits, CutAndJoinFit, IsAllIssued, IsCurrent, IsSure}
use Rattle.iol_app.specs.State.{SessionState, IsSession, od_size, known_output_length, session_after_exchange}
use Rattle.iol_octets.specs.declared.control.Channel.TheVariants.{Diagnosis}
use Rattle.iol_app.specs.Messages.{Head, ask_of, read_head, read_with, question, check, head_of, head_for, data_for, progress_head, progress_data}
use Rattle.iol_app.proofs.Cutting.{length-segment, is_pair, issued_goes_on, sent_on_fits}
use Rattle.iol_app.proofs.Joining.{StaysCurrent, refused_stays, joined_stays, received_stays}

-- a text has an octet
pub text_some : (cutter : Cutting Request) → 0 < length (text_of cutter)
text_some cutter = let whole = length-append (request_front cutter.source) in omega (arith, whole)

-- what holds of both holds of either
either : (P : ReplyEffect → Type 0) (b : Bool) (x y : ReplyEffect) → P x → P y
    → P (if b then x else y)
either P true x y h k = h
either P false x y h k = k

-- the one segment of a request is all of it
one_issued : (cutter : Cutting Request) → CutAndJoinFit cutter None Doubting
    → IsAllIssued cutter.size (text_of cutter) 1
one_issued cutter h = grind (arith, common_steps, nat_tests, text_some)

-- and goes out anew
anew_stays : (current : Current) → IsCurrent current
    → CutAndJoinFit current.cutter current.abort Doubting
    → StaysCurrent current.cutter (GoesOn (sent_anew current))
anew_stays current h whole = grind (arith, common_steps)

-- the reply to a START read
asked_stays : (current : Current) (busy limit : ℕ) (od : List ℕ) → IsCurrent current
    → CutAndJoinFit current.cutter current.abort (Asking busy) → length od ≡ current.cutter.size
    → StaysCurrent current.cutter (effect_of_start_read busy limit od current)
asked_stays current busy limit od h all size =
    grind (arith, common_steps, refused_stays, joined_stays)

-- on-request data of the reply to a message of the request that was a read
abbrev pub IsAnswered : ℕ → RequestProgress → List ℕ → Type 0
IsAnswered size p od = (progress_head p).read ≡ true → length od ≡ size

-- the reply to the question whether the device has the one segment
doubted_stays : (current : Current) (repeat : Bool) (limit : ℕ) (od : List ℕ) → IsCurrent current
    → CutAndJoinFit current.cutter current.abort Doubting → length od ≡ current.cutter.size
    → StaysCurrent current.cutter (effect_of_question repeat limit od current)
doubted_stays current repeat limit od h whole size =
    let all : CutAndJoinFit current.cutter current.abort (Asking 0) =
    rw whole.0 (one_issued current.cutter whole) in
    either (StaysCurrent current.cutter) ((slice_index od 0 == 0) && not repeat) _ _
    (anew_stays current h whole) (asked_stays current 0 limit od h all size)

-- no good reply leaves anything in doubt
abbrev IsGoingSure : ReplyEffect → Type 0
IsGoingSure outcome = IfSome (current_of_effect outcome) IsSure

finished_sure : (current : Current) (text : List ℕ) (fault : Option IsduFault)
    → current.repeat ≡ false → IsGoingSure (effect_of_text text fault current)
finished_sure current text fault sure = grind (arith, common_steps)

joined_sure : (current : Current) (last : ℕ) (took : Result Took JoinFault) (joining : Joining)
    → current.repeat ≡ false → IsGoingSure (effect_of_segment last took joining current)
joined_sure current last took joining sure = grind (arith, common_steps, finished_sure)

sending_sure : (piece : Option (Flow × ArrayVec ℕ)) → is_doubting (segment_progress piece) ≡ false
sending_sure piece = grind (arith, common_steps)

asked_sure : (current : Current) (busy limit : ℕ) (od : List ℕ)
    → current.repeat ≡ false → IsGoingSure (effect_of_start_read busy limit od current)
asked_sure current busy limit od sure = grind (arith, common_steps, joined_sure)

replied_sure : (p : RequestProgress) (repeat : Bool) (limit : ℕ) (od : List ℕ) (current : Current)
    → current.repeat ≡ false → current.progress ≡ p
    → IsGoingSure (replied_at p repeat limit od current)
replied_sure (Sending flow segment) repeat limit od current sure is = (sure, sending_sure _)
replied_sure Doubting repeat limit od current sure is =
    either IsGoingSure ((slice_index od 0 == 0) && not repeat) _ _ (sure, sending_sure _)
    (asked_sure current 0 limit od sure)
replied_sure (Asking busy) repeat limit od current sure is = asked_sure current busy limit od sure
replied_sure (Receiving joining last) repeat limit od current sure is =
    let t = join_step joining (Count ((last + 1) % 16)) od in
    either IsGoingSure (repeat && forgotten_by t.took od)
    (GoesOn (current_after_refusal current)) _ (sure, refl)
    (joined_sure current (last + 1) t.took t.joining sure)
replied_sure Refused repeat limit od current sure is = (sure, ap is_doubting is)

replied_stays : (current : Current) (p : RequestProgress) (repeat : Bool) (limit : ℕ) (od : List ℕ)
    → IsCurrent current → current.progress ≡ p → IsAnswered current.cutter.size p od
    → StaysCurrent current.cutter (replied_at p repeat limit od current)
replied_stays current p repeat limit od h e size =
    grind (
      arith,
      common_steps,
      asked_stays,
      doubted_stays,
      received_stays,
      sent_on_fits,
      issued_goes_on,
      text_some,
    )

-- The request under way after a reply, and what is said of it

abbrev pub StaysGoing : ℕ → Option Current → Type 0
StaysGoing size current = IfSome current IsCurrent × IfSome current (λ c. c.cutter.size ≡ size)

going_stays : (cutter : Cutting Request) (outcome : ReplyEffect) → StaysCurrent cutter outcome
    → StaysGoing cutter.size (current_of_effect outcome)
going_stays cutter outcome h = grind (arith, common_steps)

going_request : (cutter : Cutting Request) (read : Bool) (outcome : ReplyEffect) (report : Said)
    → StaysCurrent cutter outcome → IsEffectReport read outcome report
    → request_under_way (current_of_effect outcome) ≡ request_after (Some cutter.source) report
going_request cutter read outcome report stays h = grind (arith, common_steps)

module _ (layout : Option Shape) (reading : ReadingProgress) (limit : ℕ) (od : List ℕ) where
  abbrev Fits : Purpose → Option Current → Type 0
  Fits exchange current = IfSome layout
      (λ l. length od ≡ answered_od l (head_for exchange reading current).read)

  stays : (current : Current) → IsCurrent current → current.cutter.size ≡ od_size layout
      → Fits NextMessage (Some current)
      → StaysCurrent current.cutter (effect_of_reply limit od current)
  stays current h size fits =
      let answered : IsAnswered current.cutter.size current.progress od =
      grind (arith, common_steps) in
      replied_stays (record current { repeat = false }) current.progress current.repeat limit od
      (record { request = h.request; some = h.some; most = h.most; progress = h.progress }) refl
      answered

  pub current_stays : (exchange : Purpose) (current : Option Current)
      → IfSome current IsCurrent → IfSome current (λ c. c.cutter.size ≡ od_size layout)
      → Fits exchange current
      → StaysGoing (od_size layout) (current_after exchange limit od current)
  current_stays exchange None h size fits = (tt, tt)
  current_stays Abort (Some current) h size fits = (tt, tt)
  current_stays NextMessage (Some current) h size fits =
      subst (λ (n : ℕ). StaysGoing n (current_of_effect (effect_of_reply limit od current))) size
      (going_stays current.cutter (effect_of_reply limit od current) (stays current h size fits))
  current_stays any (Some current) h size fits = (h, size)

  pub current_request : (exchange : Purpose) (current : Option Current) (report : Said)
      → IfSome current IsCurrent → IfSome current (λ c. c.cutter.size ≡ od_size layout)
      → Fits exchange current
      → Suits exchange current → IsReport exchange limit od current report
      → request_under_way (current_after exchange limit od current)
      ≡ request_after (request_under_way current) report
  current_request exchange None report h size fits suits report_is =
      ap (request_after None) (sym report_is)
  current_request Abort (Some current) report h size fits suits report_is =
      grind (arith, common_steps)
  current_request NextMessage (Some current) report h size fits suits report_is =
      going_request current.cutter (is_read current.cutter.source)
      (effect_of_reply limit od current) report
      (stays current h size fits) report_is
  current_request any (Some current) report h size fits suits report_is =
      ap (request_after (Some current.cutter.source)) (sym report_is)

-- a session that takes up a good reply
pub absorbed_stays : (s : SessionState) (exchange : Purpose) (reply : Reply) → IsSession s
    → IfSome s.layout (λ layout. length reply.od.items
    ≡ answered_od layout (head_for exchange s.events.reading s.current).read)
    → IsSession (session_after_exchange exchange reply s)
absorbed_stays s exchange reply h fits =
    let going = current_stays s.layout s.events.reading s.limit reply.od.items exchange
    s.current h.current h.size fits in
    record {
      layout = h.layout;
      output = grind (arith, common_steps);
      current = going.0;
      size = going.1;
      out = tt;
      sure = λ own. grind (arith, common_steps, replied_sure);
    }

-- A new message has the parts of the layout

carried_length : (size : ℕ) (wanted : Option (List ℕ)) (carried : List ℕ)
    → length carried ≡ size → IfSome wanted (λ image. length image ≡ size)
    → length (unwrap_or wanted carried) ≡ size
carried_length size wanted carried e h = grind (arith, common_steps)

length-first_of_zeros : (size octet : ℕ) → 1 ≤ size → length (first_of_zeros size octet) ≡ size
length-first_of_zeros size octet some = grind (arith, common_steps)

-- of the size of on-request data in a write, and none in a read
abbrev IsData : ℕ → Bool → List ℕ → Type 0
IsData size read od = length od ≡ (if read then 0 else size)

progress_data_length : (current : Current) (p : RequestProgress) → current.progress ≡ p
    → IsCurrent current → IsData current.cutter.size (progress_head p).read (progress_data p)
progress_data_length current p e h = grind (arith, common_steps, is_pair, length-segment)

data_length : (exchange : Purpose) (size : ℕ) (reading : ReadingProgress) (current : Option Current)
    → 1 ≤ size → IfSome current IsCurrent → IfSome current (λ c. c.cutter.size ≡ size)
    → IsData size (head_for exchange reading current).read (data_for exchange size current)
data_length exchange size other current some h same =
    grind (arith, common_steps, length-first_of_zeros, progress_data_length)

pub parts_fit : (layout : Shape) (output : OutputState) (reading : ReadingProgress)
    (current : Option Current) (exchange : Purpose) (message : MasterMsg) {size : Option Shape}
    → size ≡ Some layout → IfSome size IsLayout → IsOutput (known_output_length size) output
    → IfSome current IsCurrent → IfSome current (λ c. c.cutter.size ≡ od_size size)
    → head_of message.mc ≡ head_for exchange reading current
    → message.od.items ≡ data_for exchange layout.od current
    → message.out.items ≡ output_to_carry output → IfSome size (λ l. HasMasterParts l message)
parts_fit layout output going current exchange message has_layouts valid sized fits same head od
    out =
    let some = rw has_layouts at valid in
    let carried = rw has_layouts at sized in
    rw has_layouts (record {
      out = rw out (carried_length layout.pd_out output.wanted output.carried.items
          carried.carried carried.wanted);
      od = rw od (data_length exchange layout.od going current
          (grind (arith, common_steps, some)) fits (rw has_layouts at same))
          ∙ ap (λ (head : Head). if head.read then 0 else layout.od) (sym head);
    })

-- The question in place of a message that holds a whole text

pub question_head : (out : List ℕ) → head_of (question out).mc ≡ ask_of Start
unfolding control_of
question_head out = refl

-- and the read of the StatusCode in place of a confirm
pub check_head : (out : List ℕ) → head_of (check out).mc ≡ read_head Diagnosis 0
unfolding control_of
check_head out = refl

-- have the parts of the layout too
read_parts : (control : ℕ) → (control_of control).read ≡ true → (size : Option Shape)
    (output : OutputState) → IsOutput (known_output_length size) output
    → IfSome size (λ layout. HasMasterParts layout (read_with control output.carried.items))
read_parts control is None output h = tt
read_parts control is (Some layout) output h = record {
  out = h.carried;
  od = ap (λ (b : Bool). if b then 0 else layout.od) (sym is);
}

pub question_parts : (size : Option Shape) (output : OutputState)
    → IsOutput (known_output_length size) output
    → IfSome size (λ layout. HasMasterParts layout (question output.carried.items))
question_parts size output h =
    read_parts 0xF0 (ap (λ x. x.read) (question_head output.carried.items)) size output h

pub check_parts : (size : Option Shape) (output : OutputState)
    → IsOutput (known_output_length size) output
    → IfSome size (λ layout. HasMasterParts layout (check output.carried.items))
check_parts size output h =
    read_parts 0xC0 (ap (λ x. x.read) (check_head output.carried.items)) size output h
