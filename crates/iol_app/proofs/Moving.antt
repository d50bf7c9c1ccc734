-- Each new message is the move that the request's progress asks for, and a good reply brings the
-- request on by it.
-- For the clauses of `laws::messages_are_moves`, `Core::abort`, `Core::begin` and 8 more.
use Rattle.std.proofs.lemmas.Grind.{common_steps}
use Rattle.std.proofs.Common.{◌≡◌, ℕ, zero, suc, ◌%◌, ◌≤◌, Bool, true, false, [], refl, sym, ap, ◌∙◌, arith, Option, Some, None, List}
use Rattle.std.specs.Prelude.{nat_lt, ◌==◌, IfSome, if◌then◌else◌}
use Rattle.std.proofs.lemmas.Bool.Decides.{nat_tests}
use Rattle.std.proofs.Math.Numerals.{add-one}
use Rattle.arrayvec.specs.ArrayVec.{ArrayVec}
use Rattle.iol_octets.specs.declared.control.Channel.TheVariants.{Isdu}
use Rattle.iol_octets.specs.declared.flow_control.Flow.{Flow}
use Rattle.iol_octets.specs.declared.flow_control.Flow.TheVariants.{Start, Count}
use Rattle.iol_octets.specs.Flow.{flow_address}
use Rattle.iol_isdu.specs.declared.values.Request.{Request}
use Rattle.iol_isdu.specs.Answers.{is_read}
use Rattle.iol_isdu.specs.Texts.{IsRequest, request_text}
use Rattle.iol_segment.specs.Cut.{Cutting, pair, segment, flow_at, last_issued}
use Rattle.iol_segment.specs.Join.{stage}
use Rattle.iol_segment.specs.TextLaws.{TextLaws}
use Rattle.iol_far.specs.Codec.{flow_of}
use Rattle.iol_far.specs.Isdu.{answer_text_to}
use Rattle.iol_far.specs.SegmentLaws.{AnswersFit}
use Rattle.iol_far.specs.declared.kind.Recalls.{Recalls}
use Rattle.iol_far.specs.Level.{Progress, Move, Begin, Ask, IsMove, IsIdle, Busy, progress_after_ask, after}
use Rattle.iol_mode.specs.declared.configuration.Devices.{Devices}
use Rattle.iol_app.specs.declared.request.Current.{Current}
use Rattle.iol_app.specs.declared.request.RequestProgress.{RequestProgress}
use Rattle.iol_app.specs.declared.request.RequestProgress.TheVariants.{Sending, Doubting, Asking, Receiving, Refused}
use Rattle.iol_app.specs.declared.session.Purpose.TheVariants.{Request as NextMessage}
use Rattle.iol_app.specs.Requests.{text_of, segment_progress, IsAllIssued, IsJoining, IsCurrent, current_after_segment, one_more_busy, IsUnsent}
use Rattle.iol_app.specs.Messages.{Head, progress_head, progress_data, request_head, request_data}
use Rattle.iol_app.specs.Moves.{progress_at_begin, before_last, asked_for, progress_of, progress_at, segment_move, move_at, request_move, MessagesAreMoves}
use Rattle.iol_app.specs.Ends.{BusyAt}
use Rattle.iol_app.proofs.Joining.{more_follow}
use Rattle.iol_app.proofs.Cutting.{is_pair}

-- The flow of a COUNT

flow_of_count : (n : ℕ) → flow_of (n % 16) ≡ Count (n % 16)
unfolding flow_of
flow_of_count n = let e : nat_lt (n % 16) 0x10 ≡ true = grind (arith, nat_tests) in rw e refl

flow_at_next : (i : ℕ) → flow_at (suc i) ≡ Count (suc i % 16)
flow_at_next i = let other : (suc i == 0) ≡ false = grind (arith, nat_tests) in rw other refl

-- The request's messages

begin_moves : (devices : Devices) (size : ℕ) (request : Request) (octets : List ℕ)
    → IsRequest request → octets ≡ segment size (request_text request) 0
    → IsMove size (Begin request) (progress_at_begin devices) Isdu false Start octets
begin_moves devices size request octets h e = grind (arith, common_steps)

segment_moves : (devices : Devices) (size : ℕ) (request : Request) (flow : Flow)
    (piece : ArrayVec ℕ) (issued : ℕ) → IsRequest request
    → last_issued size (request_text request) issued ≡ Some (flow, piece)
    → IsMove size (segment_move request issued) (before_last devices request issued) Isdu false
    (flow_of (flow_address flow)) piece.items
unfolding flow_of
segment_moves devices size request flow piece zero h e = cc
segment_moves devices size request flow piece (suc zero) h e =
    let is = is_pair size (request_text request) 0 flow piece e in
    rw is.flow_is (begin_moves devices size request piece.items h is.octets)
segment_moves devices size request flow piece (suc (suc i)) h e =
    let is = is_pair size (request_text request) (suc i) flow piece e in
    rw (is.flow_is, flow_at_next i, flow_of_count (suc i)) (is.within, refl, is.octets)

asking_moves : (devices : Devices) (cutter : Cutting Request) (busy : ℕ)
    → IsAllIssued cutter.size (text_of cutter) cutter.issued
    → IsMove cutter.size Ask (asked_for devices cutter busy) Isdu true Start []
asking_moves devices cutter busy h = grind (arith, common_steps)

-- the message of this head and these octets is that move
abbrev Moves : ℕ → Move → Progress → Head → List ℕ → Type 0
Moves size what p head octets =
    IsMove size what p head.channel head.read (flow_of head.address) octets

module _ (fit : AnswersFit) (laws : (size : ℕ) → 1 ≤ size → TextLaws size) where
  module _ (devices : Devices) (current : Current) (h : IsCurrent current) where
    open current use {cutter, cutter.{size, source}}

    progress_moves : (p : RequestProgress) → current.progress ≡ p → Moves size (move_at cutter p)
        (progress_at devices cutter p) (progress_head p) (progress_data p)
    unfolding flow_of
    progress_moves (Sending flow piece) e =
        segment_moves devices size source flow piece cutter.issued h.request (rw e at h.progress)
    progress_moves Doubting e = tt
    progress_moves (Asking busy) e = asking_moves devices cutter busy (rw e at h.progress)
    progress_moves (Receiving joining last) e =
        let joins : IsJoining size last joining = rw e at h.progress in
        let text = laws size h.some in
        rw (add-one last, flow_of_count (suc last)) (
          refl,
          λ answer fitting same. more_follow size text (answer_text_to source answer)
              (text.answers (is_read source) answer (fit source answer fitting)) last
              (ap stage (sym same) ∙ joins.open_text),
        )
    progress_moves Refused e = tt

  request_moves : (size : ℕ) (devices : Devices) (idle : Bool) (current : Option Current)
      → IfSome current IsCurrent → IfSome current (λ c. c.cutter.size ≡ size)
      → Moves size (request_move current) (progress_of devices idle current)
      (request_head current) (request_data current)
  unfolding flow_of
  request_moves size devices idle current h same = grind (arith, common_steps, progress_moves)

  pub messages_are_moves : MessagesAreMoves
  unfolding flow_of
  messages_are_moves s layout NextMessage h has_layouts = request_moves layout.od
      s.configuration.devices s.idle s.current h.current (rw has_layouts at h.size)
  messages_are_moves s layout other h has_layouts = tt

-- A segment of the request was written

-- busy replies are counted from here
pub sent_busy : (doubts : Bool) (cutter : Cutting Request) (b : Bool) (busy : ℕ) → busy ≡ 0
    → BusyAt doubts (segment_progress
    (if b then Some (pair cutter.size (text_of cutter) cutter.issued) else
    None)) busy
sent_busy doubts cutter b busy e = grind (arith, common_steps)

pub sent_follows : (trust : Recalls) (vain : ℕ) (devices : Devices) (idle : Bool)
    (current : Current) (flow : Flow) (piece : ArrayVec ℕ) (od : List ℕ)
    → let cutter : Cutting Request = current.cutter in
    last_issued cutter.size (text_of cutter) cutter.issued ≡ Some (flow, piece)
    → progress_of devices idle (Some (current_after_segment current))
    ≡ after trust vain (before_last devices cutter.source cutter.issued)
    (segment_move cutter.source cutter.issued) od
sent_follows trust vain devices idle current flow piece od h = grind (arith, common_steps)

-- The reply to a START read

pub busy_follows : (devices : Devices) (cutter : Cutting Request) (busy : ℕ)
    → asked_for devices cutter (one_more_busy busy) ≡ Busy cutter.source
busy_follows devices cutter busy = grind (arith, common_steps)

pub asked_after : (trust : Recalls) (vain : ℕ) (devices : Devices) (cutter : Cutting Request)
    (busy : ℕ) (od : List ℕ) → IsAllIssued cutter.size (text_of cutter) cutter.issued
    → after trust vain (asked_for devices cutter busy) Ask od
    ≡ progress_after_ask trust cutter.source od
asked_after trust vain devices cutter busy od h = grind (arith, common_steps)

-- The reply to any other message

pub unsent_idle : (devices : Devices) (idle : Bool) (current : Option Current)
    → IsUnsent current → IsIdle (progress_of devices idle current)
unsent_idle devices idle current h = grind (arith, common_steps)

-- with none under way
pub resting_idle : (devices : Devices) (idle : Bool) → IsIdle (progress_of devices idle None)
resting_idle devices idle = unsent_idle devices idle None tt
