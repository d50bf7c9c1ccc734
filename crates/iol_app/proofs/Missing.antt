-- An attempt without a good reply in OPERATE, where what is out goes out again: that message, or at
-- a port for any device a question in its place, or a check in that of a confirm.
-- For the clauses of `laws::receive_gives`.
use Rattle.std.proofs.lemmas.Grind.{common_steps}
use Rattle.std.proofs.lemmas.Bool.{false≢true}
use Rattle.std.proofs.lemmas.Bool.Decides.{nat_tests}
use Rattle.std.proofs.Common.{arith, ◌≡◌, inl, inr, ℕ, suc, ◌+◌, ◌*◌, ◌≤◌, Bool, true, false, List, [], ◌∷◌, length, refl, sym, ap, subst, ◌∙◌, Option, Some, None}
use Rattle.std.specs.Prelude.{IfSome, if◌then◌else◌, nat_lt, not}
use Rattle.arrayvec.specs.ArrayVec.{ArrayVec}
use Rattle.iol_octets.specs.Control.{control_of}
use Rattle.iol_octets.specs.declared.flow_control.Flow.TheVariants.{Start}
use Rattle.iol_mseq.specs.Master.{HasMasterParts}
use Rattle.iol_mseq.specs.Texts.{master_text}
use Rattle.iol_mseq.specs.declared.master.MasterMsg.{MasterMsg}
use Rattle.iol_page.specs.declared.page.Layouts.{Layouts}
use Rattle.iol_isdu.specs.declared.values.Request.{Request}
use Rattle.iol_isdu.specs.Texts.{request_text}
use Rattle.iol_segment.specs.Cut.{last_issued}
use Rattle.iol_far.specs.declared.carried.Carried.{Carried}
use Rattle.iol_far.specs.declared.kind.Kind.{Kind}
use Rattle.iol_far.specs.declared.kind.HandsOver.{HandsOver}
use Rattle.iol_far.specs.declared.mode.DeviceMode.TheVariants.{Operate as FarOperate}
use Rattle.iol_far.specs.Codec.{layout_in, flow_of}
use Rattle.iol_octets.specs.declared.control.Channel.TheVariants.{Diagnosis}
use Rattle.iol_far.specs.Far.{Far, accepted_message, hear, heard_as}
use Rattle.iol_far.specs.Local.{local}
use Rattle.iol_far.specs.declared.kind.Recalls.TheVariants.{UntilSent}
use Rattle.iol_link.specs.Honest.{Passage, OutLost, far_after}
use Rattle.iol_far.specs.Level.{Progress, NoneHeld, Perhaps, Ask, Other, FarLink, accepting_link, turned_link, hands_whole, IsMove, IsSent, IsLevelBefore, Happening, Own, Hears, far_after_all, hearings, IsLevel, IsOutOnce}
use Rattle.iol_far.specs.Linked.{TextsAreHeard}
use Rattle.iol_link.specs.Attempts.{Sending}
use Rattle.iol_mode.specs.declared.configuration.Devices.{Devices}
use Rattle.iol_mode.specs.declared.configuration.Devices.TheVariants.{Any}
use Rattle.iol_mode.specs.Stands.{operate_link}
use Rattle.iol_app.specs.BothEnds.{ReadingState, Resting}
use Rattle.iol_app.specs.declared.request.Current.{Current}
use Rattle.iol_app.specs.declared.request.RequestProgress.{RequestProgress}
use Rattle.iol_app.specs.declared.request.RequestProgress.TheVariants.{Sending as Cut}
use Rattle.iol_app.specs.declared.session.Purpose.{Purpose}
use Rattle.iol_app.specs.declared.session.Purpose.TheVariants.{ReadEvent, ConfirmEvents, CheckEvents, Request as NextMessage}
use Rattle.iol_app.specs.Messages.{Head, head_of, write_of, question, check}
use Rattle.iol_app.specs.Requests.{text_of, is_over, IsCurrent}
use Rattle.iol_app.specs.Moves.{progress_of, move_for}
use Rattle.iol_app.specs.Ends.{BusyFits, OperateLink}
use Rattle.iol_app.specs.State.{SessionState, doubts_by, checks_by, missed_by}
use Rattle.iol_app.specs.Core.{Ghost}
use Rattle.iol_app.specs.CoreStands.{Work, vain_by, RepeatBy, OutStands}
use Rattle.iol_app.proofs.AllLaws.{Laws, level_more}

-- The request, where the message goes out again as it was
record IsResent (d : Devices) (e : Purpose) (current : Option Current) : Type 0 where
  pub progress : (idle : Bool) → progress_of d idle (missed_by d (Some e) current)
      ≡ progress_of d idle current
  pub move : move_for e (missed_by d (Some e) current) ≡ move_for e current
  pub vain : (tries : ℕ) → suc (vain_by d e current tries)
      ≤ vain_by d e (missed_by d (Some e) current) (tries + 1)
  pub noted : (tries : ℕ) → IfSome current (RepeatBy d e tries)
      → IfSome (missed_by d (Some e) current) (RepeatBy d e (tries + 1))
  pub goes_on : IfSome current (λ c. is_over c.progress ≡ false)
      → IfSome (missed_by d (Some e) current) (λ c. is_over c.progress ≡ false)

sent_as_was : (d : Devices) (e : Purpose) (current : Option Current)
    → checks_by d (Some e) ≡ false → doubts_by d (Some e) current ≡ false → IsResent d e current
sent_as_was d e current other sure = grind (arith, common_steps)

-- busy replies were counted as before
pub busy_missed : (d : Devices) (doubts : Bool) (limit : ℕ) (e : Purpose)
    (current : Option Current) (busy : ℕ) (asked : Bool)
    → BusyFits doubts limit current busy asked
    → BusyFits doubts limit (missed_by d (Some e) current) busy asked
busy_missed d doubts limit e current busy asked h = grind (arith, common_steps)

-- a segment that hands a request over is the whole text, so that it doesn't go out again
first_issued : (size : ℕ) (text : List ℕ) (issued : ℕ) (piece : ArrayVec ℕ)
    → last_issued size text issued ≡ Some (Start, piece) → issued ≡ 1
first_issued size text issued piece e = grind (arith, nat_tests, common_steps)

none_handed : (kind : Kind) (size : ℕ) (e : Purpose) (current : Option Current)
    → IfSome current IsCurrent → IfSome current (λ c. c.cutter.size ≡ size)
    → doubts_by Any (Some e) current ≡ false
    → hands_whole kind.hands_over size (move_for e current) ≡ false
none_handed kind size e current valid same sure = grind (arith, nat_tests, common_steps)

-- The question

question_moves : (size : ℕ) (r : Request) (out : List ℕ)
    → IsMove size Ask (Perhaps r) (question out).mc.channel (question out).mc.read
    (flow_of (question out).mc.address) (question out).od.items
unfolding control_of flow_of
question_moves size r out = tt

asks_whole : (h : HandsOver) (size : ℕ) → hands_whole h size Ask ≡ true → ⊥
asks_whole h size e = grind (arith, common_steps)

-- The check

-- what a check does, and a confirm
pub checks_confirm : (d : Devices) (e : Purpose) → checks_by d (Some e) ≡ true
    → (d ≡ Any) × (e ≡ ConfirmEvents)
checks_confirm d e is = grind (arith, common_steps)

pub confirm_vain : (d : Devices) (e : Purpose) (current : Option Current) (tries : ℕ)
    → checks_by d (Some e) ≡ true → vain_by d e current tries ≡ 0
confirm_vain d e current tries is = grind (arith, common_steps)

pub check_vain : (d : Devices) (current : Option Current) (tries : ℕ)
    → vain_by d CheckEvents current tries ≡ tries
check_vain d current tries = grind (arith, common_steps)

check_repeat : (d : Devices) (e : Purpose) (current : Option Current) (tries more : ℕ)
    → checks_by d (Some e) ≡ true → IfSome current (RepeatBy d e tries)
    → IfSome current (RepeatBy d CheckEvents more)
check_repeat d e current tries more is h = grind (arith, common_steps)

check_moves : (size : ℕ) (p : Progress) (out : List ℕ)
    → IsMove size Other p (check out).mc.channel (check out).mc.read
    (flow_of (check out).mc.address) (check out).od.items
unfolding control_of flow_of
check_moves size p out = tt

others_whole : (h : HandsOver) (size : ℕ) → hands_whole h size Other ≡ true → ⊥
others_whole h size e = grind (arith, common_steps)

pub confirm_stays : (page o : List ℕ) (m : MasterMsg) → head_of m.mc ≡ write_of Diagnosis 0
    → turned_link page operate_link o m ≡ operate_link
confirm_stays page o m head =
    let read = ap (λ (h : Head). h.read) head in
    let channel = ap (λ (h : Head). h.channel) head in
    rw (read, channel) refl

-- where nothing was heard, it doesn't matter what was out
unheard_as : (far : Far) (o other : List ℕ) (rest : List Happening) → hearings rest ≤ 0
    → far_after_all far o rest ≡ far_after_all far other rest
unheard_as far o other [] h = refl
unheard_as far o other (Own step ∷ rest) h = unheard_as (local far step) o other rest h
unheard_as far o other (Hears ∷ rest) h = absurd (omega (arith, h))

-- another message goes out in place of one that went out once, and says nothing of a request
module _ (laws : Laws) (page : List ℕ) (kind : Kind) (size : ℕ) (some : 1 ≤ size)
    (base : List Carried) (p : Progress) (o other : List ℕ) (m : MasterMsg)
    (sent : IsSent page size operate_link p o m Other)
    (same : turned_link page operate_link o m ≡ operate_link) where
  abbrev LevelWith : List ℕ → Far → Type 0
  LevelWith text far = IsLevel page kind size base operate_link p text 0 far

  still_level : (far : Far) → LevelWith o far → LevelWith other far
  still_level far (inl h) = inl h
  still_level far (inr (before, rest, h, few, is)) =
      inr (before, rest, h, few, is ∙ unheard_as before o other rest few)

  heard_level : (far : Far) → LevelWith o far → LevelWith other (hear far o).far
  heard_level far h = by_accepted_as (accepted_message far o) refl
    where
      by_accepted_as : (q : Option (Far × MasterMsg)) → accepted_message far o ≡ q
          → LevelWith other (hear far o).far
      by_accepted_as None e =
          subst (λ (q : Option (Far × MasterMsg)). LevelWith other (heard_as far o q).far) (sym e)
          (still_level far h)
      by_accepted_as (Some (there, message)) e =
          let says = (laws.level size some).replies page kind base operate_link p o m Other sent
          0 UntilSent tt far h _
          (ap (λ (q : Option (Far × MasterMsg)). (heard_as far o q).reply) e) in
          ((laws.level size some).stays page kind base operate_link p other).begins
          (hear far o).far
          (subst (λ (l : FarLink). IsLevelBefore page kind size base l p (hear far o).far) same
          says.before)

  pub replaced : (passage : Passage) (far : Far) → LevelWith o far
      → LevelWith other (far_after passage far o)
  replaced OutLost far h = still_level far h
  replaced passage far h = heard_level far h

idle_link : (layouts : Layouts) (link : FarLink) → OperateLink layouts NoneHeld link
    → link ≡ operate_link
idle_link layouts link linked = grind (arith, common_steps)

short_text : (issued size : ℕ) (text : List ℕ) → issued ≡ 1
    → not (nat_lt (issued * size) (length text)) ≡ true → length text ≤ size
short_text issued size text one whole = grind (arith, nat_tests, common_steps)

module _ (laws : Laws) (heard : TextsAreHeard) (layouts : Layouts) (link : FarLink) (w : Sending)
    (R : ReadingState) (t : SessionState) (g : Ghost)
    (there : layout_in g.page FarOperate ≡ layouts.run)
    (some : 1 ≤ layouts.run.od)
    (parts : HasMasterParts layouts.run (question t.output.carried.items))
    (carries : IfSome g.sent (λ image. t.output.carried.items ≡ image)) (far : Far) where
  open layouts use {run}
  open g use {page, kind, sent}
  open t use {idle}

  abbrev base : List Carried
  base = g.request.base

  abbrev carried : List ℕ
  carried = t.output.carried.items

  abbrev work : Devices → Purpose → Option Current → Work
  work d e current = record {
    devices = d;
    idle = idle;
    limit = t.limit;
    current = current;
    exchange = Some e;
  }

  abbrev LevelAt : Progress → MasterMsg → ℕ → Type 0
  LevelAt p m vain = IsLevel page kind run.od base link p (master_text run m) vain far

  -- both ends stand with this message out
  pub record Stays (d : Devices) (e : Purpose) (current : Option Current)
      (m : MasterMsg) : Type 0 where
    pub level : LevelAt (progress_of d idle current) m (vain_by d e current (w.tries + 1))
    pub out : OutStands layouts (record { message = m; tries = w.tries + 1 }) e
        (work d e current) R page kind link sent
    pub linked : OperateLink layouts (progress_of d idle current) link

  -- so they do where a message stood out that brought no good reply, in doubt or not
  abbrev Leaves : Bool → MasterMsg → Devices → Purpose → Option Current → Type 0
  Leaves doubted m d e current = IfSome current IsCurrent
      → IfSome current (λ c. c.cutter.size ≡ run.od) → checks_by d (Some e) ≡ false
      → doubts_by d (Some e) current ≡ doubted
      → OutStands layouts w e (work d e current) R page kind link sent
      → OperateLink layouts (progress_of d idle current) link
      → LevelAt (progress_of d idle current) w.message (suc (vain_by d e current w.tries))
      → Stays d e (missed_by d (Some e) current) m

  resent : (d : Devices) (e : Purpose) (current : Option Current)
      → Leaves false w.message d e current
  resent d e current valid same other sure out linked level =
      let is = sent_as_was d e current other sure in
      let next : Option Current = missed_by d (Some e) current in
      let goes = rw (← is.progress idle, ← is.move) at out.goes in
      let once : d ≡ Any → IsOutOnce kind.hands_over run.od (move_for e next)
      (suc (vain_by d e next (w.tries + 1))) = λ any hands.
      let none = none_handed kind run.od e current valid same (rw any at sure) in
      absurd (false≢true (sym none ∙ (rw is.move at hands))) in
      let goes_on = λ (k : e ≡ NextMessage). is.goes_on (out.goes_on k) in
      record {
        level = rw (is.progress idle) (level_more laws page kind run.od some base link _ _ _ _ far
            (is.vain w.tries) level);
        out = assumption (goes, once, is.noted w.tries out.repeat, goes_on);
        linked = rw (is.progress idle) linked;
      }

  -- the one segment of a request was out: it is asked for
  by_cursor : (c : Current) (p : RequestProgress)
      → Leaves true (question carried) Any NextMessage (Some (record c { progress = p }))
  by_cursor c (Cut Start piece) valid same confirms whole out linked level =
      let asked : MasterMsg = question carried in
      let r : Request = c.cutter.source in
      let one : c.cutter.issued ≡ 1 =
      first_issued c.cutter.size (text_of c.cutter) c.cutter.issued piece valid.progress in
      let link_is : link ≡ operate_link = idle_link layouts link (rw one at linked) in
      let short : length (request_text r) ≤ run.od =
      rw same at (short_text c.cutter.issued c.cutter.size (request_text r) one whole) in
      let layout : layout_in page (accepting_link link (master_text run asked)).mode ≡ run =
      rw link_is there in
      rw whole (record {
        level = (laws.level run.od some).wonders page kind base link (master_text run w.message)
            w.message r (rw one at out.goes) short (ap (λ (l : FarLink). l.waits) link_is) _
            (rw one at (out.once refl)) far (rw one at level) (master_text run asked);
        out = record {
          mode = rw link_is refl;
          goes = record {
            spells = rw layout (heard run asked parts);
            size_of = rw layout refl;
            move = question_moves run.od r carried;
            begins = tt;
            idle = rw link_is tt;
          };
          once = λ any hands. absurd (asks_whole kind.hands_over run.od hands);
          repeat = λ k. absurd (false≢true k);
          goes_on = λ k. refl;
          confirm = λ k. absurd (let z : Path Purpose NextMessage ConfirmEvents = k in cc);
          reads = λ k. absurd (let z : Path Purpose NextMessage ReadEvent = k in cc);
          carries = carries;
          tells = λ k. absurd (let z : Path (Option Bool) None (Some true) = k in cc);
        };
        linked = inr link_is;
      })
  by_cursor c (Cut other piece) valid same confirms whole out linked level =
      absurd (false≢true whole)
  by_cursor c other valid same confirms whole out linked level = absurd (false≢true whole)

  asked_for : (d : Devices) (e : Purpose) (current : Option Current)
      → Leaves true (question carried) d e current
  asked_for Any NextMessage (Some c) valid same confirms doubted out linked level =
      by_cursor c c.progress valid same confirms doubted out linked level
  asked_for d e current valid same confirms doubted out linked level = absurd (false≢true doubted)

  -- the check that is out from now on
  pub check_out : (d : Devices) (e : Purpose) (current : Option Current) (tries : ℕ)
      → HasMasterParts layouts.run (check carried) → checks_by d (Some e) ≡ true
      → IfSome current (RepeatBy d e w.tries)
      → OutStands layouts (record { message = check carried; tries = tries }) CheckEvents
      (work d CheckEvents current) Resting page kind operate_link sent
  check_out d e current tries has is repeat = record {
    mode = refl;
    goes = record {
      spells = rw there (heard run (check carried) has);
      size_of = rw there refl;
      move = check_moves run.od (progress_of d idle current) carried;
      begins = tt;
      idle = tt;
    };
    once = λ any hands. absurd (others_whole kind.hands_over run.od hands);
    repeat = check_repeat d e current w.tries tries is repeat;
    goes_on = λ k. absurd (let z : Path Purpose CheckEvents NextMessage = k in cc);
    confirm = λ k. absurd (let z : Path Purpose CheckEvents ConfirmEvents = k in cc);
    reads = λ k. absurd (let z : Path Purpose CheckEvents ReadEvent = k in cc);
    carries = carries;
    tells = λ k. absurd (let z : Path (Option Bool) None (Some true) = k in cc);
  }

  pub stays : (doubted : Bool) (d : Devices) (e : Purpose) (current : Option Current)
      → Leaves doubted (if doubted then question carried else w.message) d e current
  stays true d e current = asked_for d e current
  stays false d e current = resent d e current
