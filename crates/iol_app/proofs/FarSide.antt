-- The far end's part of an exchange, over the message, the link and the request's level.
-- For the clauses of `laws::receive_gives` and `laws::rise_gives`.
use Rattle.std.proofs.Common.{◌≡◌, ◌≢◌, ℕ, suc, ◌+◌, ◌≤◌, min, Bool, true, false, ◌&&◌, List, length, refl, sym, ◌∙◌, ap, subst, arith}
use Rattle.std.proofs.lemmas.Grind.{common_steps}
use Rattle.std.specs.Prelude.{Option, Some, None, if◌then◌else◌, nat_lt, IsSome, IfSome}
use Rattle.iol_mseq.specs.Shape.{Shape}
use Rattle.iol_mseq.specs.Replies.{reply_in}
use Rattle.iol_mseq.specs.declared.master.MasterMsg.{MasterMsg}
use Rattle.iol_mseq.specs.declared.reply.Reply.{Reply}
use Rattle.iol_page.specs.declared.master_command.MasterCommand.{MasterCommand}
use Rattle.iol_link.specs.Honest.{Passage, OutLost, BackLost, Clean, far_after, HonestExchange, IsUnread, IsAnswer}
use Rattle.iol_link.specs.Attempts.{good_reply}
use Rattle.iol_far.specs.declared.carried.Carried.{Carried}
use Rattle.iol_far.specs.declared.mode.DeviceMode as device
use Rattle.iol_far.specs.declared.mode.DeviceMode.TheVariants.{Operate as FarOperate}
use Rattle.iol_far.specs.Isdu.{IsduState}
use Rattle.iol_far.specs.Codec.{layout_in, message_in, reply_octets}
use Rattle.iol_far.specs.Far.{Far, WaitingCommand, layout_of, accepted_message, hear, heard_as, far_after_message, reply_to, output_of, command_in, valid_after, out_after, waits_after, mode_asked, known_mode, is_mode}
use Rattle.iol_far.specs.Local.{locals}
use Rattle.iol_far.specs.declared.kind.Kind.{Kind}
use Rattle.iol_far.specs.declared.kind.Recalls.{Recalls}
use Rattle.iol_far.specs.Level.{FarLink, Progress, Move, Begin, accepting_link, IsOutOnce, IsIdle, RecallsAtLeast, IsSent, IsLevel}
use Rattle.iol_far.specs.Laws.{IsSized, ReplySays}
use Rattle.iol_app.specs.declared.mode.Mode.{Mode}
use Rattle.iol_app.specs.declared.mode.Mode.TheVariants.{Operate}
use Rattle.iol_app.specs.Abstract.Steps.{ImageOctets}
use Rattle.iol_app.specs.BothEnds.{far_mode, output_by, AnswerFits, ProgressFits}
use Rattle.iol_app.specs.Exchange.{acknowledged_by}
use Rattle.iol_isdu.specs.declared.values.Request.{Request}
use Rattle.iol_app.specs.Abstract.OfDevice.{Hidden, IsOpen, hidden_redelivered}
use Rattle.iol_app.proofs.OpenLevel.{replied_opens, open_redelivered}
use Rattle.iol_app.proofs.Moves.{begins_idle}
use Rattle.iol_app.proofs.AllLaws.{Laws, level_locals, page_locals, sized_locals}
use Rattle.iol_app.proofs.Accepted.{accepted_as}
use Rattle.iol_app.proofs.ImagesPart.{OutputsSent}
use Rattle.iol_app.specs.Ends.{OutputFits}

-- in OPERATE the octets heard are the output
out_is : (mode : device.DeviceMode) (old new : List ℕ) → mode ≡ FarOperate
    → out_after mode old new ≡ new
out_is mode old new holds = grind (arith, common_steps)

-- the mode that a command waits for, where none waits for its own, finds no valid output
moved_acknowledged : (at into : device.DeviceMode) (valid acked : Bool) → is_mode at into ≡ false
    → into ≡ FarOperate → (valid ≡ true → at ≡ FarOperate) → valid ≡ acked → false ≡ acked
moved_acknowledged at into valid acked elsewhere up holds same = grind (arith, common_steps)

-- a message that is worked leaves the output valid in OPERATE alone, as told, and the image sent
output_worked : (mode : Mode) (at : device.DeviceMode) (valid acked : Bool)
    (command : Option MasterCommand) (old items : List ℕ) (sent : Option ImageOctets)
    → at ≡ far_mode mode → (valid ≡ true → (at ≡ FarOperate) × IsSome sent)
    → (output_by mode command ≡ None → valid ≡ acked)
    → (mode ≡ Operate → IfSome sent (λ image. items ≡ image))
    → (output_by mode command ≡ Some true → IsSome sent)
    → (valid_after at valid command ≡ true → (at ≡ FarOperate) × IsSome sent)
    × (valid_after at valid command ≡ acknowledged_by (output_by mode command) acked)
    × IfSome (if valid_after at valid command && nat_lt 0 (length (out_after at old items))
    then Some (out_after at old items) else None) (λ x. sent ≡ Some x)
output_worked mode at valid acked command old items sent same before as_reported carries tells =
    grind (arith, common_steps)

waits_stay : (mode : device.DeviceMode) (waits : Option WaitingCommand) (octets : List ℕ)
    (asked : Option device.DeviceMode) → IfSome waits (λ c. is_mode mode c.into ≡ false)
    → IfSome (waits_after mode waits octets asked) (λ c. is_mode mode c.into ≡ false)
waits_stay mode waits octets asked h = grind (arith, common_steps)

-- a message that goes out, whatever it is for
pub record Goes : Type 0 where
  pub page : List ℕ
  pub kind : Kind
  pub run : Shape
  pub base : List Carried
  pub link : FarLink
  pub progress : Progress
  pub message : MasterMsg
  pub o : List ℕ
  pub what : Move
  -- how long the device is trusted to recall an answer, and how often it was out in vain
  pub trust : Recalls
  pub vain : ℕ
  pub mode : Mode
  pub sent : Option ImageOctets
  pub acked : Bool

pub record IsGoing (x : Goes) : Type 0 where
  pub sent_at : IsSent x.page x.run.od x.link x.progress x.o x.message x.what
  pub trusts : RecallsAtLeast x.trust x.kind.recalls
  pub at_mode : (accepting_link x.link x.o).mode ≡ far_mode x.mode
  pub layout : layout_in x.page (far_mode x.mode) ≡ x.run
  pub carries : x.mode ≡ Operate → IfSome x.sent (λ image. x.message.out.items ≡ image)
  pub tells : output_by x.mode (command_in x.message) ≡ Some true → IsSome x.sent
  pub starting : x.mode ≢ Operate → x.acked ≡ false

module _ (laws : Laws) (going : Goes) (sending : IsGoing going) where
  open going use {page, kind, run, base, link, progress, o, message, what, vain, mode, sent, acked}

  -- both ends are level
  abbrev pub Level : Far → Type 0
  Level far = IsLevel page kind run.od base link progress o vain far

  abbrev command : Option Bool
  command = output_by mode (command_in message)

  abbrev pub OutputsAt : Far → Type 0
  OutputsAt far = OutputFits sent (command ≡ None) acked far

  some : 1 ≤ run.od
  some = rw sending.layout at (laws.layouts page (far_mode mode)).1

  spells : message_in run o ≡ Some message
  spells = rw (sending.at_mode, sending.layout) at sending.sent_at.spells

  -- a reply to the message says how the far end stands
  pub says_of : (far : Far) → Level far → (reply : List ℕ) → (hear far o).reply ≡ Some reply
      → ReplySays page kind going.trust vain run.od base link progress o message what (hear far o)
  says_of far level reply e =
      (laws.level run.od some).replies page kind base link progress o message what
      sending.sent_at vain going.trust sending.trusts far level reply e

  -- and it replies to whatever it accepts
  says_at : (far : Far) → Level far → (there : Far) (m : MasterMsg)
      → accepted_message far o ≡ Some (there, m)
      → ReplySays page kind going.trust vain run.od base link progress o message what (hear far o)
  says_at far level there m e =
      says_of far level _ (ap (λ (q : Option (Far × MasterMsg)). (heard_as far o q).reply) e)

  module _ (from far : Far) (n silence : ℕ) (answer : Option (List ℕ))
      (h : HonestExchange from n o answer far silence)
      (level : Level from) (same : from.page ≡ page) where
    abbrev here : Far
    here = locals from h.steps

    pub level_now : Level here
    level_now = level_locals laws page kind run.od some base link progress o vain h.steps from level

    -- what the far end replies is read as that
    reads_reply : (reply : List ℕ) → (hear here o).reply ≡ Some reply
        → reply_in run message.mc.read reply ≡ Some (reply_to (hear here o).far run message)
    reads_reply reply e =
        let g = (hear here o).far in
        let says = says_of here level_now reply e in
        let turned = ap (λ (l : FarLink). l.mode) says.before.link_is in
        let same : layout_of g ≡ run =
        rw (says.before.page_is, turned, sending.at_mode) sending.layout in
        let sized : IsSized g = laws.sized.hears here o
        (sized_locals laws h.steps from h.regular.sized) in
        let read = rw same at (laws.reads g message sized) in
        let received = rw (sending.at_mode, sending.layout) at says.reply_is in
        let octets : reply ≡ reply_octets (reply_to g run message) = cc in
        rw octets read

    here_layout : layout_in here.page (far_mode mode) ≡ run
    here_layout = ap (λ (p : List ℕ). layout_in p (far_mode mode))
        (page_locals laws h.steps from ∙ same) ∙ sending.layout

    unread : (a : Option (List ℕ)) → IsUnread here.page o a → good_reply run message a ≡ None
    unread None k = refl
    unread (Some octets) k =
        subst (λ (l : Shape). reply_in l message.mc.read octets ≡ None) here_layout
        (k (far_mode mode) message
        (subst (λ (l : Shape). message_in l o ≡ Some message) (sym here_layout) spells))

    -- without a good reply there is silence
    pub silent : good_reply run message answer ≡ None → silence ≡ min 3 (n + 1)
    silent none = grind (arith, common_steps, reads_reply)

    -- a good reply is the far end's, unaltered
    pub record IsReplied (reply : Reply) : Type 0 where
      pub octets : List ℕ
      pub replies : (hear here o).reply ≡ Some octets
      pub far_is : far ≡ (hear here o).far
      pub silence_is : silence ≡ 0
      pub reply_is : reply ≡ reply_to (hear here o).far run message

    pub replied : (reply : Reply) → good_reply run message answer ≡ Some reply → IsReplied reply
    replied reply good = by_passage h.passage refl h.answer_is
      where
        by_reply : h.passage ≡ Clean → (r : Option (List ℕ)) → (hear here o).reply ≡ r
            → answer ≡ r → IsReplied reply
        by_reply is None e a =
            absurd (let z : Path (Option Reply) None (Some reply) = rw a at good in cc)
        by_reply is (Some octets) e a = record {
          octets = octets;
          replies = e;
          far_is = rw is at h.far_is;
          silence_is = rw (is, e) at h.silence_is;
          reply_is = let z = rw a at good in let k = reads_reply octets e in cc;
        }

        by_passage : (p : Passage) → h.passage ≡ p → IsAnswer p here o answer → IsReplied reply
        by_passage Clean is a = by_reply is (hear here o).reply refl a
        by_passage other is a = absurd
            (let z : Path (Option Reply) None (Some reply) = rw (unread answer a) at good in cc)

  module _ (g : Far) (same : g.page ≡ page) (level : Level g) where
    -- whatever it accepts is the message, in the layout of the mode
    accepts_as : (there : Far) (m : MasterMsg) → accepted_message g o ≡ Some (there, m)
        → (m ≡ message) × (there.mode ≡ far_mode mode) × (there.awake ≡ true)
    accepts_as there m e =
        let before = (says_at g level there m e).before in
        let at : there.mode ≡ far_mode mode =
        rw e at (ap (λ (l : FarLink). l.mode) before.link_is) ∙ sending.at_mode in
        let reads : message_in (layout_in g.page there.mode) o ≡ Some m =
        accepted_as (λ q. IfSome q (λ x. message_in (layout_in g.page x.0.mode) o ≡ Some x.1))
        g o tt (λ a n f. f) (λ a c q n f. f) there m e in
        let is : m ≡ message = cc (spells, rw (same, at, sending.layout) at reads) in
        (is, at, rw e at before.awake)

    heard_by : (P : Option (Far × MasterMsg) → Type 0) → P None
        → ((there : Far) → accepted_message g o ≡ Some (there, message) → there.mode ≡ far_mode mode
        → there.awake ≡ true → P (Some (there, message))) → P (accepted_message g o)
    heard_by P none some = split (accepted_message g o) refl
      where
        split : (q : Option (Far × MasterMsg)) → accepted_message g o ≡ q → P q
        split None e = none
        split (Some (there, m)) e =
            let is = accepts_as there m e in
            rw is.0 (some there (rw is.0 at e) is.1 is.2)

    -- with a reply it has worked the message
    replied_by : (P : Far → Type 0) (reply : List ℕ) → (hear g o).reply ≡ Some reply
        → ((there : Far) → accepted_message g o ≡ Some (there, message) → there.mode ≡ far_mode mode
        → there.awake ≡ true → P (far_after_message there o message)) → P (hear g o).far
    replied_by P reply e f =
        heard_by (λ q. (heard_as g o q).reply ≡ Some reply → P (heard_as g o q).far)
        (λ r. absurd (let z : Path (Option (List ℕ)) None (Some reply) = r in cc))
        (λ there k at awake r. f there k at awake) e

    -- in OPERATE its output has the octets of the message then
    pub replied_out : mode ≡ Operate → (reply : List ℕ) → (hear g o).reply ≡ Some reply
        → (hear g o).far.out ≡ message.out.items
    replied_out op reply e = replied_by (λ f. f.out ≡ message.out.items) reply e
        (λ there k at awake. out_is there.mode there.out message.out.items
        (at ∙ ap far_mode op))

    module _ (h : OutputsAt g) where
      -- where the message is accepted the output is valid only as before, and as told
      there_outputs : (there : Far) → there.mode ≡ far_mode mode
          → accepted_message g o ≡ Some (there, message) → OutputsAt there
      there_outputs there at e =
          accepted_as (λ q. IfSome q (λ x. x.0.mode ≡ far_mode mode → OutputsAt x.0)) g o tt
          (λ awake m f at. h) (λ awake c q m f at. (
            (λ a v. absurd (let y : false ≡ true = v in cc)),
            (λ a none. by_mode mode refl awake c q at none),
            tt,
          )) there message e at
        where
          by_mode : (x : Mode) → mode ≡ x → g.awake ≡ true → (c : WaitingCommand)
              → g.waits ≡ Some c → c.into ≡ far_mode mode → command ≡ None → false ≡ acked
          by_mode Operate is awake c q at none = moved_acknowledged g.mode c.into g.valid acked
              (rw q at h.2) (at ∙ ap far_mode is) (λ v. (h.0 awake v).0) (h.1 awake none)
          by_mode other is awake c q at none =
              sym (sending.starting (λ op. let z : other ≡ Operate = sym is ∙ op in absurd (cc)))

      worked_now : (there : Far) → accepted_message g o ≡ Some (there, message)
          → there.mode ≡ far_mode mode → there.awake ≡ true
          → OutputsAt (far_after_message there o message)
          × ((far_after_message there o message).valid ≡ acknowledged_by command acked)
          × IfSome (output_of (far_after_message there o message)) (λ x. sent ≡ Some x)
      worked_now there e at awake =
          let before = there_outputs there at e in
          let k = output_worked mode there.mode there.valid acked (command_in message) there.out
          message.out.items sent at (before.0 awake) (before.1 awake) sending.carries
          sending.tells in
          let waits = waits_stay there.mode there.waits o
          (known_mode there.page (mode_asked (command_in message))) before.2 in
          (((λ a v. k.0 v), (λ a none. rw none at k.1), waits), k.1, k.2)

      pub outputs_sent : OutputsSent sent g o
      outputs_sent there m e =
          rw e at (heard_by (λ q. IfSome q (λ x. IfSome (output_of (far_after_message x.0 o x.1))
          (λ image. sent ≡ Some image))) tt (λ t k at awake. (worked_now t k at awake).2))

      outputs_hear : OutputsAt (hear g o).far
      outputs_hear = heard_by (λ q. OutputsAt (heard_as g o q).far) h
          (λ t k at awake. (worked_now t k at awake).0)

      -- with a reply the output is as told then
      pub replied_acknowledged : (reply : List ℕ) → (hear g o).reply ≡ Some reply
          → (hear g o).far.valid ≡ acknowledged_by command acked
      replied_acknowledged reply e = replied_by (λ f. f.valid ≡ acknowledged_by command acked)
          reply e
          (λ t k at awake. (worked_now t k at awake).1)

  pub outputs_after : (passage : Passage) (g : Far) → g.page ≡ page
      → Level g → OutputsAt g
      → OutputsAt (far_after passage g o)
  outputs_after OutLost g same level h = h
  outputs_after other g same level h = outputs_hear g same level h

  -- what it is handed is what may still be carried out
  module _ (g : Far) (level : Level g)
      (request : Option Request) (h : Hidden) (fits : ProgressFits progress request)
      (begins : (q : Request) → what ≡ Begin q → request ≡ Some q)
      (before : IsOpen g.isdu request h) where
    -- with the answer that it had taken back; and as it is, where no request is handed over again
    abbrev OpensAs : IsduState → Type 0
    OpensAs state = IsOpen state request (hidden_redelivered request state h)
        × (IsOutOnce kind.hands_over run.od what (suc vain)
        → AnswerFits base request h (hear g o).far.carried → IsOpen state request h)

    begins_from : (q : Request) → what ≡ Begin q → (request ≡ Some q) × IsIdle progress
    begins_from q k = (begins q k, begins_idle sending.sent_at q k)

    opens_still : OpensAs g.isdu
    opens_still = ((open_redelivered g.isdu request h before).0, λ once answer. before)

    opens_heard : (q : Option (Far × MasterMsg)) → accepted_message g o ≡ q
        → OpensAs (heard_as g o q).far.isdu
    opens_heard None k = opens_still
    opens_heard (Some (there, m)) k =
        subst (λ (q : Option (Far × MasterMsg)). OpensAs (heard_as g o q).far.isdu) k
        (replied_opens (says_at g level there m k) request h fits begins_from)

    pub opens_after : (passage : Passage) → OpensAs (far_after passage g o).isdu
    opens_after OutLost = opens_still
    opens_after BackLost = opens_heard (accepted_message g o) refl
    opens_after Clean = opens_heard (accepted_message g o) refl
