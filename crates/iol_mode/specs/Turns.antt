-- What one turn of a link is: one call of the wire, whose answer alone says what
-- becomes of the mode.
use Rattle.std.specs.Prelude.{◌≡◌, ℕ, ◌<◌, Bool, true, Option, IsTrue}
use Rattle.arrayvec.specs.ArrayVec.{ArrayVec}
use Rattle.iol_mseq.specs.Shape.{Shape, startup_shape}
use Rattle.iol_mseq.specs.Texts.{master_text}
use Rattle.iol_mseq.specs.declared.master.MasterMsg.{MasterMsg}
use Rattle.iol_mseq.specs.declared.reply.Reply.{Reply}
use Rattle.iol_far.specs.Octets.{octets_in}
use Rattle.iol_far.specs.Far.{Far}
use Rattle.iol_far.specs.Level.{FarLink}
use Rattle.iol_page.specs.declared.page.Layouts.{Layouts}
use Rattle.iol_link.specs.declared.handler.Attempt.{Attempt}
use Rattle.iol_link.specs.Attempts.{Sending, good_reply, attempt_of, most_attempts}
use Rattle.iol_link.specs.WireFacts.{WireFacts, Passes}
use Rattle.iol_mode.specs.declared.configuration.Devices.TheVariants.{Own}
use Rattle.iol_mode.specs.Kinds.{IsHonestFor}
use Rattle.iol_mode.specs.declared.states.State.{State}
use Rattle.iol_mode.specs.declared.states.State.TheVariants.{Startup as AtStartup, Preoperate as AtPreoperate, Operate as AtOperate}
use Rattle.iol_mode.specs.declared.states.Operate.{Operate}
use Rattle.iol_mode.specs.States.{NextMode, any_device, is_behind, NextModeFits, OperateFits, startup_turned, preoperate_turned, operate_by, operate_turned, sending_of}
use Rattle.iol_mode.specs.Stands.{OperateStands, OutcomeStands, IsOperating, IsAccepted}
use Rattle.iol_mode.specs.Next.{MetFits, LostFits, FaultFits, DeviceFits, InterleavedFits, EnteredFits}

-- how the new mode stands to the far end, also right after a good reply, and what a lost link needs
pub record IsMet (outcome : NextMode) (silence : ℕ) (far : Far) : Type 0 where
  pub stands : OutcomeStands outcome silence far
  pub met : MetFits outcome far
  pub lost : LostFits outcome silence

-- in a start-up also: once the device was reset the record stands still; a page fault is one of
-- the far end's page, as is an identity that isn't expected and what is asked of interleaved
-- process data, and the turn that enters OPERATE tells how
pub record IsRisen (reset : Bool) (outcome : NextMode) (silence : ℕ) (old far : Far) :
    Type 0 where
  pub both : IsMet outcome silence far
  pub still : IsTrue reset → far.carried ≡ old.carried
  pub fault : FaultFits outcome far
  pub device : DeviceFits outcome far
  pub interleaved : InterleavedFits outcome far
  pub entered : EnteredFits outcome silence far

-- the attempt alone says what becomes of OPERATE
abbrev pub IsEnd : Attempt → NextMode → Type 0
IsEnd attempt outcome = (sending : Sending) × (layouts : Layouts)
    × (outcome ≡ operate_by sending layouts attempt)

module _ {W : Type 0} (facts : WireFacts W) where
  open facts use {honest, far, silence, exchange_gives}

  -- one exchange of this message, in this layout
  pub record IsExchange (wire : W) (layout : Shape) (message : MasterMsg)
      (turned : Option Reply → NextMode) (outcome : NextMode) (new : W) : Type 0 where
    pub answer : Option (ArrayVec ℕ)
    pub called : exchange_gives wire (master_text layout message) answer new
    pub passes : Passes facts wire (master_text layout message) answer new
    pub honesty : honest new ≡ honest wire
    pub outcome_is : outcome ≡ turned (good_reply layout message (octets_in answer))
    pub fits : NextModeFits outcome

  -- in a start-up
  pub record IsRise (wire : W) (reset : Bool) (layout : Shape) (message : MasterMsg)
      (turned : Option Reply → NextMode) (outcome : NextMode) (new : W) : Type 0 where
    pub exchange : IsExchange wire layout message turned outcome new
    pub risen : IsHonestFor facts Own wire → IsRisen reset outcome (silence new) (far wire)
        (far new)

  -- the message was sent once, and the attempt ended by what came back
  abbrev pub IsTried : W → Shape → Sending → Attempt → W → Type 0
  IsTried wire layout sent attempt new = (answer : Option (ArrayVec ℕ))
      × exchange_gives wire (master_text layout sent.message) answer new
      × (attempt ≡ attempt_of sent.tries (good_reply layout sent.message (octets_in answer)))

  -- the message of a start-up's step
  abbrev pub IsStartTried : W → State → Attempt → W → Type 0
  IsStartTried wire (AtStartup s) attempt new = IsTried wire startup_shape s.sent attempt new
  IsStartTried wire (AtPreoperate s) attempt new = IsTried wire s.pre s.sent attempt new
  IsStartTried wire s attempt new = ⊥

  -- with any device
  abbrev pub IsStartTurn : W → State → NextMode → W → Type 0
  IsStartTurn wire (AtStartup s) outcome new =
      IsRise wire (is_behind s.step) startup_shape s.sent.message (startup_turned any_device s)
      outcome new
  IsStartTurn wire (AtPreoperate s) outcome new =
      IsRise wire true s.pre s.sent.message (preoperate_turned s) outcome new
  IsStartTurn wire s outcome new = ⊥

  -- in OPERATE: also how the link stood before
  pub record IsCycle (wire : W) (s : Operate) (message : MasterMsg) (outcome : NextMode)
      (new : W) : Type 0 where
    pub exchange : IsExchange wire s.layouts.run (sending_of s.out message).message
        (operate_turned s message) outcome new
    pub both : IsHonestFor facts Own wire → IsMet outcome (silence new) (far new)
    pub fits : OperateFits s
    pub stood : IsHonestFor facts Own wire → OperateStands s (silence wire) (far wire)
    pub few : (sending_of s.out message).tries < most_attempts
    pub accepted : IsHonestFor facts Own wire → (link : FarLink) → IsOperating s.layouts link
        → IsAccepted s.layouts (far wire).page link (sending_of s.out message).message

  abbrev pub IsOperateTurn : W → State → MasterMsg → NextMode → W → Type 0
  IsOperateTurn wire (AtOperate s) message outcome new = IsCycle wire s message outcome new
  IsOperateTurn wire s message outcome new = ⊥
