-- What the watch makes of a message of the port, and of what came to it.
-- For the clauses of `laws::ports_are_by_the_rules`.
use Rattle.std.proofs.Common.{◌≡◌, ℕ, zero, suc, ◌<◌, Bool, true, false, List, arith}
use Rattle.std.proofs.lemmas.Grind.{common_steps}
use Rattle.std.proofs.lemmas.Slice.Eq.{bytes_eq-Decides}
use Rattle.std.specs.Prelude.{Option, Some, None, Ok, bytes_eq}
use Rattle.iol_mseq.specs.Shape.{Shape}
use Rattle.iol_mseq.specs.Master.{HasMasterParts}
use Rattle.iol_mseq.specs.Texts.{master_text}
use Rattle.iol_mseq.specs.declared.master.MasterMsg.{MasterMsg}
use Rattle.iol_far.specs.Linked.{TextsAreHeard}
use Rattle.iol_link.specs.Attempts.{good_reply}
use Rattle.iol_judge.specs.declared.master_phase.MasterPhase.{MasterPhase}
use Rattle.iol_judge.specs.declared.master_phase.MasterPhase.TheVariants.{Down}
use Rattle.iol_judge.specs.declared.master.MasterState.{MasterState}
use Rattle.iol_judge.specs.declared.master.MissedMessage.{MissedMessage}
use Rattle.iol_judge.specs.MasterPhases.{phase_layout}
use Rattle.iol_judge.specs.Watched.{master_after_repeat, master_after_sending, sent_new, sent_at, master_after_answer, heard_reply, master_without_reply}

-- what is to be sent again, after so many attempts at these octets
abbrev pub missed_of : ℕ → List ℕ → Option MissedMessage
missed_of zero text = None
missed_of (suc zero) text = Some (record { octets = record { items = text }; twice = false })
missed_of (suc (suc tries)) text =
    Some (record { octets = record { items = text }; twice = true })

abbrev pub is_down : MasterPhase → Bool
is_down Down = true
is_down phase = false

pub bytes_themselves : (a : List ℕ) → bytes_eq a a ≡ true
bytes_themselves a = grind (arith, common_steps, bytes_eq-Decides a a)

-- the message that is out, again
pub repeat_accepted : (m : MasterState) (tries : ℕ) (text : List ℕ) → is_down m.phase ≡ false
    → m.out ≡ missed_of (suc tries) text
    → master_after_sending m text ≡ Ok (master_after_repeat m)
repeat_accepted m zero text up out = grind (arith, bytes_themselves text)
repeat_accepted m (suc tries) text up out = grind (arith, bytes_themselves text)

-- no good reply: the first two times it is to be sent again
pub left_out_of : (m : MasterState) (text : List ℕ) (tries : ℕ) → tries < 2
    → m.out ≡ missed_of tries text
    → master_without_reply m text ≡ record m { out = missed_of (suc tries) text }
left_out_of m text zero few out = grind arith
left_out_of m text (suc zero) few out = grind arith
left_out_of m text (suc (suc tries)) few out = grind arith

-- a new message of these octets
pub sent_new_of : (m : MasterState) (text : List ℕ) → is_down m.phase ≡ false → m.out ≡ None
    → master_after_sending m text ≡ sent_new m text
sent_new_of m text up out = grind arith

module _ (heard : TextsAreHeard) (layout : Shape) (m : MasterState)
    (at : phase_layout m.phase ≡ layout) (message : MasterMsg)
    (parts : HasMasterParts layout message)
  where
    pub new_accepted : is_down m.phase ≡ false → m.out ≡ None
        → master_after_sending m (master_text layout message) ≡ sent_at m.phase m message
    new_accepted up out = grind (arith, sent_new_of, heard layout message parts)

    pub reply_accepted : (received : Option (List ℕ))
        → master_after_answer m (master_text layout message) received
        ≡ heard_reply m (master_text layout message) message (good_reply layout message received)
    reply_accepted received = grind (arith, heard layout message parts)
