-- What the watch never blames, for `repeats_and_wakes_are_fair`. Begin at the end, with
-- `repeats_are_fair`.
-- For the clauses of `watch_laws::repeats_and_wakes_are_fair`.
use Rattle.std.proofs.Common.{◌≡◌, ℕ, Bool, true, false, List, arith}
use Rattle.std.proofs.lemmas.Grind.{common_steps}
use Rattle.std.proofs.lemmas.Slice.Eq.{bytes_eq-Decides}
use Rattle.std.specs.Prelude.{Option, Some, None, is_some, Result, Ok, Err, if◌then◌else◌, bytes_eq, ⊤}
use Rattle.iol_octets.specs.declared.control.Channel.{Channel}
use Rattle.iol_mseq.specs.declared.master.MasterMsg.{MasterMsg}
use Rattle.iol_mseq.specs.declared.reply.Reply.{Reply}
use Rattle.iol_page.specs.declared.page.Layouts.{Layouts}
use Rattle.iol_judge.specs.declared.blame.Blame.TheVariants.{NotRepeated}
use Rattle.iol_judge.specs.MasterTransfers.{asks_instead}
use Rattle.iol_judge.specs.MasterReadings.{checks_instead}
use Rattle.iol_judge.specs.declared.blame.Blame.{Blame}
use Rattle.iol_judge.specs.declared.master_phase.MasterPhase.{MasterPhase}
use Rattle.iol_judge.specs.declared.master_phase.MasterPhase.TheVariants.{Down}
use Rattle.iol_judge.specs.declared.master.MasterState.{MasterState}
use Rattle.iol_judge.specs.declared.master.MissedMessage.{MissedMessage}
use Rattle.iol_judge.specs.declared.master_verdict.MasterVerdict.TheVariants.{ByTheRules}
use Rattle.iol_judge.specs.Watched.{WatchState, asked_instead, checked_instead, checking, master_after_repeat, master_after_sending, sent_new_or_repeat, sent_new, sent_on, sent_to_page, master_after_answer, heard_reply, master_without_reply, read_from, written_to, watch_after_exchange, judged_as}
use Rattle.iol_judge.specs.WatchLaws.{RepeatsAreFair, is_out}

bytes_themselves : (a : List ℕ) → bytes_eq a a ≡ true
bytes_themselves a = grind (arith, common_steps, bytes_eq-Decides a a)

-- A new message leaves where the master stands: the mode, and what is to be sent again

abbrev stand : MasterState → MasterPhase × Option MissedMessage
stand m = (m.phase, m.out)

abbrev Preserves : MasterPhase × Option MissedMessage → Result MasterState Blame → Type 0
Preserves old (Ok new) = stand new ≡ old
Preserves old (Err fault) = ⊤

page_preserves : (m : MasterState) (message : MasterMsg)
    → Preserves (stand m) (sent_to_page m message)
page_preserves m message = grind arith

on_preserves : (m : MasterState) (layouts : Layouts) (message : MasterMsg)
    → Preserves (stand m) (sent_on m layouts message)
on_preserves m layouts message = grind (arith, page_preserves)

new_preserves : (m : MasterState) (octets : List ℕ) → Preserves (stand m) (sent_new m octets)
new_preserves m octets = grind (arith, page_preserves, on_preserves)

-- Once octets were sent, the mode isn't down, and none but these are to be sent again

abbrev is_down : MasterPhase → Bool
is_down Down = true
is_down phase = false

abbrev is_same : Option MissedMessage → List ℕ → Bool
is_same None octets = true
is_same (Some out) octets = bytes_eq out.octets.items octets

pub record Ready (m : MasterState) (octets : List ℕ) : Type 0 where
  pub up : is_down m.phase ≡ false
  pub same : is_same m.out octets ≡ true

abbrev IsReady : List ℕ → Result MasterState Blame → Type 0
IsReady octets (Ok new) = Ready new octets
IsReady octets (Err fault) = ⊤

module _ (m : MasterState) (octets : List ℕ) (up : is_down m.phase ≡ false) where
  new_ready : (r : Result MasterState Blame) → Preserves (stand m) r → m.out ≡ None
      → IsReady octets r
  new_ready r preserves none = grind arith

  out_ready : (r checked : Result MasterState Blame) → Preserves (stand m) r
      → Preserves (stand m) checked → (out : MissedMessage) → m.out ≡ Some out
      → (instead checks : Bool)
      → IsReady octets (if bytes_eq out.octets.items octets then Ok (master_after_repeat m) else
      if instead then asked_instead out.twice octets r else
      if checks then checked_instead out.twice octets checked else Err NotRepeated)
  out_ready r checked preserves so_too out is instead checks = grind (arith, bytes_themselves)

  repeat_ready : (o : Option MissedMessage) → m.out ≡ o
      → IsReady octets (sent_new_or_repeat o m octets)
  repeat_ready None is = new_ready (sent_new m octets) (new_preserves m octets) is
  repeat_ready (Some out) is = out_ready (sent_new m octets) (sent_new (checking m) octets)
      (new_preserves m octets) (new_preserves (checking m) octets) out is
      (asks_instead m.transfer out.octets.items octets)
      (checks_instead m.events out.octets.items octets)

sent_ready : (m : MasterState) (octets : List ℕ) → IsReady octets (master_after_sending m octets)
sent_ready m octets = grind (arith, repeat_ready)

-- So these may be sent again

abbrev IsFair : List ℕ → MasterState → Type 0
IsFair octets m = is_some m.out ≡ true → master_after_sending m octets ≡ Ok (master_after_repeat m)

ready_fair : (m : MasterState) (octets : List ℕ) → Ready m octets → IsFair octets m
ready_fair m octets ready some = grind arith

-- And so it is once something came back, or nothing did

missed_fair : (m : MasterState) (octets : List ℕ) → Ready m octets
    → IsFair octets (master_without_reply m octets)
missed_fair m octets ready some = grind (arith, ready_fair, bytes_themselves)

answered_out : (read : Bool) (c : Channel) (old : MasterState) (message : MasterMsg)
    (received : List ℕ)
    → (if read then read_from c old message received else written_to c old message received).out
    ≡ old.out
answered_out read c old message received = grind arith

reply_fair : (o : Option Reply) (m : MasterState) (octets : List ℕ) (message : MasterMsg)
    → Ready m octets → IsFair octets (heard_reply m octets message o)
reply_fair o m octets message ready some = grind (arith, missed_fair, answered_out)

heard_fair : (m : MasterState) (octets : List ℕ) (answer : Option (List ℕ)) → Ready m octets
    → IsFair octets (master_after_answer m octets answer)
heard_fair m octets answer ready some = grind (arith, ready_fair, reply_fair)

-- The watch

-- sent by the rules, told again
passing_fair : (r : Result MasterState Blame) (w : WatchState) (octets : List ℕ)
    (answer repeat : Option (List ℕ)) → w.verdict ≡ ByTheRules → IsReady octets r
    → is_out (judged_as w octets answer r) ≡ true
    → (watch_after_exchange (judged_as w octets answer r) octets repeat).verdict ≡ ByTheRules
passing_fair r w octets answer repeat e ready out = grind (arith, heard_fair)

pub repeats_are_fair : RepeatsAreFair
repeats_are_fair watched octets answer repeat out = grind (arith, passing_fair, sent_ready)
