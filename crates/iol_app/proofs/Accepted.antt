-- Hearing, by its three cases: not accepted, accepted in the present layout, accepted in the
-- layout of the command that waits.
-- For the clauses of `laws::receive_gives`, `laws::rise_gives`, `laws::send_gives` and 16 more.
use Rattle.std.proofs.lemmas.Grind.{common_steps}
use Rattle.std.proofs.Common.{arith, ◌≡◌, ℕ, true, List, subst}
use Rattle.std.specs.Prelude.{Option, Some, None}
use Rattle.iol_mseq.specs.declared.master.MasterMsg.{MasterMsg}
use Rattle.iol_far.specs.Codec.{layout_in, message_in}
use Rattle.iol_far.specs.Far.{Far, WaitingCommand, accepted_message, far_in_mode}

module _ (P : Option (Far × MasterMsg) → Type 0) (g : Far) (o : List ℕ) (none : P None)
    (here : g.awake ≡ true → (m : MasterMsg) → message_in (layout_in g.page g.mode) o ≡ Some m
    → P (Some (g, m)))
    (there : g.awake ≡ true → (command : WaitingCommand) → g.waits ≡ Some command
    → (m : MasterMsg) → message_in (layout_in g.page command.into) o ≡ Some m
    → P (Some (far_in_mode g command.into, m))) where
  -- only an awake far end accepts
  pub by_accepted : P (accepted_message g o)
  by_accepted = grind (arith, common_steps)

  pub accepted_as : (t : Far) (m : MasterMsg) → accepted_message g o ≡ Some (t, m) → P (Some (t, m))
  accepted_as t m e = subst P e by_accepted
