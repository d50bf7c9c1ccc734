-- What came back is judged by how the attempt ended, and by its length.
-- For the clauses of `Core::settle` and `wire_result::new`.
use Rattle.std.proofs.lemmas.Grind.{common_steps}
use Rattle.std.proofs.Common.{◌≡◌, ◌+◌, ℕ, List, arith}
use Rattle.std.specs.Prelude.{Option, nat_le, slice_index}
use Rattle.iol_octets.specs.declared.control.Mc.{Mc}
use Rattle.iol_octets.specs.Control.{control_octet}
use Rattle.iol_mseq.specs.Shape.{Shape}
use Rattle.iol_mseq.specs.Replies.{answered_od}
use Rattle.iol_mseq.specs.Texts.{master_text}
use Rattle.iol_mseq.specs.declared.master.MasterMsg.{MasterMsg}
use Rattle.iol_link.specs.Attempts.{good_reply, attempt_of}
use Rattle.iol_link.specs.declared.handler.Attempt.{Attempt}
use Rattle.iol_mode.specs.declared.states.State.{State}
use Rattle.iol_mode.specs.Exchanges.{IsSending, attempt_result, tries_in, text_out, layout_out}
use Rattle.iol_app.specs.declared.wire_result.WireResult.TheVariants.{Exchanged}
use Rattle.iol_app.specs.Asking.{outgoing_of, reply_size}
use Rattle.iol_app.specs.WireResults.{verdict_on, verdict_by, wire_result_in}

-- bit 7 of the first octet is that of a read
reads : (mc : Mc) → nat_le 128 (control_octet mc) ≡ mc.read
reads mc = grind (arith, common_steps)

first_is : (layout : Shape) (m : MasterMsg)
    → slice_index (master_text layout m) 0 ≡ control_octet m.mc
first_is layout m = grind (arith, common_steps)

pub size_is : (layout : Shape) (m : MasterMsg)
    → reply_size layout (master_text layout m) ≡ answered_od layout m.mc.read + layout.pd_in + 1
size_is layout m = grind (arith, common_steps, reads, first_is)

-- of one message
verdict_is : (layout : Shape) (m : MasterMsg) (tries : ℕ) (received : Option (List ℕ))
    → let out = outgoing_of layout (master_text layout m) in
    verdict_by (attempt_of tries (good_reply layout m received)) out.reply received
    ≡ verdict_on out received
verdict_is layout m tries received = grind (arith, common_steps, size_is)

-- of the message that is out
pub wire_result_is : (state : State) (received : Option (List ℕ)) (attempt : Attempt)
    → IsSending state
    → attempt ≡ attempt_result state received
    → Exchanged (tries_in state)
    (verdict_by attempt (reply_size (layout_out state) (text_out state)) received)
    ≡ wire_result_in state received
wire_result_is state received attempt sends is = grind (arith, common_steps, verdict_is)
