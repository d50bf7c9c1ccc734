-- The first octet alone says which message octets are, in every layout.
-- For the clauses of `laws::rise_gives`, `laws::receive_gives` and `laws::wake_gives`.
use Rattle.std.proofs.Common.{◌≡◌, ℕ, List, ap, arith}
use Rattle.std.proofs.lemmas.Grind.{common_steps}
use Rattle.std.specs.Prelude.{Some, slice_index}
use Rattle.iol_octets.specs.Control.{control_of}
use Rattle.iol_mseq.specs.Shape.{Shape}
use Rattle.iol_mseq.specs.declared.master.MasterMsg.{MasterMsg}
use Rattle.iol_far.specs.Codec.{message_in}
use Rattle.iol_far.specs.Laws.{confirms as octets_confirm}
use Rattle.iol_app.specs.Abstract.OfDevice.{confirms_by}

pub mc_of : (layout : Shape) (o : List ℕ) (m : MasterMsg) → message_in layout o ≡ Some m
    → m.mc ≡ control_of (slice_index o 0)
unfolding message_in
mc_of layout o m e = grind (arith, common_steps)

pub confirms_of : (layout : Shape) (o : List ℕ) (m : MasterMsg) → message_in layout o ≡ Some m
    → confirms_by m.mc ≡ octets_confirm o
confirms_of layout o m e = ap confirms_by (mc_of layout o m e)
