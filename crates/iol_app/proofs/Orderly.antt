-- The far end as it can be, while a message of STARTUP to the page is out, or a test read.
-- For the clauses of `Core::put_due`, `Core::receive_wake`, `Core::receive` and 5 more.
use Rattle.std.proofs.Common.{◌≡◌, ℕ, false, List, refl}
use Rattle.std.specs.Prelude.{Option}
use Rattle.iol_octets.specs.Control.{control_of}
use Rattle.iol_octets.specs.Checksum as checksum
use Rattle.iol_mseq.specs.Shape.{startup_shape}
use Rattle.iol_mseq.specs.Master.{HasMasterParts}
use Rattle.iol_mseq.specs.Texts.{master_text}
use Rattle.iol_mseq.specs.declared.master.MasterMsg.{MasterMsg}
use Rattle.iol_far.specs.Far.{Far}
use Rattle.iol_far.specs.Local.{LocalStep, locals}
use Rattle.iol_far.specs.Laws.{confirms as octets_confirm}
use Rattle.iol_far.specs.Linked.{TextsAreHeard}
use Rattle.iol_far.specs.Orderly.{IsOrderly, IsToPage, OrderlyLaws}
use Rattle.iol_link.specs.Honest.{test_read}
use Rattle.iol_mode.specs.Messages.{page_read}
use Rattle.iol_app.proofs.ImagesPart.{OutputsSent}
use Rattle.iol_app.proofs.AllLaws.{by_locals}

pub test_confirms : octets_confirm test_read ≡ false
unfolding control_of
test_confirms = refl

test_is : master_text startup_shape (page_read 2) ≡ test_read
unfolding control_of checksum.checksum_of checksum.six_bits_of
test_is = refl

-- the read of the page's first octet has the parts of STARTUP
pub first_parts : HasMasterParts startup_shape (page_read 2)
unfolding control_of
first_parts = record { out = refl; od = refl }

-- the test read is that of the page's first octet
pub test_to_page : TextsAreHeard → IsToPage test_read (page_read 2)
unfolding control_of
test_to_page heard = record {
  heard = rw test_is at (heard startup_shape (page_read 2) first_parts);
  page = refl;
}

module _ (leaves : OrderlyLaws) where
  pub orderly_locals : (far : Far) (steps : List LocalStep) → IsOrderly far
      → IsOrderly (locals far steps)
  orderly_locals far steps = by_locals IsOrderly leaves.steps steps far

  -- no output is left of the far end's
  pub alike_sent : (sent : Option (List ℕ)) (far : Far) (o : List ℕ) (m : MasterMsg)
      → IsToPage o m → IsOrderly far → OutputsSent sent far o
  alike_sent sent far o m to_page orderly there heard e =
      rw (leaves.alike far o m to_page orderly there heard e).output tt
