-- The clauses of `Client::submit_one` that the search can't prove.
use Rattle.std.proofs.Common.{refl}
use Rattle.iol_clients.proofs.Submitting.{submits_read, issued, other}
use Rattle.iol_clients.proofs.client.Client.submit_one.Goals as goal

pub returns-in-Ok-clause-submitted : goal.returns-in-Ok-clause-submitted
returns-in-Ok-clause-submitted g c =
    submits_read g.W.Wire.facts _ _ _ _ _ c.requires.port c.in-Ok.ensures.submitted
    c.in-Ok.ensures.entered c.read.ensures _ _
    (rw (c.push_reserved.ensures.items, c.reserve.ensures.items) refl) (issued _ _)

pub returns-in_ok-pass_over-in-Err-clause-submitted :
    goal.returns-in_ok-pass_over-in-Err-clause-submitted
returns-in_ok-pass_over-in-Err-clause-submitted g c =
    submits_read g.W.Wire.facts _ _ _ _ _ c.requires.port c.in-Err.ensures.submitted
    c.in-Err.ensures.entered c.read.ensures _ _ (rw c.reserve.ensures.items refl)
    (other _ _ c.in_ok-pass_over-in-Err.ensures)
