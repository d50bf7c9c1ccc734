-- What a turn tells the book.
-- For the clauses of `PortCore::turn`.
use Rattle.std.proofs.Common.{◌≡◌, ◌∷◌, [], ◌++◌, Bool, cond, not, ◌&&◌, Option, arith}
use Rattle.std.proofs.lemmas.Grind.{common_steps}
use Rattle.iol_isdu.specs.declared.values.Request.{Request}
use Rattle.iol_link.specs.WireFacts.{WireFacts}
use Rattle.iol_book.specs.BookModel.{BookState}
use Rattle.iol_app.specs.declared.report.Said.{Said}
use Rattle.iol_app.specs.Abstract.Steps.{Reset, through_steps}
use Rattle.iol_app.specs.Abstract.OfMaster.{resets, steps_for_book}
use Rattle.iol_app.specs.declared.event_work.EventRoom.{EventRoom}
use Rattle.iol_app.specs.Core.{CoreState}
use Rattle.iol_app.specs.Pieces.{SendsMessage, IsMade, IsWholeTurn}
use Rattle.iol_app.specs.Asking.{asked_in, core_with_request}
use Rattle.iol_mode.specs.States.{is_reset}
use Rattle.iol_app.specs.declared.wire_result.WireResult.{WireResult}
use Rattle.iol_port.specs.Steps.{book_after}

-- the device was reset where both cores say so
pub book_reported : (old mid new : CoreState) (next : Option Request)
    (room : EventRoom) (reset began ended : Bool) (report : Said) (b : BookState)
    → mid ≡ core_with_request next old room → began ≡ is_reset mid.state
    → ended ≡ is_reset new.state → reset ≡ (not began && ended)
    → through_steps book_after (cond reset (Reset ∷ []) [] ++ steps_for_book report) b
    ≡ through_steps book_after (resets (is_reset old.state) (is_reset new.state)
    ++ steps_for_book report) b
book_reported old mid new next room reset began ended report b begun from to is =
    grind (arith, common_steps)

module _ {W : Type 0} (facts : WireFacts W) {wire wire' : W} {report : Said}
    {wire_result : WireResult}
    {new : CoreState} where
  -- a turn, by what it began with
  pub turned_at : {room has : EventRoom} {old begun : CoreState}
      → (t : IsWholeTurn facts room wire wire' old report wire_result new) → room ≡ has
      → old ≡ begun
      → SendsMessage has begun t.mid
      × IsMade facts wire wire' (asked_in begun.state begun.session has) t.mid report
      wire_result new
  turned_at t same is = rw (← same, ← is) (t.puts.sent, t.made)
