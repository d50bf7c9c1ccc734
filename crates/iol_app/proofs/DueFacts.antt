-- What is known of the exchange that is due.
-- For the clauses of `Core::put_due`, `Core::receive_wake`, `Core::receive` and 4 more.
use Rattle.std.proofs.lemmas.Grind.{common_steps}
use Rattle.std.proofs.Common.{arith, ◌≡◌, true, false}
use Rattle.std.specs.Prelude.{◌⊎◌}
use Rattle.iol_app.specs.Exchange.{output_due}
use Rattle.iol_app.specs.declared.event_work.EventRoom.{EventRoom}
use Rattle.iol_app.specs.declared.event_work.EventRoom.TheVariants.{Left}
use Rattle.iol_app.specs.declared.session.Purpose.{Purpose}
use Rattle.iol_app.specs.declared.session.Purpose.TheVariants.{ReadEvent, ConfirmEvents, Request}
use Rattle.iol_app.specs.Requests.{Suits, aborts}
use Rattle.iol_app.specs.Due.{is_under_way, is_confirm_due, is_resting, due_of}
use Rattle.iol_app.specs.Ends.{output_for}
use Rattle.iol_app.specs.State.{SessionState}

pub record IsDue (s : SessionState) (room : EventRoom) (exchange : Purpose) : Type 0 where
  pub suits : Suits exchange s.current
  pub output : output_for exchange ≡ output_due s.output.wanted s.output.acknowledged
  pub confirm : exchange ≡ ConfirmEvents → is_confirm_due s.events.reading ≡ true
  pub reads : exchange ≡ ReadEvent
      → (is_under_way s.events.reading ≡ true)
      ⊎ ((is_resting s.events.reading ≡ true) × (s.events.flag ≡ true) × (room ≡ Left))
  pub asks : exchange ≡ Request → aborts s.current ≡ false

pub due_is : (s : SessionState) (room : EventRoom) → IsDue s room (due_of s room)
due_is s room = grind (arith, common_steps)
