-- What the calls of a stored port rest on.
-- For the clauses of `StoredPort::collect_asked`, `StoredPort::set_output`,
--     `StoredPort::show_output` and 2 more.
use Rattle.std.proofs.Common.{◌≡◌, Bool, true, false, [], ◌∷◌, Some, Option, Result, Ok, Err, refl, subst}
use Rattle.std.specs.Prelude.{is_ok}
use Rattle.iol_book.specs.BookModel.{in_place}
use Rattle.iol_isdu.specs.declared.values.Request.{Request}
use Rattle.iol_book.specs.declared.entries.Outcome.{Outcome}
use Rattle.iol_book.specs.declared.entries.Serve.{Serve}
use Rattle.iol_book.specs.declared.entries.Ticket.{Ticket}
use Rattle.iol_book.specs.BookModel.{book_after_submit}
use Rattle.iol_app.specs.Abstract.Steps.{ImageOctets}
use Rattle.iol_port.specs.declared.call.Call.{Call}
use Rattle.iol_port.specs.declared.call.Call.TheVariants as call
use Rattle.iol_port.specs.declared.call.Answered.{Answered}
use Rattle.iol_port.specs.declared.call.Answered.TheVariants as answered
use Rattle.iol_port.specs.declared.fault.PortFault.{PortFault}
use Rattle.iol_port.specs.Called.{CoreCalled}
use Rattle.iol_port.specs.EveryWire.{SubmitGives, CollectGives, WithdrawGives, ServeGives, SetOutputGives, ClearOutputGives}
use Rattle.iol_port.specs.Replies.{ticket_reply, outcome_reply, nothing_reply}
use Rattle.iol_port.specs.View.{PortParts}
use Rattle.iol_storage.specs.declared.stored.storage.Storage.{Storage}
use Rattle.iol_storage.specs.Stored.{storage_heard}
use Rattle.iol_storage.specs.StoredPort.{StoredParts, CoreMakes, CoreCalls, CollectsOf, storage_answered, storage_submitted}

-- A call of the port within, in all that is said of it

module _ (p q : PortParts) where
  pub made-submit : (request : Request) (result : Result Ticket PortFault)
      → CoreCalled p q (call.Submit request) (ticket_reply result)
      (SubmitGives p (book_after_submit p.book.state request) result q)
      → CoreMakes p (call.Submit request) (ticket_reply result) q
  made-submit request result called =
      record { does = called.does; gives = (result, refl, called.gives) }

  pub made-collect : (ticket : Ticket) (result : Result Outcome PortFault)
      → CoreCalled p q (call.Collect ticket) (outcome_reply result)
      (CollectGives p ticket result q)
      → CoreMakes p (call.Collect ticket) (outcome_reply result) q
  made-collect ticket result called =
      record { does = called.does; gives = (result, refl, called.gives) }

  pub made-withdraw : (ticket : Ticket) (result : Result (Unit {0}) PortFault)
      → CoreCalled p q (call.Withdraw ticket) (nothing_reply result)
      (WithdrawGives p ticket result q)
      → CoreMakes p (call.Withdraw ticket) (nothing_reply result) q
  made-withdraw ticket result called =
      record { does = called.does; gives = (result, refl, called.gives) }

  pub made-serve : (which : Serve)
      → CoreCalled p q (call.Serve which) answered.Nothing (ServeGives p which q)
      → CoreMakes p (call.Serve which) answered.Nothing q
  made-serve which called = record { does = called.does; gives = (refl, called.gives) }

  pub made-output : (image : ImageOctets) (result : Result (Unit {0}) PortFault)
      → CoreCalled p q (call.SetOutput image) (nothing_reply result)
      (SetOutputGives p image result q)
      → CoreMakes p (call.SetOutput image) (nothing_reply result) q
  made-output image result called =
      record { does = called.does; gives = (result, refl, called.gives) }

  pub made-output-taken : (image : ImageOctets) (result : Result (Unit {0}) PortFault)
      (unit : Unit {0}) → result ≡ Ok unit
      → CoreCalled p q (call.SetOutput image) (nothing_reply result)
      (SetOutputGives p image result q)
      → CoreMakes p (call.SetOutput image) answered.Nothing q
  made-output-taken image result unit taken called =
      subst (λ (r : Result (Unit {0}) PortFault).
      CoreMakes p (call.SetOutput image) (nothing_reply r) q) taken
      (made-output image result called)

  pub made-clear : CoreCalled p q call.ClearOutput answered.Nothing (ClearOutputGives p q)
      → CoreMakes p call.ClearOutput answered.Nothing q
  made-clear called = record { does = called.does; gives = (refl, called.gives) }

  pub one-call : (c : Call) (reply : Answered) → CoreMakes p c reply q
      → CoreCalls p ((c, reply) ∷ []) q
  one-call c reply made = (q, made, refl)

-- what is heard of a request is its outcome, if there is one
pub heard-one : (result : Result (Unit {0}) PortFault) (outcome : Outcome) (s heard : Storage)
    → is_ok result ≡ true → heard ≡ storage_heard s outcome
    → heard ≡ storage_answered s
    (outcome_reply (in_place outcome result))
heard-one (Ok _) outcome s heard ok is = is
heard-one (Err why) outcome s heard ok is = absurd (cc)

pub heard-none : (result : Result (Unit {0}) PortFault) (outcome : Outcome) (s : Storage)
    → is_ok result ≡ false
    → s ≡ storage_answered s (outcome_reply (in_place outcome result))
heard-none (Ok _) outcome s none = absurd (cc)
heard-none (Err why) outcome s none = refl

-- of what is submitted, the ticket, if it gets one
pub submitted-one : (result : Result Ticket PortFault) (ticket : Ticket) (s : Storage)
    → result ≡ Ok ticket
    → record s { asked = Some ticket } ≡ storage_submitted s (ticket_reply result)
submitted-one result ticket s is = rw is refl

pub submitted-none : (result : Result Ticket PortFault) (s : Storage)
    → ((ticket : Ticket) → result ≡ Ok ticket → ⊥) → s ≡ storage_submitted s (ticket_reply result)
submitted-none (Ok ticket) s none = absurd (none ticket refl)
submitted-none (Err why) s none = refl

-- what came of a job's request, out of a session and in one
module _ (old : StoredParts) (asked : Option Ticket) (ticket : Ticket)
    (is : asked ≡ Some ticket) (session : Bool) (q : PortParts) (s : Storage)
    (collected : Result Outcome PortFault)
    (answer_is : s ≡ storage_answered old.storage (outcome_reply collected)) where
  pub collected-out : (mid : PortParts) (withdrawn : Result (Unit {0}) PortFault)
      → CoreCalled old.port mid (call.Withdraw ticket) (nothing_reply withdrawn)
      (WithdrawGives old.port ticket withdrawn mid)
      → CoreCalled mid q (call.Collect ticket) (outcome_reply collected)
      (CollectGives mid ticket collected q)
      → session ≡ false → CollectsOf asked session old (record old { port = q; storage = s })
  collected-out mid withdrawn withdraws collects out = rw (is, out) (
    nothing_reply withdrawn,
    outcome_reply collected,
    record {
      made = (
        mid,
        made-withdraw old.port mid ticket withdrawn withdraws,
        (q, made-collect mid q ticket collected collects, refl),
      );
      rest = rw (answer_is) refl;
    },
  )

  pub collected-in : CoreCalled old.port q (call.Collect ticket) (outcome_reply collected)
      (CollectGives old.port ticket collected q)
      → session ≡ true → CollectsOf asked session old (record old { port = q; storage = s })
  collected-in collects in-one = rw (is, in-one) (
    answered.Nothing,
    outcome_reply collected,
    record {
      made = (q, made-collect old.port q ticket collected collects, refl);
      rest = rw (answer_is) refl;
    },
  )
