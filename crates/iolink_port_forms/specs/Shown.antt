-- What C is shown of a status, an outcome, an entry of a journal and what was counted, as numbers.
use Rattle.std.specs.Prelude.{◌≡◌, ℕ, List, [], ◌∷◌, Option, Some, None}
use Rattle.iol_isdu.specs.declared.values.Answer.{Answer}
use Rattle.iol_isdu.specs.declared.values.Answer.TheVariants.{Read, Written, Refused}
use Rattle.iol_isdu.specs.declared.values.Cause.{Cause}
use Rattle.iol_isdu.specs.declared.values.Cause.TheVariants.{LinkLost, Restarted, BusyTooLong, Protocol, Cancelled}
use Rattle.iol_book.specs.declared.entries.Entry.{Entry}
use Rattle.iol_book.specs.declared.entries.Entry.TheVariants as entry
use Rattle.iol_book.specs.declared.entries.Outcome.{Outcome}
use Rattle.iol_book.specs.declared.entries.Outcome.TheVariants.{Done, Unknown, Withdrawn, NoIsdu}
use Rattle.iol_mode.specs.declared.why.Why.{Why}
use Rattle.iol_mode.specs.declared.why.Why.TheVariants.{WrongDevice}
use Rattle.iol_mode.specs.Why.{why_number}
use Rattle.iol_app.specs.declared.mode.Mode.{Mode}
use Rattle.iol_app.specs.declared.mode.Mode.TheVariants.{Down, Startup, Preoperate, Operate}
use Rattle.iol_app.specs.declared.core_data.Status.{Status}
use Rattle.iol_event.specs.declared.event.Event.{Event}
use Rattle.iol_port.specs.declared.counters.Counters.{Counters}
use Rattle.iolink_handle.specs.Shown.{AreShown, RequestIsShown}
use Rattle.iolink_port_forms.specs.declared.state.IolStatus.{IolStatus}
use Rattle.iolink_port_forms.specs.declared.state.IolEvent.{IolEvent}
use Rattle.iolink_port_forms.specs.declared.outcome.IolOutcome.{IolOutcome}
use Rattle.iolink_port_forms.specs.declared.journal.IolEntry.{IolEntry}
use Rattle.iolink_port_forms.specs.declared.counters.IolCounters.{IolCounters}
use Rattle.iolink_port_forms.specs.declared.loss.IolLoss.{IolLoss}

-- a mode's number
abbrev pub port_mode_number : Mode → ℕ
port_mode_number Down = 1
port_mode_number Startup = 2
port_mode_number Preoperate = 3
port_mode_number Operate = 4

-- the number of the fault that led down, 0 for none
abbrev pub why_shown : Option Why → ℕ
why_shown None = 0
why_shown (Some why) = why_number why

-- why the last session ended, as C is shown it: with the device that was found in the place of the
-- expected one
abbrev pub loss_shown : Option Why → IolLoss
loss_shown (Some (WrongDevice found)) =
    record { why = 38; vendor = found.vendor; device = found.device }
loss_shown loss = record { why = why_shown loss; vendor = 0; device = 0 }

-- a status as C is shown it
abbrev pub StatusIsShown : Status → IolStatus → Type 0
StatusIsShown status out =
    (out.mode ≡ port_mode_number status.mode) × (out.why ≡ why_shown status.why)
    × (out.event_form ≡ status.event_form)

-- an event as C is shown it
abbrev pub IsEvent : Event → IolEvent → Type 0
IsEvent event out = (out.qualifier ≡ event.qualifier) × (out.code ≡ event.code)

-- an answer's kind
abbrev pub answer_kind : Answer → ℕ
answer_kind (Read octets) = 1
answer_kind Written = 2
answer_kind (Refused code additional) = 3

-- an outcome's kind
abbrev pub outcome_kind : Outcome → ℕ
outcome_kind (Done answer) = answer_kind answer
outcome_kind (Unknown cause) = 8
outcome_kind Withdrawn = 12
outcome_kind NoIsdu = 16

-- a cause's number
abbrev pub cause_number : Cause → ℕ
cause_number LinkLost = 1
cause_number Restarted = 2
cause_number BusyTooLong = 3
cause_number Protocol = 4
cause_number Cancelled = 5

-- the cause of an outcome that is unknown, else 0
abbrev pub outcome_cause : Outcome → ℕ
outcome_cause (Unknown cause) = cause_number cause
outcome_cause other = 0

-- the octets of an answer: those that were read, or ErrorCode and AdditionalCode
abbrev pub answer_octets : Answer → List ℕ
answer_octets (Read octets) = octets.items
answer_octets Written = []
answer_octets (Refused code additional) = code ∷ additional ∷ []

-- the octets of an outcome
abbrev pub outcome_octets : Outcome → List ℕ
outcome_octets (Done answer) = answer_octets answer
outcome_octets other = []

-- an outcome as C is shown it
abbrev pub OutcomeIsShown : Outcome → IolOutcome → Type 0
OutcomeIsShown outcome out =
    (out.kind ≡ outcome_kind outcome) × (out.cause ≡ outcome_cause outcome)
    × AreShown (outcome_octets outcome) out.length out.octets

-- whether a request or an outcome is shown: their kinds are 0 where none is
abbrev pub HasNoRequest : IolEntry → Type 0
HasNoRequest out = out.request.kind ≡ 0

abbrev pub HasNoOutcome : IolEntry → Type 0
HasNoOutcome out = out.outcome.kind ≡ 0

-- an entry of a journal as C is shown it
abbrev pub IsEntry : Entry → IolEntry → Type 0
IsEntry (entry.Submitted ticket request) out = (out.kind ≡ 1) × (out.ticket ≡ ticket.0)
    × RequestIsShown request out.request × HasNoOutcome out
IsEntry (entry.Urgent ticket request) out = (out.kind ≡ 2) × (out.ticket ≡ ticket.0)
    × RequestIsShown request out.request × HasNoOutcome out
IsEntry (entry.Taken ticket) out = (out.kind ≡ 8) × (out.ticket ≡ ticket.0) × HasNoRequest out
    × HasNoOutcome out
IsEntry (entry.Answered ticket outcome) out = (out.kind ≡ 9) × (out.ticket ≡ ticket.0)
    × OutcomeIsShown outcome out.outcome × HasNoRequest out
IsEntry (entry.Withdrawn ticket) out = (out.kind ≡ 12) × (out.ticket ≡ ticket.0) × HasNoRequest out
    × HasNoOutcome out
IsEntry (entry.Collected ticket) out = (out.kind ≡ 16) × (out.ticket ≡ ticket.0) × HasNoRequest out
    × HasNoOutcome out
IsEntry (entry.Abandoned ticket) out = (out.kind ≡ 17) × (out.ticket ≡ ticket.0) × HasNoRequest out
    × HasNoOutcome out

-- the next entry, or kind 0 at the end
abbrev pub IsNext : Option Entry → IolEntry → Type 0
IsNext None out = (out.kind ≡ 0) × HasNoRequest out × HasNoOutcome out
IsNext (Some entry) out = IsEntry entry out

-- what was counted, as C is shown it
abbrev pub counters_shown : Counters → IolCounters
counters_shown c = record {
  exchanges = c.exchanges;
  good_replies = c.good_replies;
  repeats = c.repeats;
  no_reply = c.no_reply;
  wrong_length = c.wrong_length;
  wrong_checksum = c.wrong_checksum;
  links_lost = c.links_lost;
  start_ups = c.start_ups;
  done = c.done;
  unknown_link_lost = c.unknown.link_lost;
  unknown_restarted = c.unknown.restarted;
  unknown_busy_too_long = c.unknown.busy_too_long;
  unknown_protocol = c.unknown.protocol;
  unknown_cancelled = c.unknown.cancelled;
}
