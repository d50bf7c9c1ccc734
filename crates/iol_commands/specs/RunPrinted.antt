-- What `run` prints for the answers to its calls, and for the device's record.
use Rattle.std.specs.Prelude.{ℕ, ◌/◌, ◌%◌, Bool, true, false, ◌&&◌, nat_lt, if◌then◌else◌, Option, Some, None, List, [], ◌∷◌, ◌++◌, length, flat_map, codes}
use Rattle.std.specs.List.{list_any}
use Rattle.std.specs.Fmt.{decimal}
use Rattle.iol_isdu.specs.declared.values.Place.{Place}
use Rattle.iol_isdu.specs.declared.values.Request.{Request}
use Rattle.iol_isdu.specs.declared.values.Request.TheVariants as request
use Rattle.iol_isdu.specs.declared.values.Answer.{Answer}
use Rattle.iol_isdu.specs.declared.values.Answer.TheVariants as answer
use Rattle.iol_event.specs.declared.event.Event.{Event}
use Rattle.iol_far.specs.declared.carried.Carried.{Carried}
use Rattle.iol_mode.specs.declared.why.Why.{Why}
use Rattle.iol_mode.specs.declared.why.Why.TheVariants.{NoWake, Lost, Revision, BadPdLength, UnsupportedCode, WrongDevice, Interleaved}
use Rattle.iol_app.specs.declared.mode.Mode.{Mode}
use Rattle.iol_app.specs.declared.mode.Mode.TheVariants.{Down, Startup, Preoperate, Operate}
use Rattle.iol_app.specs.declared.core_data.Status.{Status}
use Rattle.iol_app.specs.declared.output.OutputFault.{OutputFault}
use Rattle.iol_app.specs.declared.output.OutputFault.TheVariants.{WrongImageLength, NoLayout}
use Rattle.iol_book.specs.declared.entries.Outcome.{Outcome}
use Rattle.iol_book.specs.declared.entries.Outcome.TheVariants.{Done, Unknown, Withdrawn, NoIsdu}
use Rattle.iol_book.specs.declared.entries.Ticket.{Ticket}
use Rattle.iol_book.specs.declared.fault.BookFault.{BookFault}
use Rattle.iol_book.specs.declared.fault.BookFault.TheVariants.{Full, JournalFull, TicketsSpent, OutOfMemory, UnknownTicket, NotYet, TakenAlready, Outstanding, NotInFlight, NoJournal}
use Rattle.iol_port.specs.Faults.{port_fault_number}
use Rattle.iol_port.specs.declared.call.Call.{Call}
use Rattle.iol_port.specs.declared.call.Call.TheVariants as call
use Rattle.iol_port.specs.declared.call.Counting.{Counting}
use Rattle.iol_port.specs.declared.call.Counting.TheVariants.{Now, Later}
use Rattle.iol_port.specs.declared.call.Answered.{Answered}
use Rattle.iol_port.specs.declared.call.Answered.TheVariants as answered
use Rattle.iol_port.specs.declared.call.DrainCounts.{DrainCounts}
use Rattle.iol_port.specs.declared.fault.PortFault.{PortFault}
use Rattle.iol_port.specs.declared.fault.PortFault.TheVariants.{Book, Output, NoEvent}
use Rattle.iol_print.specs.Printed.{hexadecimal, octets_text}
use Rattle.iol_commands.specs.Printed.{number_text}
use Rattle.iol_commands.specs.CountersPrinted.{cause_name, counters_text}

-- Requests and answers

-- octets, each behind a space; a dash where there is none
abbrev pub listed_text : List ℕ → List ℕ
listed_text [] = codes " -"
listed_text (octet ∷ octets) = octets_text (octet ∷ octets)

-- an index and a subindex
abbrev pub place_text : Place → List ℕ
place_text place = decimal place.index ++ codes " " ++ decimal place.sub

-- a request, with the octets of a write
abbrev pub printed_request : Request → List ℕ
printed_request (request.Read place) = codes "read " ++ place_text place
printed_request (request.Write place octets) =
    codes "write " ++ place_text place ++ listed_text octets.items

-- what the device answered to it
abbrev pub device_text : Answer → List ℕ
device_text (answer.Read octets) = codes "read" ++ listed_text octets.items
device_text answer.Written = codes "written"
device_text (answer.Refused error additional) =
    codes "refused" ++ octets_text (error ∷ additional ∷ [])

-- Tickets and outcomes

-- how a request ended
abbrev pub outcome_text : Outcome → List ℕ
outcome_text (Done reply) = codes " done " ++ device_text reply
outcome_text (Unknown cause) = codes " unknown " ++ cause_name cause
outcome_text Withdrawn = codes " withdrawn"
outcome_text NoIsdu = codes " noisdu"

abbrev pub ticket_text : Ticket → List ℕ
ticket_text ticket = number_text (codes "ticket ") ticket.0

-- the line of an outcome, with the ticket that was collected; no other call hands one out
abbrev pub collected_text : Call → Outcome → List ℕ
collected_text (call.Collect ticket) outcome =
    ticket_text ticket ++ outcome_text outcome ++ codes "\n"
collected_text other outcome = []

-- Process data and events

-- the line of an image
abbrev pub image_text : Option (List ℕ) → List ℕ
image_text None = codes "image none\n"
image_text (Some octets) = codes "image" ++ octets_text octets ++ codes "\n"

-- a code in four hexadecimal digits
abbrev pub code_text : ℕ → List ℕ
code_text code = hexadecimal (code / 256) ++ hexadecimal (code % 256)

-- an event: its qualifier and its code
abbrev pub event_text : Event → List ℕ
event_text event =
    codes "event " ++ hexadecimal event.qualifier ++ codes " " ++ code_text event.code

-- The link

abbrev pub mode_name : Mode → List ℕ
mode_name Down = codes "down"
mode_name Startup = codes "startup"
mode_name Preoperate = codes "preoperate"
mode_name Operate = codes "operate"

-- the name of the fault for which a link is down
abbrev pub why_name : Why → List ℕ
why_name NoWake = codes "NoWake"
why_name Lost = codes "Lost"
why_name (Revision octet) = codes "Revision"
why_name BadPdLength = codes "BadPdLength"
why_name UnsupportedCode = codes "UnsupportedCode"
why_name (WrongDevice found) = codes "WrongDevice"
why_name Interleaved = codes "Interleaved"

abbrev pub why_text : Option Why → List ℕ
why_text None = []
why_text (Some why) = codes " " ++ why_name why

-- the mode of a link, and the fault for which it is down
abbrev pub link_text : Mode → Option Why → List ℕ
link_text mode why = codes "status " ++ mode_name mode ++ why_text why

-- the line of a status
abbrev pub state_text : Status → List ℕ
state_text status = link_text status.mode status.why
    ++ (if status.event_form then codes " eventform" else []) ++ codes "\n"

-- a DeviceID in six hexadecimal digits
abbrev pub device_id_text : ℕ → List ℕ
device_id_text device = hexadecimal (device / 65536 % 256) ++ hexadecimal (device / 256 % 256)
    ++ hexadecimal (device % 256)

-- the VendorID and the DeviceID of the device that was found in the place of the expected one
abbrev pub found_text : Why → List ℕ
found_text (WrongDevice found) =
    codes " " ++ code_text found.vendor ++ codes " " ++ device_id_text found.device
found_text why = []

-- the line that says why the last session ended
abbrev pub loss_text : Option Why → List ℕ
loss_text None = codes "last none\n"
loss_text (Some why) = codes "last " ++ why_name why ++ found_text why ++ codes "\n"

-- Refusals

abbrev pub book_fault_name : BookFault → List ℕ
book_fault_name Full = codes "Full"
book_fault_name JournalFull = codes "JournalFull"
book_fault_name TicketsSpent = codes "TicketsSpent"
book_fault_name OutOfMemory = codes "OutOfMemory"
book_fault_name UnknownTicket = codes "UnknownTicket"
book_fault_name NotYet = codes "NotYet"
book_fault_name TakenAlready = codes "TakenAlready"
book_fault_name Outstanding = codes "Outstanding"
book_fault_name NotInFlight = codes "NotInFlight"
book_fault_name NoJournal = codes "NoJournal"

abbrev pub output_fault_name : OutputFault → List ℕ
output_fault_name WrongImageLength = codes "WrongImageLength"
output_fault_name NoLayout = codes "NoLayout"

-- the name of a refusal
abbrev pub port_fault_name : PortFault → List ℕ
port_fault_name (Book fault) = book_fault_name fault
port_fault_name (Output fault) = output_fault_name fault
port_fault_name NoEvent = codes "NoEvent"

-- the line of a refusal: its number and its name
abbrev pub refused_text : PortFault → List ℕ
refused_text fault = codes "refused " ++ decimal (port_fault_number fault) ++ codes " "
    ++ port_fault_name fault ++ codes "\n"

-- The device

-- the line of what is expected, or of a cycle time: whether it counts now or later
abbrev pub counting_text : Counting → List ℕ
counting_text Now = codes "ok\n"
counting_text Later = codes "ok later\n"

-- the line of a page
abbrev pub page_text : Option (List ℕ) → List ℕ
page_text None = codes "page none\n"
page_text (Some octets) = codes "page" ++ octets_text octets ++ codes "\n"

-- Answers

-- a call without an answer: a turn prints nothing
abbrev pub nothing_text : Call → List ℕ
nothing_text call.Turn = []
nothing_text other = codes "ok\n"

-- the line of a drain: how many entries it handed out, and how many of these are restated
abbrev pub drained_text : DrainCounts → List ℕ
drained_text drained = codes "drained " ++ decimal drained.entries ++ codes " restated "
    ++ decimal drained.restated ++ codes "\n"

-- what is printed for a call that was answered so
abbrev pub printed_answer : Call → Answered → List ℕ
printed_answer call (answered.Ticket ticket) = ticket_text ticket ++ codes "\n"
printed_answer call (answered.Refused fault) = refused_text fault
printed_answer call (answered.Outcome outcome) = collected_text call outcome
printed_answer call (answered.Image image) = image_text image
printed_answer call (answered.Event event) = event_text event ++ codes "\n"
printed_answer call (answered.Status status) = state_text status
printed_answer call (answered.Archived count) = number_text (codes "archived ") count ++ codes "\n"
printed_answer call (answered.Drained drained) = drained_text drained
printed_answer call (answered.Counts counting) = counting_text counting
printed_answer call (answered.Page page) = page_text page
printed_answer call (answered.Counters counters) = counters_text counters
printed_answer call (answered.LastLoss loss) = loss_text loss
printed_answer call answered.Nothing = nothing_text call

-- what is printed for calls, each with its answer
abbrev pub answers_text : List Call → List Answered → List ℕ
answers_text (call ∷ calls) (answer ∷ answers) =
    printed_answer call answer ++ answers_text calls answers
answers_text calls answers = []

-- The record

-- the line of a request that the device carried out, and its answer
abbrev pub carried_text : Carried → List ℕ
carried_text entry = codes "carried " ++ printed_request entry.request ++ codes ": "
    ++ device_text entry.answer ++ codes "\n"

-- the lines of a record
abbrev pub entries_text : List Carried → List ℕ
entries_text entries = flat_map carried_text entries

-- those of the device that isn't plugged in, where there is a second one
abbrev pub away_text : Option (List Carried) → List ℕ
away_text None = []
away_text (Some entries) = number_text (codes "away ") (length entries) ++ codes "\n"
    ++ entries_text entries

-- how many there are, and each
abbrev pub record_text : List Carried → List ℕ
record_text entries = number_text (codes "record ") (length entries) ++ codes "\n"
    ++ entries_text entries

-- The events that were refused

-- a call that asks for the counters
abbrev pub is_counters : Call → Bool
is_counters call.Counters = true
is_counters other = false

-- how many there are, where there is one and a call asks for the counters
abbrev pub refused_events_text : List Call → ℕ → List ℕ
refused_events_text calls count = if nat_lt 0 count && list_any is_counters calls
    then number_text (codes "events refused ") count ++ codes "\n" else []
