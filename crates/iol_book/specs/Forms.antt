-- An entry of a journal is a ticket, a form and octets: those of a write, or of the answer to a
-- read.
use Rattle.std.specs.Prelude.{ℕ, List, [], Option, None, Some}
use Rattle.iol_isdu.specs.declared.values.Request.{Request}
use Rattle.iol_isdu.specs.declared.values.Request.TheVariants as request
use Rattle.iol_isdu.specs.declared.values.Answer.TheVariants as answer
use Rattle.iol_book.specs.Limits.{most_data}
use Rattle.iol_book.specs.declared.entries.Ticket.{Ticket}
use Rattle.iol_book.specs.declared.entries.Outcome.{Outcome}
use Rattle.iol_book.specs.declared.entries.Outcome.TheVariants as outcome
use Rattle.iol_book.specs.declared.entries.Entry.{Entry}
use Rattle.iol_book.specs.declared.entries.Entry.TheVariants as entry
use Rattle.iol_book.specs.declared.forms.RequestForm.{RequestForm}
use Rattle.iol_book.specs.declared.forms.RequestForm.TheVariants as request_form
use Rattle.iol_book.specs.declared.forms.OutcomeForm.{OutcomeForm}
use Rattle.iol_book.specs.declared.forms.OutcomeForm.TheVariants as outcome_form
use Rattle.iol_book.specs.declared.forms.EntryForm.{EntryForm}
use Rattle.iol_book.specs.declared.forms.EntryForm.TheVariants as form

abbrev pub form_of_request : Request → RequestForm
form_of_request (request.Read place) = request_form.Read place
form_of_request (request.Write place octets) = request_form.Write place

abbrev pub octets_of_request : Request → List ℕ
octets_of_request (request.Read place) = []
octets_of_request (request.Write place octets) = octets.items

abbrev pub request_from : RequestForm → List ℕ → Request
request_from (request_form.Read place) octets = request.Read place
request_from (request_form.Write place) octets = request.Write place (record { items = octets })

abbrev pub form_of_outcome : Outcome → OutcomeForm
form_of_outcome (outcome.Done (answer.Read octets)) = outcome_form.Read
form_of_outcome (outcome.Done answer.Written) = outcome_form.Written
form_of_outcome (outcome.Done (answer.Refused error more)) = outcome_form.Refused error more
form_of_outcome (outcome.Unknown cause) = outcome_form.Unknown cause
form_of_outcome outcome.Withdrawn = outcome_form.Withdrawn
form_of_outcome outcome.NoIsdu = outcome_form.NoIsdu

abbrev pub octets_of_outcome : Outcome → List ℕ
octets_of_outcome (outcome.Done (answer.Read octets)) = octets.items
octets_of_outcome other = []

abbrev pub outcome_from : OutcomeForm → List ℕ → Outcome
outcome_from outcome_form.Read octets = outcome.Done (answer.Read (record { items = octets }))
outcome_from outcome_form.Written octets = outcome.Done answer.Written
outcome_from (outcome_form.Refused error more) octets = outcome.Done (answer.Refused error more)
outcome_from (outcome_form.Unknown cause) octets = outcome.Unknown cause
outcome_from outcome_form.Withdrawn octets = outcome.Withdrawn
outcome_from outcome_form.NoIsdu octets = outcome.NoIsdu

abbrev pub form_of_entry : Entry → EntryForm
form_of_entry (entry.Submitted ticket request) = form.Submitted (form_of_request request)
form_of_entry (entry.Urgent ticket request) = form.Urgent (form_of_request request)
form_of_entry (entry.Taken ticket) = form.Taken
form_of_entry (entry.Answered ticket outcome) = form.Answered (form_of_outcome outcome)
form_of_entry (entry.Withdrawn ticket) = form.Withdrawn
form_of_entry (entry.Collected ticket) = form.Collected
form_of_entry (entry.Abandoned ticket) = form.Abandoned

-- the request of an entry of a form
abbrev pub request_form_in : EntryForm → Option RequestForm
request_form_in (form.Submitted asked) = Some asked
request_form_in (form.Urgent asked) = Some asked
request_form_in other = None

-- the octets that an entry has
abbrev pub octets_of_entry : Entry → List ℕ
octets_of_entry (entry.Submitted ticket request) = octets_of_request request
octets_of_entry (entry.Urgent ticket request) = octets_of_request request
octets_of_entry (entry.Answered ticket outcome) = octets_of_outcome outcome
octets_of_entry other = []

abbrev pub entry_from : EntryForm → Ticket → List ℕ → Entry
entry_from (form.Submitted asked) ticket octets =
    entry.Submitted ticket (request_from asked octets)
entry_from (form.Urgent asked) ticket octets = entry.Urgent ticket (request_from asked octets)
entry_from form.Taken ticket octets = entry.Taken ticket
entry_from (form.Answered ended) ticket octets =
    entry.Answered ticket (outcome_from ended octets)
entry_from form.Withdrawn ticket octets = entry.Withdrawn ticket
entry_from form.Collected ticket octets = entry.Collected ticket
entry_from form.Abandoned ticket octets = entry.Abandoned ticket

-- how many octets an entry of a form has at most
abbrev pub most_octets : EntryForm → ℕ
most_octets (form.Submitted (request_form.Write place)) = most_data
most_octets (form.Urgent (request_form.Write place)) = most_data
most_octets (form.Answered outcome_form.Read) = most_data
most_octets other = 0
