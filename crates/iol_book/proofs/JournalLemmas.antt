-- The entries that lines and octets stand for, and how many octets these have: after one more entry
-- (`push` of `Journal`), and for the memory that a journal needs.
-- For the clauses of `EntriesIterator::next`, `Journal::add`, `Journal::entry_at` and 51 more.
use Rattle.std.proofs.Common.{◌≡◌, ℕ, List, [], ◌∷◌, ◌++◌, length, refl, ap, arith, ◌+◌, ◌*◌, ◌≤◌, take, drop, map, sym, ◌∙◌, Bool, true, false, cond, zero, suc, Option, None, Some, ◌<◌}
use Rattle.std.specs.Prelude.{filter, slice_get, slice_index_or}
use Rattle.std.specs.Option.{option_map}
use Rattle.std.proofs.lemmas.Option.{slice_get-map}
use Rattle.std.proofs.lemmas.List.{append_assoc, drop_more, map-append, take_more}
use Rattle.std.proofs.lemmas.Grind.{common_steps}
use Rattle.iol_isdu.specs.declared.values.Request.{Request}
use Rattle.iol_isdu.specs.declared.values.Request.TheVariants as request
use Rattle.iol_isdu.specs.declared.values.Answer.TheVariants as answer
use Rattle.iol_book.specs.declared.entries.Ticket.{Ticket}
use Rattle.iol_book.specs.declared.entries.Outcome.{Outcome}
use Rattle.iol_book.specs.declared.entries.Outcome.TheVariants as outcome
use Rattle.iol_book.specs.declared.entries.Entry.{Entry}
use Rattle.iol_book.specs.declared.entries.Entry.TheVariants as entry
use Rattle.iol_book.specs.declared.forms.RequestForm.{RequestForm}
use Rattle.iol_book.specs.declared.forms.RequestForm.TheVariants as request_form
use Rattle.iol_book.specs.declared.forms.OutcomeForm.{OutcomeForm}
use Rattle.iol_book.specs.declared.forms.OutcomeForm.TheVariants as outcome_form
use Rattle.iol_book.specs.declared.forms.EntryForm.{EntryForm}
use Rattle.iol_book.specs.declared.forms.EntryForm.TheVariants as form
use Rattle.iol_book.specs.declared.journal.JournalLine.{JournalLine}
use Rattle.iol_book.specs.Lines.{entry_ticket, entry_request, outcome_in}
use Rattle.iol_book.specs.Forms.{form_of_request, request_form_in, octets_of_request, request_from, form_of_outcome, octets_of_outcome, outcome_from, form_of_entry, octets_of_entry, entry_from, most_octets}
use Rattle.iol_book.specs.Limits.{most_data}
use Rattle.iol_book.specs.JournalModel.{octet_sum}
use Rattle.iol_book.specs.JournalInside.{line_octets, line_entry, line_entries, AreInOrder}

-- a request, an outcome, an entry is its form with its octets
pub request-back : (r : Request) → request_from (form_of_request r) (octets_of_request r) ≡ r
request-back (request.Read place) = refl
request-back (request.Write place octets) = refl

pub outcome-back : (o : Outcome) → outcome_from (form_of_outcome o) (octets_of_outcome o) ≡ o
outcome-back (outcome.Done (answer.Read octets)) = refl
outcome-back (outcome.Done answer.Written) = refl
outcome-back (outcome.Done (answer.Refused error more)) = refl
outcome-back (outcome.Unknown cause) = refl
outcome-back outcome.Withdrawn = refl
outcome-back outcome.NoIsdu = refl

pub entry-back : (e : Entry) → entry_from (form_of_entry e) (entry_ticket e) (octets_of_entry e) ≡ e
entry-back (entry.Submitted t r) = ap (entry.Submitted t) (request-back r)
entry-back (entry.Urgent t r) = ap (entry.Urgent t) (request-back r)
entry-back (entry.Taken t) = refl
entry-back (entry.Answered t o) = ap (entry.Answered t) (outcome-back o)
entry-back (entry.Withdrawn t) = refl
entry-back (entry.Collected t) = refl
entry-back (entry.Abandoned t) = refl

-- an entry has the request of its form, or the outcome
pub request-with : (f : EntryForm) (asked : RequestForm) (t : Ticket) (os : List ℕ)
    → request_form_in f ≡ Some asked
    → entry_request (Some (entry_from f t os)) ≡ request_from asked os
request-with (form.Submitted own) asked t os is =
    let same : own ≡ asked = grind (arith, common_steps) in rw same refl
request-with (form.Urgent own) asked t os is =
    let same : own ≡ asked = grind (arith, common_steps) in rw same refl
request-with form.Taken asked t os is = absurd (cc)
request-with (form.Answered ended) asked t os is = absurd (cc)
request-with form.Withdrawn asked t os is = absurd (cc)
request-with form.Collected asked t os is = absurd (cc)
request-with form.Abandoned asked t os is = absurd (cc)

pub no_outcome-with : (f : EntryForm) (t : Ticket) (os : List ℕ)
    → ((ended : OutcomeForm) → f ≡ form.Answered ended → ⊥)
    → outcome_in (Some (entry_from f t os)) ≡ outcome.Withdrawn
no_outcome-with (form.Submitted own) t os other = refl
no_outcome-with (form.Urgent own) t os other = refl
no_outcome-with form.Taken t os other = refl
no_outcome-with (form.Answered ended) t os other = absurd (other ended refl)
no_outcome-with form.Withdrawn t os other = refl
no_outcome-with form.Collected t os other = refl
no_outcome-with form.Abandoned t os other = refl

-- so many octets as it may have are all its own
none-left : (n : ℕ) → n ≤ 0 → 0 ≡ n
none-left n h = grind (arith)

size-with : (f : EntryForm) (t : Ticket) (os : List ℕ) → length os ≤ most_octets f
    → length (octets_of_entry (entry_from f t os)) ≡ length os
size-with (form.Submitted (request_form.Read place)) t os h = none-left (length os) h
size-with (form.Submitted (request_form.Write place)) t os h = refl
size-with (form.Urgent (request_form.Read place)) t os h = none-left (length os) h
size-with (form.Urgent (request_form.Write place)) t os h = refl
size-with form.Taken t os h = none-left (length os) h
size-with (form.Answered outcome_form.Read) t os h = refl
size-with (form.Answered outcome_form.Written) t os h = none-left (length os) h
size-with (form.Answered (outcome_form.Refused error more)) t os h = none-left (length os) h
size-with (form.Answered (outcome_form.Unknown cause)) t os h = none-left (length os) h
size-with (form.Answered outcome_form.Withdrawn) t os h = none-left (length os) h
size-with (form.Answered outcome_form.NoIsdu) t os h = none-left (length os) h
size-with form.Withdrawn t os h = none-left (length os) h
size-with form.Collected t os h = none-left (length os) h
size-with form.Abandoned t os h = none-left (length os) h

-- a form is of at most as many octets as a parameter
pub most-most : (f : EntryForm) → most_octets f ≤ most_data
most-most (form.Submitted (request_form.Read place)) = grind (arith)
most-most (form.Submitted (request_form.Write place)) = grind (arith)
most-most (form.Urgent (request_form.Read place)) = grind (arith)
most-most (form.Urgent (request_form.Write place)) = grind (arith)
most-most form.Taken = grind (arith)
most-most (form.Answered outcome_form.Read) = grind (arith)
most-most (form.Answered outcome_form.Written) = grind (arith)
most-most (form.Answered (outcome_form.Refused error more)) = grind (arith)
most-most (form.Answered (outcome_form.Unknown cause)) = grind (arith)
most-most (form.Answered outcome_form.Withdrawn) = grind (arith)
most-most (form.Answered outcome_form.NoIsdu) = grind (arith)
most-most form.Withdrawn = grind (arith)
most-most form.Collected = grind (arith)
most-most form.Abandoned = grind (arith)

-- lines in order lie between their ends
ordered : (from end : ℕ) (lines : List JournalLine) → AreInOrder from lines end → from ≤ end
ordered from end [] h = grind (arith, h)
ordered from end (line ∷ lines) h =
    let later = ordered (from + line.count) end lines h.2 in grind (arith)

-- the octets of a line within
length-at : (octets : List ℕ) (line : JournalLine) → line.start + line.count ≤ length octets
    → length (line_octets octets line) ≡ line.count
length-at octets line h = grind (arith, common_steps)

-- stay those
at-more : (octets more : List ℕ) (line : JournalLine) → line.start + line.count ≤ length octets
    → line_octets (octets ++ more) line ≡ line_octets octets line
at-more octets more line h = grind (arith, common_steps)

-- how many octets entries have is how many there are
pub sum-at : (octets : List ℕ) (from end : ℕ) (lines : List JournalLine)
    → AreInOrder from lines end → end ≤ length octets
    → from + octet_sum (line_entries lines octets) ≡ end
sum-at octets from end [] h le = grind (arith, h)
sum-at octets from end (line ∷ lines) h le =
    let later = sum-at octets (from + line.count) end lines h.2 le in
    let within = ordered (from + line.count) end lines h.2 in
    let size = length-at octets line (grind (arith, h.0)) in
    let own = size-with line.form line.ticket (line_octets octets line)
    (grind (arith, size, h.1)) in
    grind (arith)

-- at most so many for each
pub most-at : (octets : List ℕ) (from end : ℕ) (lines : List JournalLine)
    → AreInOrder from lines end → end ≤ from + most_data * length lines
most-at octets from end [] h = grind (arith, h)
most-at octets from end (line ∷ lines) h =
    let later = most-at octets (from + line.count) end lines h.2 in
    let own = most-most line.form in grind (arith, h.1)

-- the entries stay where octets are added
entries-more : (octets more : List ℕ) (from end : ℕ) (lines : List JournalLine)
    → AreInOrder from lines end → end ≤ length octets
    → line_entries lines (octets ++ more) ≡ line_entries lines octets
entries-more octets more from end [] h le = refl
entries-more octets more from end (line ∷ lines) h le =
    let within = ordered (from + line.count) end lines h.2 in
    rw (
      at-more octets more line (grind (arith, h.0)),
      entries-more octets more (from + line.count) end lines h.2 le,
    ) refl

-- one more line
pub order-pushed : (from end : ℕ) (lines : List JournalLine) (line : JournalLine)
    → AreInOrder from lines end → line.start ≡ end → line.count ≤ most_octets line.form
    → AreInOrder from (lines ++ line ∷ []) (end + line.count)
order-pushed from end [] line h start most =
    (start ∙ sym h, most, ap (λ n. n + line.count) h)
order-pushed from end (first ∷ lines) line h start most =
    (h.0, h.1, order-pushed (from + first.count) end lines line h.2 start most)

-- the entry of the new line
octets-new : (octets more : List ℕ) (line : JournalLine) → line.start ≡ length octets
    → line.count ≡ length more → line_octets (octets ++ more) line ≡ more
octets-new octets more line start count = grind (arith, common_steps)

pub entries-pushed : (octets more : List ℕ) (lines : List JournalLine) (line : JournalLine)
    → AreInOrder 0 lines (length octets) → line.start ≡ length octets
    → line.count ≡ length more
    → line_entries (lines ++ line ∷ []) (octets ++ more)
    ≡ line_entries lines octets ++ entry_from line.form line.ticket more ∷ []
entries-pushed octets more lines line order start count =
    map-append (line_entry (octets ++ more)) lines (line ∷ [])
    ∙ rw (
      octets-new octets more line start count,
      entries-more octets more 0 (length octets) lines order (grind (arith)),
    ) refl

-- a line of a journal lies within
line-within : (from end : ℕ) (lines : List JournalLine) (place : ℕ) (line : JournalLine)
    → AreInOrder from lines end → slice_get lines place ≡ Some line
    → (line.start + line.count ≤ end) × (line.count ≤ most_data)
line-within from end [] place line h got = absurd (cc)
line-within from end (first ∷ lines) zero line h got =
    let is : first ≡ line = grind (arith, common_steps) in
    let later = ordered (from + first.count) end lines h.2 in
    let most = most-most first.form in
    rw (← is) ((grind (arith, h.0), grind (arith, h.1)))
line-within from end (first ∷ lines) (suc place) line h got =
    line-within (from + first.count) end lines place line h.2 got

module _ (lines : List JournalLine) (octets : List ℕ)
    (order : AreInOrder 0 lines (length octets)) where
  pub octets-are : octet_sum (line_entries lines octets) ≡ length octets
  octets-are = let sum = sum-at octets 0 _ lines order (grind (arith)) in grind (arith)

  pub octets-most : octet_sum (line_entries lines octets) ≤ most_data * length lines
  octets-most = let most = most-at octets 0 _ lines order in grind (arith, octets-are)

  pub octets-within : (place : ℕ) (line : JournalLine) → slice_get lines place ≡ Some line
      → line.start + line.count ≤ length octets
  octets-within place line got = (line-within 0 _ lines place line order got).0

  -- which are of one parameter at most
  pub data-within : (place : ℕ) (line : JournalLine) → slice_get lines place ≡ Some line
      → length (line_octets octets line) ≤ most_data
  data-within place line got =
      let both = line-within 0 _ lines place line order got in
      rw (length-at octets line both.0) both.1

pub entry-got : (lines : List JournalLine) (octets : List ℕ) (place : ℕ) (line : JournalLine)
    → slice_get lines place ≡ Some line
    → slice_get (line_entries lines octets) place ≡ Some (line_entry octets line)
entry-got lines octets place line got = slice_get-map (line_entry octets) lines place
    ∙ ap (option_map (line_entry octets)) got

pub entry-none : (lines : List JournalLine) (octets : List ℕ) (place : ℕ)
    → slice_get lines place ≡ None → slice_get (line_entries lines octets) place ≡ None
entry-none lines octets place none = slice_get-map (line_entry octets) lines place
    ∙ ap (option_map (line_entry octets)) none

-- how many octets entries have, with one more, and with one less
pub octets-pushed : (es : List Entry) (e : Entry)
    → octet_sum (es ++ e ∷ []) ≡ octet_sum es + length (octets_of_entry e)
octets-pushed [] e = grind (arith)
octets-pushed (x ∷ es) e = let later = octets-pushed es e in grind (arith)

-- some of them are no more, and have no more octets
pub filter-fewer : (p : Entry → Bool) (es : List Entry) → length (filter p es) ≤ length es
filter-fewer p [] = grind (arith)
filter-fewer p (e ∷ es) = let later = filter-fewer p es in
    elim (p e) as (λ b. length (cond b (e ∷ filter p es) (filter p es)) ≤ length (e ∷ es))
    [ true ↦ grind (arith) | false ↦ grind (arith) ]

pub filter-less : (p : Entry → Bool) (es : List Entry) → octet_sum (filter p es) ≤ octet_sum es
filter-less p [] = grind (arith)
filter-less p (e ∷ es) = let later = filter-less p es in
    elim (p e) as (λ b. octet_sum (cond b (e ∷ filter p es) (filter p es)) ≤ octet_sum (e ∷ es))
    [ true ↦ grind (arith) | false ↦ grind (arith) ]

-- the usual lemmas, and how one more entry counts
pub ruleset journal_steps = (arith, common_steps, octets-pushed)

-- going on from a place
pub drop-at : (es : List Entry) (place : ℕ) (e : Entry) → place < length es
    → e ≡ slice_index_or es place e → drop place es ≡ e ∷ drop (place + 1) es
drop-at es place e within is = drop_more es place e within
    ∙ ap (λ x. x ∷ drop (place + 1) es) (sym is)

pub take-at : (es : List Entry) (place : ℕ) (e : Entry) → place < length es
    → e ≡ slice_index_or es place e → take (place + 1) es ≡ take place es ++ e ∷ []
take-at es place e within is = take_more es place e within
    ∙ ap (λ x. take place es ++ x ∷ []) (sym is)

-- where there was room for the rest there is some for the first of it, and for what is left, taken
-- over or not
pub room-left : (es rest left : List Entry) (e : Entry) (n : ℕ)
    → length es + length rest ≤ n → rest ≡ e ∷ left
    → length (es ++ e ∷ []) + length left ≤ n
room-left es rest left e n fits is = grind (arith, common_steps)

pub room-skipped : (es rest left : List Entry) (e : Entry) (n : ℕ)
    → length es + length rest ≤ n → rest ≡ e ∷ left → length es + length left ≤ n
room-skipped es rest left e n fits is = grind (arith, common_steps)

pub octets-left : (es rest left : List Entry) (e : Entry) (n : ℕ)
    → octet_sum es + octet_sum rest ≤ n → rest ≡ e ∷ left
    → octet_sum (es ++ e ∷ []) + octet_sum left ≤ n
octets-left es rest left e n fits is =
    let sum : octet_sum rest ≡ length (octets_of_entry e) + octet_sum left = ap octet_sum is in
    let more = octets-pushed es e in grind (arith)

pub octets-skipped : (es rest left : List Entry) (e : Entry) (n : ℕ)
    → octet_sum es + octet_sum rest ≤ n → rest ≡ e ∷ left → octet_sum es + octet_sum left ≤ n
octets-skipped es rest left e n fits is =
    let sum : octet_sum rest ≡ length (octets_of_entry e) + octet_sum left = ap octet_sum is in
    grind (arith)

pub octets-next : (es rest left : List Entry) (e : Entry) (n : ℕ)
    → octet_sum es + octet_sum rest ≤ n → rest ≡ e ∷ left
    → octet_sum es + length (octets_of_entry e) ≤ n
octets-next es rest left e n fits is =
    let sum : octet_sum rest ≡ length (octets_of_entry e) + octet_sum left = ap octet_sum is in
    grind (arith)

-- an entry that is kept, or not, of the rest
pub filter-retained : (p : Entry → Bool) (es rest left : List Entry) (e : Entry) → rest ≡ e ∷ left
    → p e ≡ true → (es ++ e ∷ []) ++ filter p left ≡ es ++ filter p rest
filter-retained p es rest left e is retained =
    rw (is, retained) (append_assoc es (e ∷ []) (filter p left))

pub filter-skipped : (p : Entry → Bool) (es rest left : List Entry) (e : Entry) → rest ≡ e ∷ left
    → p e ≡ false → es ++ filter p left ≡ es ++ filter p rest
filter-skipped p es rest left e is out = rw (is, out) refl
