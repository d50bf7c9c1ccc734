-- What each round of a loop of `compacting::renumber` keeps.
use Rattle.std.proofs.Common.{◌≡◌, ℕ, Bool, ◌≤◌, List, drop, vec_capacity}
use Rattle.std.specs.Option.{option_to_list}
use Rattle.std.specs.VecDeque.{deque_capacity}
use Rattle.iol_book.specs.declared.entries.Ticket.{Ticket}
use Rattle.iol_book.specs.declared.entries.Entry.{Entry}
use Rattle.iol_book.specs.Lines.{TicketLines, is_still_open_by, line_number_after, with_numbers, lines_after}
use Rattle.iol_book.proofs.compacting.renumber.Given as goal

-- these lines, which the loop has still to renumber, come to what those at first do
abbrev Comes : (Ticket → Bool) → List Entry → ℕ → ℕ → TicketLines → TicketLines → Type 0
Comes is_retained entries line retained now first =
    with_numbers (line_number_after is_retained line retained (drop line entries)) now
    ≡ lines_after is_retained entries first

abbrev pub invariant-loop-line : goal.invariant-loop-line
invariant-loop-line g l =
    let is_retained : Ticket → Bool = is_still_open_by l.doubt l.fn.urgent.items l.fn.waiting.items
    l.fn.taken l.fn.outcomes.items in
    (l.retained ≤ l.line)
    × Comes is_retained l.journal.items l.line l.retained l.urgent.items l.fn.urgent.items
    × Comes is_retained l.journal.items l.line l.retained l.waiting.items l.fn.waiting.items
    × Comes is_retained l.journal.items l.line l.retained (option_to_list l.taken)
    (option_to_list l.fn.taken)
    × Comes is_retained l.journal.items l.line l.retained l.outcomes.items l.fn.outcomes.items
    × (deque_capacity l.urgent ≡ deque_capacity l.fn.urgent)
    × (deque_capacity l.waiting ≡ deque_capacity l.fn.waiting)
    × (vec_capacity l.outcomes ≡ vec_capacity l.fn.outcomes)
    × ((t : Ticket) → is_still_open_by l.doubt l.urgent.items l.waiting.items l.taken
    l.outcomes.items t
    ≡ is_retained t)
