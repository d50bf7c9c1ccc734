-- The owners of the pairs in the device's record, as an abstract port has them: each request that
-- was taken, how it ended, and what the device answered it.
use Rattle.std.specs.Prelude.{◌≡◌, ◌≤◌, ◌⊎◌, ℕ, Bool, true, false, List, [], ◌∷◌, ◌++◌, length, Option, Some, None, IsTrue, nat_eq, count_by}
use Rattle.iol_isdu.specs.declared.values.Request.{Request}
use Rattle.iol_isdu.specs.declared.values.Answer.{Answer}
use Rattle.iol_far.specs.declared.carried.Carried.{Carried}
use Rattle.iol_page.specs.Page.{knows_isdu}
use Rattle.iol_far.specs.Level.{grown_by}
use Rattle.iol_book.specs.declared.entries.Outcome.{Outcome}
use Rattle.iol_book.specs.declared.entries.Outcome.TheVariants as outcome
use Rattle.iol_book.specs.declared.entries.Outcome.TheVariants.{NoIsdu}
use Rattle.iol_book.specs.declared.entries.Ticket.{Ticket}
use Rattle.iol_book.specs.declared.entries.Entry.{Entry}
use Rattle.iol_book.specs.BookModel.{BookState}
use Rattle.iol_book.specs.OneJournal.{entries_since}
use Rattle.iol_book.specs.Takings.{Taking, taking_of, taking_with_outcome, first_with}
use Rattle.iol_app.specs.Abstract.Steps.{PortStep, Take, Carry, Done, Unknown, LateCarry, Reset, Terms, may_repeat, may_misread}
use Rattle.iol_port.specs.Steps.{ticket_of}

-- an owner: a request that was taken, and what the device answered it, the last answer first. Each
-- answer with the request is a pair
pub record Owner : Type 0 where
  pub taking : Taking
  pub answers : List Answer

-- The last ticket and the record at the opening, this with the pair of the request that the device
-- was handed before, once it has carried that out; and that request, while it may. What drains
-- handed out since the last archive, each entry once. And the owners, the one taken last first:
-- those since it, and those before
pub record Owners : Type 0 where
  pub issued : ℕ
  pub before : List Carried
  pub late : Option Request
  pub drained : List Entry
  pub current : List Owner
  pub archived : List Owner

abbrev pub all : Owners → List Owner
all owners = owners.current ++ owners.archived

-- the pairs of a request, and of these owners, in the order of the record
abbrev pub pairs_for : Request → List Answer → List Carried
pairs_for request [] = []
pairs_for request (answer ∷ earlier) = grown_by (pairs_for request earlier) request answer

abbrev pub pairs_of : List Owner → List Carried
pairs_of [] = []
pairs_of (owner ∷ earlier) =
    pairs_of earlier ++ pairs_for owner.taking.request owner.answers

abbrev pub owner_with_answer : Answer → Owner → Owner
owner_with_answer answer owner = record owner { answers = answer ∷ owner.answers }

abbrev pub owner_with_outcome : Outcome → Owner → Owner
owner_with_outcome result owner = record owner { taking = taking_with_outcome result owner.taking }

-- late is the request of before, while it may be, else that taken last
abbrev pub owners_after_late : Answer → Option Request → Owners → Owners
owners_after_late answer None owners =
    record owners { current = first_with (owner_with_answer answer) owners.current }
owners_after_late answer (Some request) owners =
    record owners { before = grown_by owners.before request answer; late = None }

-- What a step does: whatever else is carried out, or ends, is the request that was taken last
abbrev pub owners_after : PortStep → Owners → Owners
owners_after (Take ticket request) owners = record owners {
  current =
      record { taking = taking_of (ticket_of ticket) request; answers = [] } ∷ owners.current;
}
owners_after (Carry answer) owners =
    record owners { current = first_with (owner_with_answer answer) owners.current }
owners_after (LateCarry answer) owners = owners_after_late answer owners.late owners
owners_after Reset owners = record owners { late = None }
owners_after (Done answer) owners =
    record owners { current = first_with (owner_with_outcome (outcome.Done answer)) owners.current }
owners_after (Unknown cause) owners =
    record owners {
      current = first_with (owner_with_outcome (outcome.Unknown cause)) owners.current;
    }
owners_after step owners = owners

-- an archive begins a new journal
abbrev pub owners_after_archive : Owners → Owners
owners_after_archive owners =
    record owners { drained = []; current = []; archived = all owners }

-- a drain hands out the entries of this book that none did
abbrev pub owners_after_drain : BookState → Owners → Owners
owners_after_drain book owners =
    record owners { drained = owners.drained ++ entries_since book }

-- What is said of owners

abbrev pub IsOneOf : {X : Type 0} → X → List X → Type 0
IsOneOf x [] = ⊥
IsOneOf x (y ∷ ys) = (y ≡ x) ⊎ IsOneOf x ys

-- the request of this ticket was taken, and ended so
abbrev pub HasEnded : List Owner → Ticket → Outcome → Type 0
HasEnded owners ticket result = (owner : Owner) × IsOneOf owner owners
    × (owner.taking.ticket ≡ ticket) × (owner.taking.outcome ≡ Some result)

-- how often a number stands among the tickets of these requests
abbrev pub times_of : ℕ → List Owner → ℕ
times_of number owners = count_by (λ owner. nat_eq number owner.taking.ticket.0) owners

-- What a record may have beside one pair for each request, by the device: more pairs of some
-- requests; and answers that are told may be others than the device gave. Without ISDU it has none
pub record Allowance : Type 0 where
  pub repeats : Request → Bool
  pub misreads : Bool
  pub isdu : Bool

-- what the record may have by the device that is there
abbrev pub allowance_of : Terms → Allowance
allowance_of terms = record {
  repeats = may_repeat terms;
  misreads = may_misread terms;
  isdu = knows_isdu terms.page;
}

-- the device gave the answer that is told, unless another may be told
abbrev pub IsReportedAs : Bool → Answer → Answer → Type 0
IsReportedAs true reported carried = Unit {0}
IsReportedAs false reported carried = carried ≡ reported

-- how a request ended fits the device's last answer: one that is done has one, which is told
abbrev pub EndsAs : Bool → Option Outcome → List Answer → Type 0
EndsAs misreads (Some (outcome.Done reported)) [] = ⊥
EndsAs misreads (Some (outcome.Done reported)) (answer ∷ earlier) =
    IsReportedAs misreads reported answer
EndsAs misreads (Some NoIsdu) (answer ∷ earlier) = ⊥
EndsAs misreads result answers = Unit {0}

-- the record has at most one pair of a request, or more where it may be carried out more than once;
-- and none is taken for a device without ISDU
pub record Fits (allowance : Allowance) (owner : Owner) : Type 0 where
  pub once : (length owner.answers ≤ 1) ⊎ IsTrue (allowance.repeats owner.taking.request)
  pub ends : EndsAs allowance.misreads owner.taking.outcome owner.answers
  pub isdu : allowance.isdu ≡ true
