-- What every call of the abstract port keeps: the journal says where each ticket stands, and the
-- device's record is that of the owners, who fit what the journal says.
use Rattle.std.specs.Prelude.{length, IsSome, drop, ◌≡◌, ◌≤◌, ◌+◌, ◌⊎◌, ℕ, Bool, true, false, List, [], ◌∷◌, ◌++◌, map, Option, Some, None, IsTrue, cond, nat_lt}
use Rattle.iol_isdu.specs.declared.values.Request.{Request}
use Rattle.iol_isdu.specs.declared.values.Answer.{Answer}
use Rattle.iol_isdu.specs.declared.values.Cause.{Cause}
use Rattle.iol_book.specs.declared.entries.Outcome.{Outcome}
use Rattle.iol_book.specs.declared.entries.Outcome.TheVariants.{Unknown, Withdrawn, NoIsdu}
use Rattle.iol_book.specs.declared.entries.Ticket.{Ticket}
use Rattle.iol_book.specs.declared.entries.Entry.{Entry}
use Rattle.iol_book.specs.Numbers.{times_in}
use Rattle.iol_book.specs.BookModel.{BookState, IsReplayed, leaves_unsure}
use Rattle.iol_book.specs.Takings.{takings}
use Rattle.iol_book.specs.Drained.{last_taken}
use Rattle.iol_book.specs.OneJournal.{entries_since, whole_book}
use Rattle.iol_app.specs.Abstract.Session.{Job, Session}
use Rattle.iol_port.specs.Owners.{Owner, Owners, Allowance, IsOneOf, HasEnded, Fits, all, allowance_of, pairs_of, times_of}
use Rattle.iol_port.specs.Run.{PortState}

-- what is said of each pair of a list
abbrev pub Each : {K X : Type 0} → (K → X → Type 0) → List (K × X) → Type 0
Each P [] = Unit {0}
Each P (pair ∷ pairs) = P pair.0 pair.1 × Each P pairs

-- those of the owners that are no longer under way
abbrev pub not_under_way : Option Job → List Owner → List Owner
not_under_way None owners = owners
not_under_way (Some job) owners = drop 1 owners

-- The journal, behind what drains handed out before, has the takings of the owners. The device's
-- record has their pairs, in the order taken: at most one for each request, and exactly one, with
-- its answer, for each that is done; but for what the allowance is. All but the one under way have
-- ended
-- BOOK-10
pub record RecordFits (allowance : Allowance) (book : BookState) (session : Session)
    (owners : Owners) : Type 0 where
  pub takings_are : takings (owners.drained ++ entries_since book)
      ≡ map (λ owner. owner.taking) owners.current
  pub record_is : session.carried ≡ owners.before ++ pairs_of (all owners)
  pub fit : (owner : Owner) → IsOneOf owner (all owners) → Fits allowance owner
  pub ended : (owner : Owner) → IsOneOf owner (not_under_way session.job (all owners))
      → IsSome owner.taking.outcome

abbrev pub request_taken : Option (Ticket × Request) → Option Request
request_taken None = None
request_taken (Some taken) = Some taken.1

-- the answers of a request under way: without one it may be carried out next
abbrev pub AnswersFitJob : Bool → Option Answer → List Answer → Type 0
AnswersFitJob repeats None answers = (answers ≡ []) ⊎ IsTrue repeats
AnswersFitJob repeats (Some answer) [] = ⊥
AnswersFitJob repeats (Some answer) (last ∷ earlier) = last ≡ answer

-- the request under way is the one that is taken
pub record JobIsTaken (repeats : Request → Bool) (job : Job) (taken : Option (Ticket × Request))
    (owner : Owner) : Type 0 where
  pub taken_is : taken ≡ Some (owner.taking.ticket, job.request)
  pub request_is : owner.taking.request ≡ job.request
  pub none : owner.taking.outcome ≡ None
  pub answers : AnswersFitJob (repeats job.request) job.answer owner.answers

-- one was cut off, and may be carried out next
pub record IsLate (repeats : Request → Bool) (request : Request) (owner : Owner) : Type 0 where
  pub request_is : owner.taking.request ≡ request
  pub cause : Cause
  pub cut : owner.taking.outcome ≡ Some (Unknown cause)
  pub unsure : leaves_unsure (Unknown cause) ≡ true
  pub answers : AnswersFitJob (repeats request) None owner.answers

-- the request under way, or the late one, is the one that was taken last
abbrev pub LastTakenIsOpen : (Request → Bool) → Option Job → Option Request
    → Option (Ticket × Request)
    → List Owner → Type 0
LastTakenIsOpen repeats None None taken owners = taken ≡ None
LastTakenIsOpen repeats (Some job) None taken (last ∷ owners) = JobIsTaken repeats job taken last
LastTakenIsOpen repeats None (Some request) taken (last ∷ owners) =
    (taken ≡ None) × IsLate repeats request last
LastTakenIsOpen repeats job late taken owners = ⊥

-- so it is, unless the late one is of before: then none was taken yet
abbrev pub LastIsOpen : Option Request → (Request → Bool) → Option Job → Option Request
    → Option (Ticket × Request) → List Owner → List Owner → Type 0
LastIsOpen None repeats job late taken current archived =
    LastTakenIsOpen repeats job late taken current
LastIsOpen (Some request) repeats job late taken current archived =
    (job ≡ None) × (late ≡ Some request) × (taken ≡ None) × (current ++ archived ≡ [])

-- of the request under way, or of the late one, the journal says that it was taken last
abbrev pub IsRecordedLast : Option Job → Option Request → Option Ticket → List Owner → Type 0
IsRecordedLast None None last owners = Unit {0}
IsRecordedLast job late last [] = Unit {0}
IsRecordedLast job late last (owner ∷ owners) = last ≡ Some owner.taking.ticket

-- The journal alone says where each ticket stands, and so does the one journal that it makes with
-- what drains handed out before
pub record SaysWhere (drained : List Entry) (book : BookState) : Type 0 where
  pub replayed : IsReplayed book
  pub whole : IsReplayed (whole_book drained book)
  pub head : book.restated ≤ length book.journal

-- an outcome is that of a request that was taken, or of one that never was: withdrawn, or denied at
-- a device without ISDU
abbrev pub IsOutcome : Bool → List Owner → Ticket → Outcome → Type 0
IsOutcome isdu owners ticket Withdrawn = Unit {0}
IsOutcome isdu owners ticket NoIsdu = isdu ≡ false
IsOutcome isdu owners ticket outcome = HasEnded owners ticket outcome

-- how often a number stands among the tickets of those that were taken, those that wait, and those
-- that are still to be given
abbrev pub times_ever : ℕ → BookState → Owners → ℕ
times_ever number book owners =
    cond (nat_lt book.last number) 1 0 + times_in number book.standing.urgent
    + times_in number book.standing.waiting + times_of number (all owners)

pub record Sound (allowance : Allowance) (book : BookState) (s : Session) (owners : Owners) :
    Type 0 where
  pub says : SaysWhere owners.drained book
  pub fits : RecordFits allowance book s owners
  pub opens : LastIsOpen owners.late allowance.repeats s.job s.late book.standing.taken
      owners.current owners.archived
  -- so a late request that was taken is the one in doubt
  pub last : IsRecordedLast s.job s.late (last_taken None book.journal) owners.current
  -- a request that was taken may be late only while that isn't sure
  pub sure : book.unsure ≡ false → s.late ≡ owners.late
  -- each ticket is that of one request, and above those that were given before
  pub once : (number : ℕ) → times_ever number book owners ≤ 1
  pub above : (number : ℕ) → number ≤ owners.issued → times_ever number book owners ≡ 0
  pub outcomes : Each (IsOutcome allowance.isdu (all owners)) book.standing.outcomes

abbrev pub PortIsSound : PortState → Type 0
PortIsSound a = Sound (allowance_of a.terms) a.book a.session a.owners
