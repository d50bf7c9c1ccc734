-- A job's step: which calls it makes, and which requests may be taken behind it.
-- For the clauses of `laws::attempts_are_for_the_device`, `laws::jobs_are_alone`,
--     `laws::stored_ports_are_ports` and 3 more.
use Rattle.std.proofs.Common.{◌≡◌, ◌∙◌, ℕ, Bool, true, false, IsTrue, List, [], ◌∷◌, ◌++◌, Option, None, Some, Result, Ok, Err, ap, sym, refl, subst, cond, ◌-◌}
use Rattle.std.specs.Prelude.{slice_get, is_some, nat_lt, bytes_eq, All, filter}
use Rattle.std.proofs.lemmas.List.Elements.{filter_passes, All-head}
use Rattle.std.proofs.lemmas.Slice.Eq.{bytes_eq-Decides}
use Rattle.std.specs.Option.{option_map}
use Rattle.iol_isdu.specs.declared.values.Request.{Request}
use Rattle.iol_book.specs.declared.entries.Ticket.{Ticket}
use Rattle.iol_book.specs.BookModel.{BookState, is_served, next_taken}
use Rattle.iol_app.specs.Abstract.Steps.{ImageOctets}
use Rattle.iol_port.specs.declared.call.Call.{Call}
use Rattle.iol_port.specs.declared.call.Call.TheVariants as call
use Rattle.iol_port.specs.declared.call.Answered.{Answered}
use Rattle.iol_port.specs.declared.call.Answered.TheVariants as answered
use Rattle.iol_port.specs.EveryWire.{SetOutputGives}
use Rattle.iol_port.specs.View.{PortParts}
use Rattle.iol_storage.specs.declared.attempt.AttemptPurpose.{AttemptPurpose}
use Rattle.iol_storage.specs.declared.set.Set.{Set}
use Rattle.iol_storage.specs.declared.stored.standing.StorageStanding.{StorageStanding}
use Rattle.iol_storage.specs.declared.stored.standing.StorageStanding.TheVariants.{Served, Trouble}
use Rattle.iol_storage.specs.declared.stored.standing.Agreement.TheVariants.{Off}
use Rattle.iol_storage.specs.declared.stored.standing.Trouble.TheVariants.{WrongIdentity}
use Rattle.iol_storage.specs.declared.stored.storage.Storage.{Storage}
use Rattle.iol_storage.specs.declared.stored.storage.StorageJob.TheVariants.{Check}
use Rattle.iol_storage.specs.Attempts.{attempt_begun}
use Rattle.iol_storage.specs.Stored.{storage_serves, has_no_job, is_off, page_device, has_storage, obstacle, obstacle_for, standing_without, purpose_due, storage_begins, storage_begun, storage_due, storage_looked, storage_observed, storage_watched, is_check}
use Rattle.iol_storage.specs.StoredPort.{StoredParts, CoreCalls, CollectsOf, SubmitsOf, ShowsOf, collect_calls}
use Rattle.iol_storage.specs.StoredLaws.{StepsAreCalls, JobsAreAlone, AttemptsAreForTheDevice, IsOfDevice}

-- Its calls

abbrev SomeCalls : PortParts → PortParts → Type 0
SomeCalls p q = (calls : List (Call × Answered)) × CoreCalls p calls q

calls-join : (calls more : List (Call × Answered)) (p mid q : PortParts) → CoreCalls p calls mid
    → CoreCalls mid more q → CoreCalls p (calls ++ more) q
calls-join [] more p mid q is rest = rw is at rest
calls-join (first ∷ calls) more p mid q (next, made, others) rest =
    (next, made, calls-join calls more next mid q others rest)

join : {p mid q : PortParts} → SomeCalls p mid → SomeCalls mid q → SomeCalls p q
join {p} {mid} {q} first next =
    (first.0 ++ next.0, calls-join first.0 next.0 p mid q first.1 next.1)

collects-calls : (asked : Option Ticket) (session : Bool) (old new : StoredParts)
    → CollectsOf asked session old new → SomeCalls old.port new.port
collects-calls None session old new is = ([], ap (λ (x : StoredParts). x.port) is)
collects-calls (Some ticket) session old new (withdrawn, collected, makes) =
    (collect_calls session ticket withdrawn collected, makes.made)

submits-calls : (request : Option Request) (old new : StoredParts) → SubmitsOf request old new
    → SomeCalls old.port new.port
submits-calls None old new is = ([], ap (λ (x : StoredParts). x.port) is)
submits-calls (Some request) old new (reply, makes) =
    ((call.Submit request, reply) ∷ [], makes.made)

shows-calls : (quiet shown : Bool) (output : Option ImageOctets) (old new : StoredParts)
    → ShowsOf quiet shown output old new → SomeCalls old.port new.port
shows-calls true shown output old new makes =
    ((call.ClearOutput, answered.Nothing) ∷ [], makes.made)
shows-calls false true output old new is = ([], ap (λ (x : StoredParts). x.port) is)
shows-calls false false None old new makes = ([], makes.made)
shows-calls false false (Some image) old new (reply, makes) =
    ((call.SetOutput image, reply) ∷ [], makes.made)

pub steps_are_calls : StepsAreCalls
steps_are_calls old new tends =
    let collects = collects-calls old.storage.asked _ old tends.heard tends.collects in
    let submits = submits-calls _ _ tends.asked tends.submits in
    let serves : SomeCalls tends.asked.port tends.served.port = (
      (call.Serve (storage_serves tends.asked.storage), answered.Nothing) ∷ [],
      tends.serves.made,
    ) in
    let shows = shows-calls _ tends.served.shown tends.served.output tends.served new tends.shows
    in join collects (join submits (join serves shows))

-- What may be taken behind it

-- an output doesn't change the book, nor the storage
record ShowKeeps (old new : StoredParts) : Type 0 where
  book : new.port.book.state ≡ old.port.book.state
  storage : new.storage ≡ old.storage

abbrev book_of : PortParts → BookState
book_of p = p.book.state

set-keeps : (p mid : PortParts) (image : ImageOctets) (result : Result (Unit {0}) _)
    → SetOutputGives p image result mid → mid.book.state ≡ p.book.state
set-keeps p mid image (Ok _) gives = ap book_of gives.wanted
set-keeps p mid image (Err why) gives = ap book_of gives.unchanged

shows-keep : (quiet shown : Bool) (output : Option ImageOctets) (old new : StoredParts)
    → ShowsOf quiet shown output old new → ShowKeeps old new
shows-keep true shown output old new makes =
    let (mid, made, is) = makes.made in record {
      book = ap book_of is ∙ ap book_of made.gives.1;
      storage = ap (λ (x : StoredParts). x.storage) makes.rest;
    }
shows-keep false true output old new is = record {
  book = ap (λ (x : StoredParts). x.port.book.state) is;
  storage = ap (λ (x : StoredParts). x.storage) is;
}
shows-keep false false None old new makes = record {
  book = ap book_of makes.made;
  storage = ap (λ (x : StoredParts). x.storage) makes.rest;
}
shows-keep false false (Some image) old new (reply, makes) =
    let (mid, made, is) = makes.made in
    let (result, _, gives) = made.gives in record {
      book = ap book_of is ∙ set-keeps old.port mid image result gives;
      storage = ap (λ (x : StoredParts). x.storage) makes.rest;
    }

abbrev some-or : {X : Type 0} → X → Option X → X
some-or other None = other
some-or other (Some x) = x

first-of : {X : Type 0} (P : X → Type 0) (xs : List X) (x : X) → All P xs
    → slice_get xs 0 ≡ Some x → P x
first-of P [] x all found = absurd (cc)
first-of P (y ∷ xs) x all found = subst P (ap (some-or y) found) (All-head P y xs all)

taken-is-served : (book : BookState) (next : Ticket × Request) → next_taken book ≡ Some next
    → IsTrue (is_served book.serve next.0)
taken-is-served book next found = by (is_some book.standing.taken) found
  where
    test : Ticket × Request → Bool
    test p = is_served book.serve p.0

    waiting : List (Ticket × Request)
    waiting = book.standing.urgent ++ book.standing.waiting

    by : (b : Bool) → cond b None (slice_get (filter test waiting) 0) ≡ Some next
        → IsTrue (is_served book.serve next.0)
    by true is = absurd (cc)
    by false is = first-of (λ p. test p ≡ true) (filter test waiting) next
        (filter_passes test waiting) is

pub jobs_are_alone : JobsAreAlone
jobs_are_alone old new tends next found =
    let (mid, made, is) = tends.serves.made in
    let keeps = shows-keep _ _ _ tends.served new tends.shows in
    let serve = ap (λ (b : BookState). b.serve) (keeps.book ∙ ap book_of is ∙ made.gives.1.book) in
    let storage = keeps.storage ∙ ap (λ (x : StoredParts). x.storage) tends.serves.rest in
    let taken = taken-is-served new.port.book.state next found in
    rw (storage, sym serve) taken

-- When an attempt begins

for-device : (backup : Option Set) (page : List ℕ)
    → obstacle_for (option_map (λ set. set.device) backup) page ≡ None
    → IsOfDevice backup (page_device page)
for-device None page free = tt
for-device (Some set) page free = by (bytes_eq set.device (page_device page)) refl free
  where
    by : (b : Bool) → bytes_eq set.device (page_device page) ≡ b
        → cond b None (Some (Trouble WrongIdentity)) ≡ None → set.device ≡ page_device page
    by true same is = (bytes_eq-Decides set.device (page_device page)).0 same
    by false other is = absurd (cc)

-- what a check that has begun says
pub record Begins (s : Storage) (page : List ℕ) (next : Storage) : Type 0 where
  pub of_device : IsOfDevice s.backup (page_device page)
  pub device : next.device ≡ page_device page
  pub purpose : AttemptPurpose
  pub job : next.job ≡ Check (attempt_begun s.mode purpose)
  pub backup : next.backup ≡ s.backup
  pub draft : next.draft ≡ s.draft
  pub standing : next.standing ≡ s.standing

no-obstacle : (s : Storage) (page : List ℕ)
    → obstacle s.mode (option_map (λ set. set.device) s.backup) page ≡ None
    → IsOfDevice s.backup (page_device page)
no-obstacle s page = by (is_off s.mode) (has_storage page)
  where
    by : (off storage : Bool) → cond off (Some (Served Off))
        (cond storage (obstacle_for (option_map (λ set. set.device) s.backup) page)
        (Some (standing_without (is_some (option_map (λ set. set.device) s.backup))))) ≡ None
        → IsOfDevice s.backup (page_device page)
    by true storage free = absurd (cc)
    by false true free = for-device s.backup page free
    by false false free = absurd (cc)

begun-is : (s : Storage) (page : List ℕ) (purpose : AttemptPurpose) → is_check s.job ≡ false
    → IsTrue (is_check (storage_begun s page purpose).job)
    → Begins s page (storage_begun s page purpose)
begun-is s page purpose idle = by (obstacle s.mode (option_map (λ set. set.device) s.backup) page)
    refl
  where
    begins : Option StorageStanding → Storage
    begins o =
        storage_begins (record s { retry = record s.retry { due = false } }) page purpose o

    by : (o : Option StorageStanding)
        → obstacle s.mode (option_map (λ set. set.device) s.backup) page ≡ o
        → IsTrue (is_check (begins o).job) → Begins s page (begins o)
    by None free check = record {
      of_device = no-obstacle s page free;
      device = refl;
      purpose = purpose;
      job = refl;
      backup = refl;
      draft = refl;
      standing = refl;
    }
    by (Some standing) is check = absurd (cc)

due-is : (s : Storage) (page : List ℕ) (purpose : Option AttemptPurpose)
    → is_check s.job ≡ false → IsTrue (is_check (storage_due s page purpose).job)
    → Begins s page (storage_due s page purpose)
due-is s page None idle check = absurd (cc)
due-is s page (Some purpose) idle check = begun-is s page purpose idle check

looked-is : (s : Storage) (page : List ℕ) → is_check s.job ≡ false
    → IsTrue (is_check (storage_looked s page).job) → Begins s page (storage_looked s page)
looked-is s page idle = by (nat_lt 0 s.retry.pause)
  where
    waits : Storage
    waits = record s { retry = record s.retry { pause = s.retry.pause - 1 } }

    due : Storage
    due = storage_due s page (purpose_due s.standing s.retry.due)

    by : (b : Bool) → IsTrue (is_check (cond b waits due).job) → Begins s page (cond b waits due)
    by true check = absurd (cc)
    by false check = due-is s page _ idle check

observed-is : (s : Storage) (session : Option (List ℕ)) → is_check s.job ≡ false
    → IsTrue (is_check (storage_observed s session).job)
    → (page : List ℕ) × (session ≡ Some page) × Begins s page (storage_observed s session)
observed-is s None idle check = absurd (cc)
observed-is s (Some page) idle check = by (has_no_job s.job) check
  where
    by : (b : Bool) → IsTrue (is_check (cond b (storage_looked s page) s).job)
        → (p : List ℕ) × (Some page ≡ Some p) × Begins s p (cond b (storage_looked s page) s)
    by true looked = (page, refl, looked-is s page idle looked)
    by false same = absurd (cc)

pub watched-begins : (s : Storage) (session : Option (List ℕ)) → is_check s.job ≡ false
    → IsTrue (is_check (storage_watched s session).job)
    → (page : List ℕ) × (session ≡ Some page) × Begins s page (storage_watched s session)
watched-begins s session idle check = by (is_some s.asked) check
  where
    by : (b : Bool) → IsTrue (is_check (cond b s (storage_observed s session)).job)
        → (page : List ℕ) × (session ≡ Some page)
        × Begins s page (cond b s (storage_observed s session))
    by true same = absurd (cc)
    by false begins = observed-is s session idle begins

pub attempts_are_for_the_device : AttemptsAreForTheDevice
attempts_are_for_the_device s session idle check =
    let (page, is, begins) = watched-begins s session idle check in
    (page, is, begins.of_device, begins.device)
