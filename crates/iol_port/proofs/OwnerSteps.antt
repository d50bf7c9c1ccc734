-- What each step does to the owners of a sound port: it stays sound, and they go on.
-- For the clauses of `laws::denied_requests_stay_out`, `laws::each_done_has_its_pair`,
--     `laws::late_requests_end` and 10 more.
use Rattle.std.proofs.Common.{◌≡◌, ◌⊎◌, ◌∷◌, ◌++◌, [], List, ℕ, ◌+◌, Bool, true, false, ◌≤◌, Option, Some, None, append_assoc, append-nil, length, ◌||◌, refl, ap, sym, ◌∙◌, subst, arith, inl, inr, map}
use Rattle.std.proofs.lemmas.Grind.{common_steps}
use Rattle.std.specs.Prelude.{IsTrue, IsSome}
use Rattle.iol_isdu.specs.declared.values.Request.{Request}
use Rattle.iol_isdu.specs.declared.values.Answer.{Answer}
use Rattle.iol_isdu.specs.declared.values.Cause.{Cause}
use Rattle.iol_isdu.specs.declared.values.Cause.TheVariants.{LinkLost, Restarted}
use Rattle.iol_far.specs.declared.carried.Carried.{Carried}
use Rattle.iol_far.specs.Level.{grown_by}
use Rattle.iol_book.specs.declared.entries.Ticket.{Ticket}
use Rattle.iol_book.specs.declared.entries.Serve.{Serve}
use Rattle.iol_book.specs.declared.entries.Entry.TheVariants.{Taken, Answered}
use Rattle.iol_book.specs.declared.entries.Outcome.{Outcome}
use Rattle.iol_book.specs.declared.entries.Outcome.TheVariants as outcome
use Rattle.iol_book.specs.Replay.{nothing, replay}
use Rattle.iol_book.specs.BookModel.{BookState, IsReplayed, next_taken, book_after_take, book_after_serve, book_after_post, leaves_unsure}
use Rattle.iol_book.specs.Takings.{takings, taking_of, first_with, taking_with_outcome}
use Rattle.iol_book.specs.Drained.{last_taken, in_doubt, is_still_open, book_after_drain}
use Rattle.iol_book.specs.OneJournal.{entries_since}
use Rattle.iol_app.specs.Abstract.Steps.{PortStep, Take, Deny, Carry, Redeliver, Done, Unknown, LateCarry, Start, Reset, Busy, Move, Moment, may_repeat, may_misread, through_steps}
use Rattle.iol_app.specs.Abstract.Session.{Job, Session, MaySession, session_after, cut_for, unanswered_request, job_to_cancel}
use Rattle.iol_app.specs.Abstract.OfMaster.{restart_steps}
use Rattle.iol_app.specs.declared.mode.Mode.{Mode}
use Rattle.iol_app.specs.declared.mode.Mode.TheVariants.{Down, Startup}
use Rattle.iol_mode.specs.declared.why.Why.{Why}
use Rattle.iol_port.specs.Owners.{Owner, Owners, all, pairs_of, owner_with_answer, owner_with_outcome, owners_after, owners_after_archive, owners_after_drain, Allowance, IsOneOf, IsReportedAs, EndsAs, Fits, allowance_of}
use Rattle.iol_port.specs.Steps.{ticket_of, MayBook, book_after}
use Rattle.iol_port.specs.Run.{job_request}
use Rattle.iol_port.specs.Sound.{not_under_way, Each, AnswersFitJob, LastTakenIsOpen, LastIsOpen, IsRecordedLast, SaysWhere, IsOutcome, times_ever, Sound}
use Rattle.iol_port.specs.CarriesOut.{GrewBy, OwnerGoesOn, GoOn}
use Rattle.iol_port.proofs.PairLists.{ticket_is, each_more, each_inserted, each_ended, waiting_next, waiting_left}
use Rattle.iol_port.proofs.Replaying.{reported_for, LeavesWaiting, next_ticket_is}
use Rattle.iol_port.proofs.Joining.{took_says, took_takings, denied_says, denied_takings, posted_says, posted_takings, last_pushed, posted_last, last_stays, drained_says, drained_whole}
use Rattle.iol_port.proofs.OwnersGoOn.{go_on_behind, go_on_itself, go_on_first, go_on_then, outcome_on, closed, closed_same, others_rest, others_all, BeforeGoes, before_then}

-- What a step does from there on

pub record Goes (allowance : Allowance) (s : Session) (l : Owners) (next : BookState)
    (t : Session) (m : Owners) : Type 0 where
  pub sound : Sound allowance next t m
  pub issued : m.issued ≡ l.issued
  pub before : BeforeGoes l m
  pub on : GoOn (all l) (all m)
  pub stays : (x : Owner) → IsOneOf x (closed s l) → IsOneOf x (closed t m)

pub goes_then : {allowance : Allowance} {s t u : Session} {l m n : Owners} {b c : BookState}
    → Goes allowance s l b t m → Goes allowance t m c u n → Goes allowance s l c u n
goes_then one two = record {
  sound = two.sound;
  issued = two.issued ∙ one.issued;
  before = before_then one.before two.before;
  on = go_on_then one.on two.on;
  stays = λ x i. two.stays x (one.stays x i);
}

pub goes_itself : {allowance : Allowance} {b : BookState} {s : Session} {l : Owners}
    → Sound allowance b s l → Goes allowance s l b s l
goes_itself sound = record {
  sound = sound;
  issued = refl;
  before = inl (refl, refl);
  on = go_on_itself;
  stays = λ x i. i;
}

-- another book, of the same takings
pub goes_book : {allowance : Allowance} {b next : BookState} {s : Session} {l : Owners}
    → SaysWhere l.drained next → next.standing.taken ≡ b.standing.taken → next.unsure ≡ b.unsure
    → takings (l.drained ++ entries_since next) ≡ takings (l.drained ++ entries_since b)
    → last_taken None next.journal ≡ last_taken None b.journal
    → ((n : ℕ) → times_ever n next l ≤ times_ever n b l)
    → Each (IsOutcome allowance.isdu (all l)) next.standing.outcomes
    → Sound allowance b s l → Goes allowance s l next s l
goes_book {allowance} says taken unsure same last fewer outcomes sound = goes_itself (record {
  says = says;
  fits = record {
    takings_are = same ∙ sound.fits.takings_are;
    record_is = sound.fits.record_is;
    fit = sound.fits.fit;
    ended = sound.fits.ended;
  };
  opens = rw taken sound.opens;
  last = rw last sound.last;
  sure = λ sure. sound.sure (sym unsure ∙ sure);
  once = λ n. omega (arith, fewer n, sound.once n);
  above = λ n low. omega (arith, fewer n, sound.above n low);
  outcomes = outcomes;
})

-- others are served
pub serves_goes : {allowance : Allowance} {b : BookState} {s : Session} {l : Owners} (which : Serve)
    → Sound allowance b s l → Goes allowance s l (book_after_serve b which) s l
serves_goes which sound = goes_book (record {
  replayed = sound.says.replayed;
  whole = sound.says.whole;
  head = sound.says.head;
}) refl refl refl refl (λ n. omega arith) sound.outcomes sound

-- The step ends or answers the request that was taken last, or takes one

-- where the journal says that one of them was taken last
recorded_last : (job : Option Job) (late : Option Request) (last : Option Ticket) (y : Owner)
    (xs : List Owner) → last ≡ Some y.taking.ticket → IsRecordedLast job late last (y ∷ xs)
recorded_last None None last y xs is = tt
recorded_last None (Some q) last y xs is = is
recorded_last (Some job) late last y xs is = is

module _ {allowance : Allowance} {b : BookState} {s : Session} (l : Owners) (x : Owner)
    (xs : List Owner) (sound : Sound allowance b s (record l { late = None; current = x ∷ xs }))
    (last : last_taken None b.journal ≡ Some x.taking.ticket) where
  fits_x : Fits allowance x
  fits_x = sound.fits.fit x (inl refl)

  -- the owner goes on as another
  first_goes : {next : BookState} {t : Session} {y : Owner} → OwnerGoesOn x y
      → SaysWhere l.drained next
      → takings (l.drained ++ entries_since next) ≡ y.taking ∷ map (λ a. a.taking) xs
      → last_taken None next.journal ≡ last_taken None b.journal
      → t.carried ≡ l.before ++ pairs_of (y ∷ xs ++ l.archived) → Fits allowance y
      → ((z : Owner) → IsOneOf z (not_under_way t.job (y ∷ xs ++ l.archived))
      → IsSome z.taking.outcome)
      → LastTakenIsOpen allowance.repeats t.job t.late next.standing.taken (y ∷ xs)
      → (next.unsure ≡ false → t.late ≡ None)
      → ((n : ℕ) → times_ever n next (record l { late = None; current = y ∷ xs })
      ≤ times_ever n b (record l { late = None; current = x ∷ xs }))
      → Each (IsOutcome allowance.isdu (y ∷ xs ++ l.archived)) next.standing.outcomes
      → ((z : Owner) → IsOneOf z (closed s (record l { late = None; current = x ∷ xs }))
      → IsOneOf z (closed t (record l { late = None; current = y ∷ xs })))
      → Goes allowance s (record l { late = None; current = x ∷ xs }) next t
      (record l { late = None; current = y ∷ xs })
  first_goes {t = t} {y = y} goes says same same_last record_is fits ended_are opens sure fewer
      outcomes stays = record {
        sound = record {
          says = says;
          fits = record { takings_are = same; record_is = record_is; fit = by; ended = ended_are };
          opens = opens;
          last = recorded_last t.job t.late _ y xs
              (same_last ∙ (last ∙ ap (λ k. Some k) (sym goes.ticket_is)));
          sure = sure;
          once = λ n. omega (arith, fewer n, sound.once n);
          above = λ n low. omega (arith, fewer n, sound.above n low);
          outcomes = outcomes;
        };
        issued = refl;
        before = inl (refl, refl);
        on = go_on_first goes;
        stays = stays;
      }
    where
      by : (a : Owner) → IsOneOf a (y ∷ xs ++ l.archived) → Fits allowance a
      by a (inl is) = subst (Fits allowance) is fits
      by a (inr i) = sound.fits.fit a (inr i)

  -- it was carried out once more
  answers_goes : (a : Answer) {t : Session}
      → AnswersFitJob (allowance.repeats x.taking.request) None x.answers
      → (out : Option Outcome) → x.taking.outcome ≡ out
      → ((answer : Answer) → out ≡ Some (outcome.Done answer) → ⊥) → (out ≡ Some outcome.NoIsdu → ⊥)
      → t.carried ≡ grown_by s.carried x.taking.request a
      → ((z : Owner) → IsOneOf z (not_under_way t.job (owner_with_answer a x ∷ xs ++ l.archived))
      → IsSome z.taking.outcome)
      → LastTakenIsOpen allowance.repeats t.job t.late b.standing.taken (owner_with_answer a x ∷ xs)
      → (b.unsure ≡ false → t.late ≡ None)
      → ((z : Owner) → IsOneOf z (closed s (record l { late = None; current = x ∷ xs }))
      → IsOneOf z (closed t (record l { late = None; current = owner_with_answer a x ∷ xs })))
      → Goes allowance s (record l { late = None; current = x ∷ xs }) b t
      (record l { late = None; current = owner_with_answer a x ∷ xs })
  answers_goes a may out is none never grown ended_are opens sure stays =
      first_goes goes sound.says sound.fits.takings_are refl
      (grown ∙ simp (sound.fits.record_is, append_assoc))
      (record { once = once may; ends = rw is (ends out none never); isdu = fits_x.isdu }) ended_are
      opens sure (λ n. omega arith)
      (each_more b.standing.outcomes (outcome_on allowance.isdu (go_on_first goes))
      sound.outcomes) stays
    where
      goes : OwnerGoesOn x (owner_with_answer a x)
      goes = record {
        ticket_is = refl;
        request_is = refl;
        ends = λ o same. same;
        more = a ∷ [];
        answers_are = refl;
      }

      once : AnswersFitJob (allowance.repeats x.taking.request) None x.answers
          → (length (a ∷ x.answers) ≤ 1) ⊎ IsTrue (allowance.repeats x.taking.request)
      once (inl first) = inl (rw first (omega arith))
      once (inr repeat) = inr repeat

      ends : (out : Option Outcome) → ((answer : Answer) → out ≡ Some (outcome.Done answer) → ⊥)
          → (out ≡ Some outcome.NoIsdu → ⊥) → EndsAs allowance.misreads out (a ∷ x.answers)
      ends None none never = tt
      ends (Some (outcome.Done answer)) none never = absurd (none answer refl)
      ends (Some (outcome.Unknown cause)) none never = tt
      ends (Some outcome.Withdrawn) none never = tt
      ends (Some outcome.NoIsdu) none never = absurd (never refl)

  -- it ends
  ends_goes : (out : Outcome) {q : Request} {t : Session}
      → b.standing.taken ≡ Some (x.taking.ticket, q) → x.taking.outcome ≡ None
      → LeavesWaiting out → EndsAs allowance.misreads (Some out) x.answers
      → IsOutcome allowance.isdu (owner_with_outcome out x ∷ xs ++ l.archived) x.taking.ticket out
      → t.carried ≡ s.carried
      → LastTakenIsOpen allowance.repeats t.job t.late None (owner_with_outcome out x ∷ xs)
      → ((book_after_post b out).unsure ≡ false → t.late ≡ None)
      → ((z : Owner) → IsOneOf z (closed s (record l { late = None; current = x ∷ xs }))
      → IsOneOf z (closed t (record l { late = None; current = owner_with_outcome out x ∷ xs })))
      → Goes allowance s (record l { late = None; current = x ∷ xs }) (book_after_post b out) t
      (record l { late = None; current = owner_with_outcome out x ∷ xs })
  ends_goes out {q} {t} taken none leaves ends new same opens sure stays =
      first_goes goes (posted_says b sound.says (x.taking.ticket, q) out leaves taken)
      (posted_takings b sound.says (x.taking.ticket, q) out leaves taken
      ∙ ap (first_with (taking_with_outcome out)) sound.fits.takings_are)
      (posted_last b (x.taking.ticket, q) out taken)
      (same ∙ sound.fits.record_is) (record
      { once = fits_x.once; ends = ends; isdu = fits_x.isdu })
      (λ z i. ended_are z (others_all t.job _ z i)) (rw taken opens) sure
      (λ n. rw taken (omega arith))
      (rw taken (each_ended _ b.standing.abandoned b.standing.outcomes x.taking.ticket out new
      (each_more b.standing.outcomes (outcome_on allowance.isdu (go_on_first goes))
      sound.outcomes))) stays
    where
      ended_are : (z : Owner) → IsOneOf z (owner_with_outcome out x ∷ xs ++ l.archived)
          → IsSome z.taking.outcome
      ended_are z (inl is) = subst (λ y. IsSome y.taking.outcome) is refl
      ended_are z (inr i) = sound.fits.ended z (others_rest s.job x (xs ++ l.archived) z i)

      goes : OwnerGoesOn x (owner_with_outcome out x)
      goes = record {
        ticket_is = refl;
        request_is = refl;
        ends = λ o is. absurd (let never : None ≡ Some o = sym none ∙ is in cc);
        more = [];
        answers_are = refl;
      }

-- only the session changes, and whether it is sure
session_goes : {allowance : Allowance} {b : BookState} {s t : Session} {l : Owners} {unsure : Bool}
    → Sound allowance b s l → t.carried ≡ s.carried
    → ((z : Owner) → IsOneOf z (not_under_way t.job (all l)) → IsSome z.taking.outcome)
    → LastIsOpen l.late allowance.repeats t.job t.late b.standing.taken l.current l.archived
    → IsRecordedLast t.job t.late (last_taken None b.journal) l.current
    → (unsure ≡ false → t.late ≡ l.late)
    → ((z : Owner) → IsOneOf z (closed s l) → IsOneOf z (closed t l))
    → Goes allowance s l (record b { unsure = unsure }) t l
session_goes sound same ended_are opens last sure stays = record {
  sound = record {
    says = record {
      replayed = sound.says.replayed;
      whole = sound.says.whole;
      head = sound.says.head;
    };
    fits = record {
      takings_are = sound.fits.takings_are;
      record_is = same ∙ sound.fits.record_is;
      fit = sound.fits.fit;
      ended = ended_are;
    };
    opens = opens;
    last = last;
    sure = sure;
    once = sound.once;
    above = sound.above;
    outcomes = sound.outcomes;
  };
  issued = refl;
  before = inl (refl, refl);
  on = go_on_itself;
  stays = stays;
}

-- the same request is under way, with the answers that it had
job_goes : {allowance : Allowance} {b : BookState} (s : Session) (l : Owners) (x : Owner)
    (xs : List Owner) (job next : Job) → next.request ≡ job.request
    → (AnswersFitJob (allowance.repeats job.request) job.answer x.answers
    → AnswersFitJob (allowance.repeats job.request) next.answer x.answers)
    → Sound allowance b (record s { job = Some job; late = None })
    (record l { late = None; current = x ∷ xs })
    → Goes allowance (record s { job = Some job; late = None })
    (record l { late = None; current = x ∷ xs }) b
    (record s { job = Some next; late = None }) (record l { late = None; current = x ∷ xs })
job_goes s l x xs job next same answers sound = session_goes sound refl sound.fits.ended (record {
  taken_is = rw same sound.opens.taken_is;
  request_is = sound.opens.request_is ∙ sym same;
  none = sound.opens.none;
  answers = rw same (answers sound.opens.answers);
}) sound.last (λ _. refl) (λ z i. i)

module _ {allowance : Allowance} {b : BookState} (s : Session) (l : Owners) (x : Owner)
    (xs : List Owner) (job : Job) (sound : Sound allowance b
    (record s { job = Some job; late = None }) (record l { late = None; current = x ∷ xs })) where
  open sound use {opens, last}

  -- a request that is cut off, of which nothing is late
  cut_goes : (cause : Cause) → Goes allowance (record s { job = Some job; late = None })
      (record l { late = None; current = x ∷ xs }) (book_after_post b (outcome.Unknown cause))
      (record s { job = None; late = None })
      (record l { late = None; current = owner_with_outcome (outcome.Unknown cause) x ∷ xs })
  cut_goes cause = ends_goes l x xs sound last (outcome.Unknown cause) opens.taken_is opens.none
      (λ t standing. refl) tt (
        owner_with_outcome (outcome.Unknown cause) x,
        inl refl,
        refl,
        refl,
      ) refl refl
      (λ _. refl) (λ z i. inr i)

  -- it may be carried out yet where it has no answer
  lost_goes : (cause : Cause) (answer : Option Answer) → job.answer ≡ answer
      → leaves_unsure (outcome.Unknown cause) ≡ true
      → Goes allowance (record s { job = Some job; late = None })
      (record l { late = None; current = x ∷ xs }) (book_after_post b (outcome.Unknown cause))
      (record s { job = None; late = unanswered_request answer job.request })
      (record l { late = None; current = owner_with_outcome (outcome.Unknown cause) x ∷ xs })
  lost_goes cause (Some a) is unsure = cut_goes cause
  lost_goes cause None is unsure =
      ends_goes l x xs sound last (outcome.Unknown cause) opens.taken_is opens.none
      (λ t standing. refl) tt (
        owner_with_outcome (outcome.Unknown cause) x,
        inl refl,
        refl,
        refl,
      ) refl (
        refl,
        record {
          request_is = opens.request_is;
          cause = cause;
          cut = refl;
          unsure = unsure;
          answers = rw is at opens.answers;
        },
      )
      (λ sure. absurd (never b.unsure _ unsure sure)) (λ z i. i)
    where
      never : (u v : Bool) → v ≡ true → (u || v) ≡ false → ⊥
      never u v unsure sure = grind arith

  pub unknown_goes : (cause : Cause) → Goes allowance (record s { job = Some job; late = None })
      (record l { late = None; current = x ∷ xs }) (book_after_post b (outcome.Unknown cause))
      (cut_for cause (record s { job = Some job; late = None }))
      (record l { late = None; current = owner_with_outcome (outcome.Unknown cause) x ∷ xs })
  unknown_goes LinkLost = lost_goes LinkLost job.answer refl refl
  unknown_goes Restarted = lost_goes Restarted job.answer refl refl
  unknown_goes cause = cut_goes cause

-- the mark, the mode and a restart are no business of the owners, but that a restart cuts off

pub moved_goes : {allowance : Allowance} {b : BookState} {s : Session} {l : Owners} (mode : Mode)
    (why : Option Why) → Sound allowance b s l
    → Goes allowance s l b (record s { mode = mode; why = why }) l
moved_goes mode why sound = session_goes sound refl sound.fits.ended sound.opens sound.last
    sound.sure (λ z i. i)

pub marked_goes : {allowance : Allowance} {b : BookState} (s : Session) (job : Option Job)
    (late : Option Request) (l : Owners) (first : Option Request) (xs : List Owner)
    → Sound allowance b (record s { job = job; late = late })
    (record l { late = first; current = xs })
    → Goes allowance (record s { job = job; late = late })
    (record l { late = first; current = xs }) b
    (record s { job = job_to_cancel job; late = late }) (record l { late = first; current = xs })
marked_goes s None late l first xs sound = goes_itself sound
marked_goes s (Some job) None l None (x ∷ xs) sound =
    job_goes s l x xs job (record job { asked = true }) refl (λ is. is) sound
marked_goes s (Some job) None l None [] sound = absurd sound.opens
marked_goes s (Some job) (Some q) l None xs sound = absurd sound.opens
marked_goes s (Some job) late l (Some q) xs sound = absurd (let under = sound.opens.0 in cc)

pub restart_goes : {allowance : Allowance} {b : BookState} (s : Session) (job : Option Job)
    (late : Option Request) (l : Owners) (first : Option Request) (xs : List Owner)
    → Sound allowance b (record s { job = job; late = late })
    (record l { late = first; current = xs })
    → Goes allowance (record s { job = job; late = late }) (record l { late = first; current = xs })
    (through_steps book_after (restart_steps (job_request job)) b)
    (through_steps session_after (restart_steps (job_request job))
    (record s { job = job; late = late }))
    (through_steps owners_after (restart_steps (job_request job))
    (record l { late = first; current = xs }))
restart_goes s None late l first xs sound = moved_goes Down None sound
restart_goes s (Some job) None l None (x ∷ xs) sound =
    let cut = unknown_goes s l x xs job sound Restarted in
    goes_then cut (moved_goes Down None cut.sound)
restart_goes s (Some job) None l None [] sound = absurd sound.opens
restart_goes s (Some job) (Some q) l None xs sound = absurd sound.opens
restart_goes s (Some job) late l (Some q) xs sound = absurd (let under = sound.opens.0 in cc)

-- an archive begins a new journal: nothing is open but what is of before
pub archive_goes : {allowance : Allowance} {b : BookState} (s : Session) (job : Option Job)
    (late : Option Request) (l : Owners) (first : Option Request) (xs : List Owner)
    → (b.standing ≡ nothing) × (b.unsure ≡ false)
    → Sound allowance b (record s { job = job; late = late })
    (record l { late = first; current = xs })
    → Goes allowance (record s { job = job; late = late }) (record l { late = first; current = xs })
    (record b { journal = []; restated = 0 }) (record s { job = job; late = late })
    (owners_after_archive (record l { late = first; current = xs }))
archive_goes s None None l None xs (free, sure) sound = record {
  sound = record {
    says = record { replayed = free; whole = free; head = omega arith };
    fits = record {
      takings_are = refl;
      record_is = sound.fits.record_is;
      fit = sound.fits.fit;
      ended = sound.fits.ended;
    };
    opens = sound.opens;
    last = tt;
    sure = sound.sure;
    once = sound.once;
    above = sound.above;
    outcomes = sound.outcomes;
  };
  issued = refl;
  before = inl (refl, refl);
  on = go_on_itself;
  stays = λ z i. i;
}
archive_goes s None (Some q) l (Some f) [] (free, sure) sound = record {
  sound = record {
    says = record { replayed = free; whole = free; head = omega arith };
    fits = record {
      takings_are = refl;
      record_is = sound.fits.record_is;
      fit = sound.fits.fit;
      ended = sound.fits.ended;
    };
    opens = (refl, sound.opens.1, rw free refl, sound.opens.3);
    last = tt;
    sure = sound.sure;
    once = sound.once;
    above = sound.above;
    outcomes = sound.outcomes;
  };
  issued = refl;
  before = inl (refl, refl);
  on = go_on_itself;
  stays = λ z i. i;
}
archive_goes s None None l (Some f) xs (free, sure) sound =
    absurd (let late : None ≡ Some f = sound.opens.1 in cc)
archive_goes s None (Some q) l (Some f) (x ∷ xs) (free, sure) sound =
    absurd (let none = sound.opens.3 in cc)
archive_goes s None (Some q) l None xs (free, sure) sound =
    absurd (let none : Some q ≡ None = sound.sure sure in cc)
archive_goes s (Some job) None l None (x ∷ xs) (free, sure) sound = absurd (let taken
    : None ≡ Some (x.taking.ticket, job.request) = rw free at sound.opens.taken_is in cc)
archive_goes s (Some job) None l None [] free sound = absurd sound.opens
archive_goes s (Some job) (Some q) l None xs free sound = absurd sound.opens
archive_goes s (Some job) late l (Some f) xs free sound =
    absurd (let under = sound.opens.0 in cc)

-- whether a drain leaves the entries of a ticket
abbrev is_left : BookState → Ticket → Bool
is_left b ticket = is_still_open (replay b.journal) (in_doubt b.unsure b.journal) ticket

-- a drain leaves those of the request under way, and of the late one
pub drain_goes : {allowance : Allowance} {b : BookState} (s : Session) (job : Option Job)
    (late : Option Request) (l : Owners) (first : Option Request) (xs : List Owner)
    → IsReplayed (book_after_drain b)
    → Sound allowance b (record s { job = job; late = late })
    (record l { late = first; current = xs })
    → Goes allowance (record s { job = job; late = late }) (record l { late = first; current = xs })
    (book_after_drain b) (record s { job = job; late = late })
    (owners_after_drain b (record l { late = first; current = xs }))
drain_goes {allowance} {b} s job late l first xs replayed sound = record {
  sound = record {
    says = drained_says l.drained b replayed sound.says;
    fits = record {
      takings_are = rw (drained_whole l.drained b) sound.fits.takings_are;
      record_is = sound.fits.record_is;
      fit = sound.fits.fit;
      ended = sound.fits.ended;
    };
    opens = sound.opens;
    last = by first job late xs sound.opens sound.last sound.sure;
    sure = sound.sure;
    once = sound.once;
    above = sound.above;
    outcomes = sound.outcomes;
  };
  issued = refl;
  before = inl (refl, refl);
  on = go_on_itself;
  stays = λ z i. closed_same job late (record l { late = first; current = xs })
      (l.drained ++ entries_since b)
      z i;
}
  where
    open sound.says use {replayed as stands}

    -- the ticket of the one, and of the other, is open
    taken_open : (x : Owner) (q : Request) → b.standing.taken ≡ Some (x.taking.ticket, q)
        → last_taken None b.journal ≡ Some x.taking.ticket
        → last_taken None (book_after_drain b).journal ≡ Some x.taking.ticket
    taken_open x q taken last = last_stays (is_left b) x.taking.ticket
        (rw (← stands) (grind (arith, common_steps))) None None b.journal last (λ e. e)

    doubt_open : (x : Owner) → b.unsure ≡ true
        → last_taken None b.journal ≡ Some x.taking.ticket
        → last_taken None (book_after_drain b).journal ≡ Some x.taking.ticket
    doubt_open x unsure last = last_stays (is_left b) x.taking.ticket
        (rw (unsure, last) (grind (arith, common_steps))) None None b.journal last (λ e. e)

    by : (first : Option Request) (job : Option Job) (late : Option Request) (xs : List Owner)
        → LastIsOpen first allowance.repeats job late b.standing.taken xs l.archived
        → IsRecordedLast job late (last_taken None b.journal) xs
        → (b.unsure ≡ false → late ≡ first)
        → IsRecordedLast job late (last_taken None (book_after_drain b).journal) xs
    by first None None xs opens last sure = tt
    by None (Some job) None (x ∷ xs) opens last sure = taken_open x job.request opens.taken_is last
    by None None (Some q) (x ∷ xs) opens last sure =
        doubt_open x (grind (arith, common_steps, sure)) last
    by None (Some job) None [] opens last sure = absurd opens
    by None None (Some q) [] opens last sure = absurd opens
    by None (Some job) (Some q) xs opens last sure = absurd opens
    by (Some f) None (Some q) [] opens last sure = tt
    by (Some f) None (Some q) (x ∷ xs) opens last sure = absurd (let none = opens.3 in cc)
    by (Some f) (Some job) late xs opens last sure = absurd (let under = opens.0 in cc)

-- one more is taken
take_goes : {allowance : Allowance} {b : BookState} (s : Session) (l : Owners) (t : Ticket)
    (q : Request) → next_taken b ≡ Some (t, q) → allowance.isdu ≡ true
    → Sound allowance b (record s { job = None; late = None }) (record l { late = None })
    → Goes allowance (record s { job = None; late = None }) (record l { late = None })
    (book_after_take b (t, q)) (record s {
      job = Some (record { request = q; answer = None; busy = 0; asked = false });
      late = None;
    }) (record l {
      late = None;
      current = record { taking = taking_of t q; answers = [] } ∷ l.current;
    })
take_goes {allowance} {b} s l t q next isdu sound = record {
  sound = record {
    says = took_says b sound.says t q next;
    fits = record {
      takings_are = took_takings b sound.says t q next
          ∙ ap (λ ts. taking_of t q ∷ ts) sound.fits.takings_are;
      record_is = sound.fits.record_is ∙ ap (λ c. l.before ++ c) (sym (append-nil _));
      fit = fit;
      ended = sound.fits.ended;
    };
    opens = record { taken_is = refl; request_is = refl; none = refl; answers = inl refl };
    last = last_pushed None b.journal (Taken t);
    sure = λ _. refl;
    once = λ n. omega (arith, fewer n, sound.once n);
    above = λ n low. omega (arith, fewer n, sound.above n low);
    outcomes = each_more b.standing.outcomes (outcome_on allowance.isdu on) sound.outcomes;
  };
  issued = refl;
  before = inl (refl, refl);
  on = on;
  stays = λ z i. i;
}
  where
    x : Owner
    x = record { taking = taking_of t q; answers = [] }

    on : GoOn (all l) (x ∷ all l)
    on = go_on_behind (x ∷ []) (all l)

    fit : (a : Owner) → IsOneOf a (x ∷ all l) → Fits allowance a
    fit a (inl is) = subst (Fits allowance) is
        (record { once = inl (omega arith); ends = tt; isdu = isdu })
    fit a (inr i) = sound.fits.fit a i

    fewer : (n : ℕ) → times_ever n (book_after_take b (t, q)) (record l { current = x ∷ l.current })
        ≤ times_ever n b l
    fewer n = grind (arith, common_steps, waiting_next n b t q next)

-- The request of before is carried out, or comes no more

before_grows : (l : Owners) (carried : List Carried) (q f : Request) (a : Answer)
    → Some q ≡ Some f → l.archived ≡ [] → carried ≡ l.before ++ pairs_of l.archived
    → grown_by carried q a ≡ grown_by l.before f a ++ pairs_of l.archived
before_grows l carried q f a same none is =
    let whole : carried ≡ l.before = rw none at is ∙ append-nil l.before in
    rw none (rw whole (grind (arith, common_steps, append-nil (grown_by l.before f a))))

before_ends : {allowance : Allowance} {b : BookState} (s : Session) (l : Owners) (q f : Request)
    → Sound allowance b (record s { job = None; late = Some q })
    (record l { late = Some f; current = [] }) → (mode : Mode) (why : Option Why) (unsure : Bool)
    (carried before : List Carried) → GrewBy (Some f) l.before before
    → carried ≡ before ++ pairs_of l.archived
    → Goes allowance (record s { job = None; late = Some q })
    (record l { late = Some f; current = [] }) (record b { unsure = unsure })
    (record s { job = None; late = None; carried = carried; mode = mode; why = why })
    (record l { late = None; before = before; current = [] })
before_ends s l q f sound mode why unsure carried before grew is = record {
  sound = record {
    says = record {
      replayed = sound.says.replayed;
      whole = sound.says.whole;
      head = sound.says.head;
    };
    fits = record {
      takings_are = sound.fits.takings_are;
      record_is = is;
      fit = sound.fits.fit;
      ended = sound.fits.ended;
    };
    opens = sound.opens.2;
    last = tt;
    sure = λ _. refl;
    once = sound.once;
    above = sound.above;
    outcomes = sound.outcomes;
  };
  issued = refl;
  before = inr (record { none = refl; grew = grew });
  on = go_on_itself;
  stays = λ z i. i;
}

pub step_goes : (m : Moment) (step : PortStep) (b : BookState) (s : Session)
    (job : Option Job) (late : Option Request) (l : Owners) (first : Option Request)
    (xs : List Owner)
    → MayBook step b
    → MaySession m step (record s { job = job; late = late })
    → Sound (allowance_of m.terms) b (record s { job = job; late = late })
    (record l { late = first; current = xs })
    → Goes (allowance_of m.terms) (record s { job = job; late = late })
    (record l { late = first; current = xs })
    (book_after step b) (session_after step (record s { job = job; late = late }))
    (owners_after step (record l { late = first; current = xs }))
step_goes m (Take t q) b s None None l None xs next may sound =
    take_goes s (record l { current = xs }) (ticket_of t) q next may.0 sound
step_goes m (Deny t) b s job late l first xs head may sound =
    let (q, next) = next_ticket_is (next_taken b) (ticket_of t) head in
    goes_book (denied_says b sound.says (ticket_of t) q next) refl refl
    (denied_takings b sound.says (ticket_of t) q next)
    (last_pushed None b.journal (Answered (ticket_of t) outcome.NoIsdu))
    (λ n. omega (arith, waiting_left n (ticket_of t) b.standing))
    (each_inserted _ b.standing.outcomes (ticket_of t) outcome.NoIsdu may.0 sound.outcomes) sound
step_goes m (Carry a) b s (Some job) None l None (x ∷ xs) next none sound =
    answers_goes l x xs sound sound.last a
    (rw (sound.opens.request_is) (rw none at sound.opens.answers)) None
    sound.opens.none (λ answer is. cc) (λ is. cc)
    (ap (λ q. grown_by s.carried q a) (sym sound.opens.request_is)) sound.fits.ended (record {
      taken_is = sound.opens.taken_is;
      request_is = sound.opens.request_is;
      none = sound.opens.none;
      answers = refl;
    })
    (λ _. refl) (λ z i. i)
step_goes m Redeliver b s (Some job) None l None (x ∷ xs) next may sound =
    job_goes s l x xs job (record job { answer = None }) refl
    (λ _. inr may.1) sound
step_goes m (Done a) b s (Some job) None l None (x ∷ xs) next may sound =
    let (carried, answered, reported) = reported_for m.terms a job.answer may in
    ends_goes l x xs sound sound.last (outcome.Done a) sound.opens.taken_is sound.opens.none
    (λ t standing. refl)
    (reported_by x.answers carried (rw answered at sound.opens.answers) reported)
    (owner_with_outcome (outcome.Done a) x, inl refl, refl, refl) refl refl (λ _. refl)
    (λ z i. inr i)
  where
    reported_by : (answers : List Answer) (carried : Answer)
        → AnswersFitJob (may_repeat m.terms job.request) (Some carried) answers
        → IsReportedAs (may_misread m.terms) a carried
        → EndsAs (may_misread m.terms) (Some (outcome.Done a)) answers
    reported_by (last ∷ earlier) carried is reported = rw is reported
    reported_by [] carried is reported = absurd is
step_goes m (Unknown cause) b s (Some job) None l None (x ∷ xs) next may sound =
    unknown_goes s l x xs job sound cause
step_goes m (LateCarry a) b s None (Some q) l None (x ∷ xs) next may sound =
    let late = sound.opens.1 in
    answers_goes l x xs sound sound.last a (rw late.request_is late.answers)
    (Some (outcome.Unknown late.cause))
    late.cut (λ answer is. cc) (λ is. cc)
    (ap (λ r. grown_by s.carried r a) (sym late.request_is)) ended_are sound.opens.0 (λ _. refl)
    (λ z i. inr i)
  where
    ended_are : (z : Owner) → IsOneOf z (owner_with_answer a x ∷ xs ++ l.archived)
        → IsSome z.taking.outcome
    ended_are z (inl is) = subst (λ y. IsSome y.taking.outcome) is (sound.fits.ended x (inl refl))
    ended_are z (inr i) = sound.fits.ended z (inr i)
step_goes m Reset b s job None l None xs next may sound =
    session_goes sound refl sound.fits.ended sound.opens sound.last (λ _. refl) (λ z i. i)
step_goes m Reset b s None (Some q) l None (x ∷ xs) next may sound =
    session_goes sound refl sound.fits.ended sound.opens.0 tt (λ _. refl) (λ z i. inr i)
step_goes m Busy b s (Some job) None l None (x ∷ xs) next may sound =
    job_goes s l x xs job (record job { busy = job.busy + 1 }) refl (λ is. is) sound
step_goes m Start b s job late l first xs next may sound = moved_goes Startup None sound
step_goes m (Move mode why) b s job late l first xs next may sound = moved_goes mode why sound
step_goes m (LateCarry a) b s None (Some q) l (Some f) [] next may sound =
    before_ends s l q f sound s.mode s.why b.unsure (grown_by s.carried q a)
    (grown_by l.before f a) (inr (f, a, refl, refl))
    (before_grows l s.carried q f a sound.opens.1 sound.opens.3 sound.fits.record_is)
step_goes m Reset b s None (Some q) l (Some f) [] next may sound =
    before_ends s l q f sound Startup None false s.carried l.before (inl refl) sound.fits.record_is
step_goes m _ b s None (Some q) l (Some f) (x ∷ xs) next may sound =
    absurd (let none = sound.opens.3 in cc)
step_goes m _ b s None None l (Some f) xs next may sound =
    absurd (let late = sound.opens.1 in cc)
step_goes m _ b s (Some job) late l (Some f) xs next may sound =
    absurd (let under = sound.opens.0 in cc)
step_goes m _ b s (Some job) (Some q) l None xs next may sound = absurd sound.opens
step_goes m _ b s (Some job) None l None [] next may sound = absurd sound.opens
step_goes m _ b s None (Some q) l None [] next may sound = absurd sound.opens
step_goes m (Take t q) b s job late l first xs next may sound = absurd (grind (arith, common_steps))
step_goes m (Carry a) b s None late l first xs next may sound = absurd may
step_goes m Redeliver b s None late l first xs next may sound = absurd may
step_goes m (Done a) b s None late l first xs next may sound = absurd may
step_goes m (Unknown cause) b s None late l first xs next may sound = absurd may
step_goes m Busy b s None late l first xs next may sound = absurd may
step_goes m (LateCarry a) b s job None l first xs next may sound = absurd (cc)
step_goes m _ b s job late l first xs next may sound = goes_itself sound
