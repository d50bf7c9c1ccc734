-- A check at a stored port is an attempt by itself, whatever happens meanwhile: what the laws of
-- fetched, saved and restored sets rest on.
-- For the clauses of `laws::ended_uploads_were_saved`, `laws::fetched_sets_are_whole` and
--     `laws::restored_standings_are_taken`.
use Rattle.std.proofs.Common.{◌≡◌, ◌∙◌, ℕ, Bool, true, false, IsTrue, List, [], ◌∷◌, ◌++◌, Option, None, Some, ap, sym, refl, subst, cond, ◌+◌, ◌&&◌, ◌==◌}
use Rattle.std.proofs.lemmas.List.{append_assoc, append-nil}
use Rattle.std.specs.Prelude.{is_some, nat_le, not}
use Rattle.iol_isdu.specs.declared.values.Request.{Request}
use Rattle.iol_event.specs.declared.event.Event.{Event}
use Rattle.iol_book.specs.declared.entries.Outcome.{Outcome}
use Rattle.iol_book.specs.declared.entries.Ticket.{Ticket}
use Rattle.iol_storage.specs.AttemptLaws.{AttemptEvent, AttemptRun, EndsInWholeSet, Heard, IsRestored, Saved, Values, event_asked, run_after, run_asked, run_asks, run_begun, run_behind}
use Rattle.iol_storage.specs.Attempts.{attempt_after, attempt_asks, attempt_saved, first_stage, is_unsaved, result_of_attempt, stage_attempt_result, with_attempt_stage}
use Rattle.iol_storage.specs.Laws.{asked_with}
use Rattle.iol_storage.specs.Sets.{is_no_set}
use Rattle.iol_storage.specs.Stored.{check_end, has_no_job, is_check, is_standing_awaited, job_asks, job_heard, job_saved, no_retry, page_device, settled_standing, standing_behind, stays_served, storage_asks, storage_concluded, storage_ended, storage_heard, storage_keeping, storage_saved, storage_observed, storage_settled}
use Rattle.iol_storage.specs.StoredChecks.{CheckGoesOn, EndedUploadsWereSaved, FetchedSetsAreWhole, IsChecking, RestoredStandingsAreTaken, WasSavedSince, check_begun, is_restored, job_waits}
use Rattle.iol_storage.specs.StoredPort.{to_submit}
use Rattle.iol_storage.specs.StoredStories.{Heard as StoryHeard, Saved as StorySaved, Asked, Collected, Loaded, Noticed, Released, StorageEvent, Submitted, Watched, is_repeated, storage_after, storage_behind, story_behind, story_of}
use Rattle.iol_storage.specs.Uploads.{storage_command}
use Rattle.iol_storage.specs.declared.attempt.AttemptPurpose.{AttemptPurpose}
use Rattle.iol_storage.specs.declared.attempt.AttemptResult.TheVariants as ended
use Rattle.iol_storage.specs.declared.attempt.AttemptResult.TheVariants.{Transient, BadList, Empty, Fetched, Locked, Refused, Restored, Same, TooLarge, Unchanged, Unsupported}
use Rattle.iol_storage.specs.declared.attempt.AttemptResult.{AttemptResult}
use Rattle.iol_storage.specs.declared.attempt.AttemptStage.TheVariants.{Breaking, Checksum, Confirming, Ending, Fetching, Over, Restoring, SerialNumber, Size, State, Unsaved}
use Rattle.iol_storage.specs.declared.attempt.AttemptStage.{AttemptStage}
use Rattle.iol_storage.specs.declared.attempt.StorageAttempt.{StorageAttempt}
use Rattle.iol_storage.specs.declared.attempt.StorageMode.TheVariants.{Both, Off, Own, Restore}
use Rattle.iol_storage.specs.declared.attempt.StorageMode.{StorageMode}
use Rattle.iol_storage.specs.declared.set.Set.{Set}
use Rattle.iol_storage.specs.declared.stored.standing.Agreement.TheVariants as served
use Rattle.iol_storage.specs.declared.stored.standing.StorageStanding.TheVariants.{Served, Trouble}
use Rattle.iol_storage.specs.declared.stored.standing.StorageStanding.{StorageStanding}
use Rattle.iol_storage.specs.declared.stored.standing.Trouble.TheVariants as trouble
use Rattle.iol_storage.specs.declared.stored.storage.Storage.{Storage}
use Rattle.iol_storage.specs.declared.stored.storage.StorageJob.TheVariants.{Check}
use Rattle.iol_storage.proofs.AttemptAsks.{ends-at}
use Rattle.iol_storage.proofs.AttemptEnds.{NotEnding, heard-not, is_ending}
use Rattle.iol_storage.proofs.Attempts.{waits-whole, At, restored-taken, run-asked, run-behind, runs}
use Rattle.iol_storage.proofs.StoredSteps.{Begins, watched-begins}
use Rattle.iol_storage.proofs.StoredStories.{unsaved-none, behind-append, story-append}

-- The check, and its attempt

abbrev set_of : List ℕ → AttemptRun → Set
set_of device run = record {
  checksum = run.attempt.upload.checksum;
  device = device;
  unit = run.attempt.unit;
  objects = run.draft;
}

-- the storage has the attempt's draft and kept set; and where its set waits, that one is kept
abbrev Agrees : Bool → Storage → AttemptRun → Type 0
Agrees false s run = (run.backup ≡ s.backup) × (run.draft ≡ s.draft)
Agrees true s run = (s.backup ≡ Some (set_of s.device run)) × (s.asked ≡ None)

record IsSame (s next : Storage) : Type 0 where
  job : next.job ≡ s.job
  backup : next.backup ≡ s.backup
  draft : next.draft ≡ s.draft
  device : next.device ≡ s.device
  standing : next.standing ≡ s.standing

abbrev Story : Type 0
Story = List (Request × Outcome)

-- one event leaves all that the check is, or the attempt hears of what it asked
data CheckStep (s next : Storage) (run : AttemptRun) (here : Story) : Type 0 where
  Quiet : IsSame s next → (s.asked ≡ None → is_unsaved run.attempt.stage ≡ true → next.asked ≡ None)
      → here ≡ [] → CheckStep s next run here
  Hears : (o : Outcome) → next.job ≡ Check (run_after run (Heard o)).attempt
      → Agrees (is_unsaved (run_after run (Heard o)).attempt.stage) next (run_after run (Heard o))
      → next.device ≡ s.device → next.standing ≡ s.standing
      → here ≡ asked_with (run_asks run) o
      → NotEnding (run_after run (Heard o)).attempt.stage → CheckStep s next run here

abbrev is_saving : StorageEvent → Bool
is_saving StorySaved = true
is_saving other = false

-- where a set waits, the storage asks nothing, and so is asked nothing
unsaved-asks : (a : StorageAttempt) (backup : Option Set) (draft : Values)
    → is_unsaved a.stage ≡ true → attempt_asks a backup draft ≡ None
unsaved-asks a backup draft waits = unsaved-none a backup draft a.stage waits

module _ (s : Storage) (run : AttemptRun) (job : s.job ≡ Check run.attempt)
    (agrees : Agrees (is_unsaved run.attempt.stage) s run) where
  busy : has_no_job s.job ≡ false
  busy = ap has_no_job job

  same : IsSame s s
  same = record { job = refl; backup = refl; draft = refl; device = refl; standing = refl }

  quiet-same : CheckStep s s run []
  quiet-same = Quiet same (λ none waits. none) refl

  -- one that hears doesn't wait
  hears : (b : Bool) → is_unsaved run.attempt.stage ≡ b → Agrees b s run
      → is_some s.asked ≡ true
      → (is_unsaved run.attempt.stage ≡ false) × (run.backup ≡ s.backup) × (run.draft ≡ s.draft)
  hears true waits (backup, none) asked =
      let clash : false ≡ true = sym (ap is_some none) ∙ asked in absurd (cc)
  hears false waits (backup, draft) asked = (waits, backup, draft)

  asks-is : is_some s.asked ≡ true → storage_asks s ≡ run_asks run
  asks-is asked =
      let (free, backup, draft) = hears (is_unsaved run.attempt.stage) refl agrees asked in
      ap (λ j. job_asks j s.backup s.draft) job
      ∙ ap (λ k. attempt_asks run.attempt k s.draft) (sym backup)
      ∙ ap (λ d. attempt_asks run.attempt run.backup d) (sym draft)

  -- what it hears
  abbrev after_hearing : StorageAttempt × Values → Storage
  after_hearing p = record s { asked = None; breaks = 0; job = Check p.0; draft = p.1 }

  heard-is : is_some s.asked ≡ true → (o : Outcome)
      → job_heard s.job (record s { asked = None; breaks = 0 }) o
      ≡ after_hearing (attempt_after run.attempt run.backup run.draft o)
  heard-is asked o =
      let (free, backup, draft) = hears (is_unsaved run.attempt.stage) refl agrees asked in
      ap (λ j. job_heard j (record s { asked = None; breaks = 0 }) o) job
      ∙ ap after_hearing (ap (λ k. attempt_after run.attempt k s.draft o) (sym backup)
      ∙ ap (λ d. attempt_after run.attempt run.backup d o) (sym draft))

  module _ (asked : is_some s.asked ≡ true) (o : Outcome) where
    abbrev heard : AttemptRun
    heard = run_after run (Heard o)

    abbrev to : Storage
    to = after_hearing (heard.attempt, heard.draft)

    backup-is : heard.backup ≡ s.backup
    backup-is = (hears (is_unsaved run.attempt.stage) refl agrees asked).1

    not-ending : NotEnding heard.attempt.stage
    not-ending = heard-not run.attempt run.backup run.draft run.attempt.stage o refl

    concludes : (end : Option AttemptResult) (waits : Bool)
        → is_unsaved heard.attempt.stage ≡ waits
        → IsTrue (is_check (storage_ended (check_end end waits) to).job)
        → CheckStep s (storage_ended (check_end end waits) to) run (asked_with (run_asks run) o)
    concludes (Some result) waits is check = absurd (cc)
    concludes None true is check =
        Hears o refl (rw is (refl, refl)) refl refl refl not-ending
    concludes None false is check =
        Hears o refl (rw is (backup-is, refl)) refl refl refl not-ending

    step-repeat : (b : Bool)
        → IsTrue (is_check (cond b (record s { asked = None; breaks = s.breaks + 1 })
        (storage_concluded (job_heard s.job (record s { asked = None; breaks = 0 }) o))).job)
        → CheckStep s (cond b (record s { asked = None; breaks = s.breaks + 1 })
        (storage_concluded (job_heard s.job (record s { asked = None; breaks = 0 }) o))) run
        (cond b [] (asked_with (storage_asks s) o))
    step-repeat true check = Quiet
        (record { job = refl; backup = refl; draft = refl; device = refl; standing = refl })
        (λ none waits. refl) refl
    step-repeat false check =
        subst (λ story. CheckStep s
        (storage_concluded (job_heard s.job (record s { asked = None; breaks = 0 }) o)) run story)
        (ap (λ q. asked_with q o) (sym (asks-is asked)))
        (subst (λ t. IsTrue (is_check (storage_concluded t).job)
        → CheckStep s (storage_concluded t) run (asked_with (run_asks run) o))
        (sym (heard-is asked o))
        (λ c. concludes (result_of_attempt heard.attempt) (is_unsaved heard.attempt.stage) refl c)
        check)

  step-heard : (o : Outcome) (b : Bool) → is_some s.asked ≡ b
      → IsTrue (is_check (cond b (storage_heard s o) s).job)
      → CheckStep s (cond b (storage_heard s o) s) run
      (cond b (cond (is_repeated s o) [] (asked_with (storage_asks s) o)) [])
  step-heard o true asked check = step-repeat asked o (is_repeated s o) check
  step-heard o false asked check = quiet-same

  step-observed : (session : Option (List ℕ)) → IsTrue (is_check (storage_observed s session).job)
      → CheckStep s (storage_observed s session) run []
  step-observed None check = absurd (cc)
  step-observed (Some page) check = rw busy quiet-same

  step-watched : (session : Option (List ℕ)) (b : Bool)
      → IsTrue (is_check (cond b s (storage_observed s session)).job)
      → CheckStep s (cond b s (storage_observed s session)) run []
  step-watched session true check = quiet-same
  step-watched session false check = step-observed session check

  -- while a set waits nothing is to be submitted
  step-asked : (ticket : Ticket) (b : Bool) → is_some (to_submit s) ≡ b
      → CheckStep s (cond b (record s { asked = Some ticket }) s) run []
  step-asked ticket true asks = Quiet
      (record { job = refl; backup = refl; draft = refl; device = refl; standing = refl })
      (λ none waits.
      let nothing : to_submit s ≡ None = rw none
      (ap (λ j. job_asks j s.backup s.draft) job
      ∙ unsaved-asks run.attempt s.backup s.draft waits) in
      let clash : false ≡ true = sym (ap is_some nothing) ∙ asks in absurd (cc)) refl
  step-asked ticket false asks = quiet-same

  step-noticed : (event : Event) (b : Bool)
      → CheckStep s (cond b (record s { retry = no_retry true }) s) run []
  step-noticed event true = Quiet
      (record { job = refl; backup = refl; draft = refl; device = refl; standing = refl })
      (λ none waits. none) refl
  step-noticed event false = quiet-same

  step-collected : (b : Bool) → CheckStep s (cond b (record s { ended = None }) s) run []
  step-collected true = Quiet
      (record { job = refl; backup = refl; draft = refl; device = refl; standing = refl })
      (λ none waits. none) refl
  step-collected false = quiet-same

  -- all but the program's saving
  step-of : (event : StorageEvent) → is_saving event ≡ false
      → IsTrue (is_check (storage_after s event).job)
      → CheckStep s (storage_after s event) run (story_of s event)
  step-of (StoryHeard o) other check = step-heard o (is_some s.asked) refl check
  step-of (Watched session) other check = step-watched session (is_some s.asked) check
  step-of (Asked ticket) other check = step-asked ticket (is_some (to_submit s)) refl
  step-of StorySaved other check = absurd (cc)
  step-of (Noticed event) other check = step-noticed event (event.code == 0xFF91)
  step-of (Loaded backup) other check = rw busy quiet-same
  step-of Released other check = rw (ap is_check job) quiet-same
  step-of (Submitted writes keep) other check = rw busy quiet-same
  step-of (Collected block) other check = step-collected (block.0 == s.blocks)

-- All of them

abbrev Upto : Type 0
Upto = List StorageEvent

module _ (begun : Storage) (start : AttemptRun) where
  -- behind these, the check has come here, and its attempt too
  record Checks (done : Upto) (s : Storage) : Type 0 where
    now : storage_behind begun done ≡ s
    events : List AttemptEvent
    run : AttemptRun
    reached : run_behind start events ≡ run
    job : s.job ≡ Check run.attempt
    agrees : Agrees (is_unsaved run.attempt.stage) s run
    story : story_behind begun done ≡ run_asked start events
    device : s.device ≡ begun.device
    standing : s.standing ≡ begun.standing
    saved : is_ending run.attempt.stage ≡ true → WasSavedSince begun done

  module _ (done : Upto) (s : Storage) (now : storage_behind begun done ≡ s)
      (event : StorageEvent) where
    now-more : storage_behind begun (done ++ event ∷ []) ≡ storage_after s event
    now-more = behind-append begun done (event ∷ []) ∙ ap (λ t. storage_after t event) now

    story-more : story_behind begun (done ++ event ∷ [])
        ≡ story_behind begun done ++ story_of s event
    story-more = story-append begun done (event ∷ [])
        ∙ ap (λ t. story_behind begun done ++ (story_of t event ++ [])) now
        ∙ ap (λ y. story_behind begun done ++ y) (append-nil (story_of s event))

    saved-more : story_of s event ≡ [] → (storage_after s event).backup ≡ s.backup
        → WasSavedSince begun done → WasSavedSince begun (done ++ event ∷ [])
    saved-more none same w =
        let behind = storage_saved (storage_behind begun w.before) in
        let reach : storage_behind behind w.after ≡ s =
        sym (behind-append begun w.before (StorySaved ∷ w.after))
        ∙ ap (λ d. storage_behind begun d) (sym w.is) ∙ now in
        record {
          before = w.before;
          after = w.after ++ event ∷ [];
          is = ap (λ d. d ++ event ∷ []) w.is
              ∙ append_assoc w.before (StorySaved ∷ w.after) (event ∷ []);
          waited = w.waited;
          backup = ap (λ (t : Storage). t.backup) now-more ∙ same
              ∙ ap (λ (t : Storage). t.backup) (sym now) ∙ w.backup;
          silent = story-append behind w.after (event ∷ [])
              ∙ ap (λ y. y ++ story_behind (storage_behind behind w.after) (event ∷ [])) w.silent
              ∙ ap (λ t. story_of t event ++ []) reach ∙ ap (λ y. y ++ []) none;
        }

  agrees-same : (s next : Storage) (run : AttemptRun) → IsSame s next
      → (s.asked ≡ None → is_unsaved run.attempt.stage ≡ true → next.asked ≡ None)
      → (b : Bool) → is_unsaved run.attempt.stage ≡ b → Agrees b s run → Agrees b next run
  agrees-same s next run same asked true waits (backup, none) = (
    same.backup ∙ backup ∙ ap (λ d. Some (set_of d run)) (sym same.device),
    asked none waits,
  )
  agrees-same s next run same asked false waits (backup, draft) =
      (backup ∙ sym same.backup, draft ∙ sym same.draft)

  checks-step : (done : Upto) (s : Storage) (c : Checks done s) (event : StorageEvent)
      → CheckStep s (storage_after s event) c.run (story_of s event)
      → Checks (done ++ event ∷ []) (storage_after s event)
  checks-step done s c event (Quiet same asked none) = record {
    now = now-more done s c.now event;
    events = c.events;
    run = c.run;
    reached = c.reached;
    job = same.job ∙ c.job;
    agrees = agrees-same s (storage_after s event) c.run same asked
        (is_unsaved c.run.attempt.stage) refl c.agrees;
    story = story-more done s c.now event ∙ ap (λ y. story_behind begun done ++ y) none
        ∙ append-nil (story_behind begun done) ∙ c.story;
    device = same.device ∙ c.device;
    standing = same.standing ∙ c.standing;
    saved = λ ends. saved-more done s c.now event none same.backup (c.saved ends);
  }
  checks-step done s c event (Hears o job agrees device standing here not) = record {
    now = now-more done s c.now event;
    events = c.events ++ Heard o ∷ [];
    run = run_after c.run (Heard o);
    reached = run-behind start c.events (Heard o) ∙ ap (λ r. run_after r (Heard o)) c.reached;
    job = job;
    agrees = agrees;
    story = story-more done s c.now event ∙ ap (λ y. story_behind begun done ++ y) here
        ∙ ap (λ x. x ++ asked_with (run_asks c.run) o) c.story
        ∙ ap (λ r. run_asked start c.events ++ event_asked r (Heard o)) (sym c.reached)
        ∙ sym (run-asked start c.events (Heard o));
    device = device ∙ c.device;
    standing = standing ∙ c.standing;
    saved = λ ends. let clash : false ≡ true = sym not ∙ ends in absurd (cc);
  }

  -- the program has saved
  module _ (done : Upto) (s : Storage) (c : Checks done s) where
    abbrev ends : StorageAttempt
    ends = with_attempt_stage c.run.attempt Ending

    saved-waiting : is_unsaved c.run.attempt.stage ≡ true
        → Checks (done ++ StorySaved ∷ []) (storage_saved s)
    saved-waiting waits =
        let next : AttemptRun = record { attempt = ends; backup = s.backup; draft = s.draft } in
        let saves : attempt_saved c.run.attempt ≡ ends = rw waits refl in
        let goes : run_after c.run (Saved s.backup s.draft) ≡ next = rw waits refl in
        record {
          now = now-more done s c.now StorySaved;
          events = c.events ++ Saved s.backup s.draft ∷ [];
          run = next;
          reached = run-behind start c.events (Saved s.backup s.draft)
              ∙ ap (λ r. run_after r (Saved s.backup s.draft)) c.reached ∙ goes;
          job = ap job_saved c.job ∙ ap Check saves;
          agrees = (refl, refl);
          story = story-more done s c.now StorySaved ∙ append-nil (story_behind begun done)
              ∙ c.story ∙ sym (append-nil (run_asked start c.events))
              ∙ sym (run-asked start c.events (Saved s.backup s.draft));
          device = c.device;
          standing = c.standing;
          saved = λ _. record {
            before = done;
            after = [];
            is = refl;
            waited = ap job_waits (ap (λ (t : Storage). t.job) c.now ∙ c.job) ∙ waits;
            backup = ap (λ (t : Storage). t.backup) (now-more done s c.now StorySaved)
                ∙ ap (λ (t : Storage). t.backup) (sym c.now);
            silent = refl;
          };
        }

    saved-none : is_unsaved c.run.attempt.stage ≡ false
        → Checks (done ++ StorySaved ∷ []) (storage_saved s)
    saved-none free =
        let stays : attempt_saved c.run.attempt ≡ c.run.attempt = rw free refl in
        checks-step done s c StorySaved (Quiet
        (record {
          job = ap job_saved c.job ∙ ap Check stays ∙ sym c.job;
          backup = refl;
          draft = refl;
          device = refl;
          standing = refl;
        }) (λ none waits. none) refl)

    checks-saved : (b : Bool) → is_unsaved c.run.attempt.stage ≡ b
        → Checks (done ++ StorySaved ∷ []) (storage_saved s)
    checks-saved true waits = saved-waiting waits
    checks-saved false free = saved-none free

    checks-quiet : (event : StorageEvent) → is_saving event ≡ false
        → IsTrue (is_check (storage_after s event).job)
        → Checks (done ++ event ∷ []) (storage_after s event)
    checks-quiet event other check =
        checks-step done s c event (step-of s c.run c.job c.agrees event other check)

    checks-one : (event : StorageEvent) → IsTrue (is_check (storage_after s event).job)
        → Checks (done ++ event ∷ []) (storage_after s event)
    checks-one (StoryHeard o) check = checks-quiet (StoryHeard o) refl check
    checks-one (Watched session) check = checks-quiet (Watched session) refl check
    checks-one (Asked ticket) check = checks-quiet (Asked ticket) refl check
    checks-one StorySaved check = checks-saved (is_unsaved c.run.attempt.stage) refl
    checks-one (Noticed event) check = checks-quiet (Noticed event) refl check
    checks-one (Loaded backup) check = checks-quiet (Loaded backup) refl check
    checks-one Released check = checks-quiet Released refl check
    checks-one (Submitted writes keep) check = checks-quiet (Submitted writes keep) refl check
    checks-one (Collected block) check = checks-quiet (Collected block) refl check

  checks-all : (events : List StorageEvent) (done : Upto) (s : Storage) → Checks done s
      → CheckGoesOn s events → Checks (done ++ events) (storage_behind s events)
  checks-all [] done s c goes = subst (λ d. Checks d s) (sym (append-nil done)) c
  checks-all (event ∷ events) done s c (check, goes) =
      subst (λ d. Checks d (storage_behind (storage_after s event) events))
      (append_assoc done (event ∷ []) events)
      (checks-all events (done ++ event ∷ []) (storage_after s event)
      (checks-one done s c event check) goes)

-- From the beginning

module _ (s : Storage) (page : List ℕ) where
  abbrev first : Storage
  first = check_begun s page

  abbrev start : AttemptPurpose → AttemptRun
  start purpose = run_begun s.mode purpose s.backup s.draft

  begins-agree : (purpose : AttemptPurpose) (stage : AttemptStage)
      → first_stage s.mode ≡ stage → first.backup ≡ s.backup → first.draft ≡ s.draft
      → Agrees (is_unsaved stage) first (start purpose)
  begins-agree purpose stage is backup draft = by s.mode is
    where
      by : (mode : StorageMode) → first_stage mode ≡ stage
          → Agrees (is_unsaved stage) first (start purpose)
      by Off is = subst (λ x. Agrees (is_unsaved x) first (start purpose)) is
          (sym backup, sym draft)
      by Restore is =
          subst (λ x. Agrees (is_unsaved x) first (start purpose)) is (sym backup, sym draft)
      by Both is = subst (λ x. Agrees (is_unsaved x) first (start purpose)) is
          (sym backup, sym draft)
      by Own is = subst (λ x. Agrees (is_unsaved x) first (start purpose)) is
          (sym backup, sym draft)

  begins-not : (mode : StorageMode) → NotEnding (first_stage mode)
  begins-not Off = refl
  begins-not Restore = refl
  begins-not Both = refl
  begins-not Own = refl

  module _ (events : List StorageEvent) (is : IsChecking s page events) where
    begins : Begins s page first
    begins =
        let (p, same, b) = watched-begins s (Some page) is.idle is.begins in
        let pages : p ≡ page = cc in subst (λ x. Begins s x first) pages b

    abbrev from : AttemptRun
    from = start begins.purpose

    at-first : Checks first from [] first
    at-first = record {
      now = refl;
      events = [];
      run = from;
      reached = refl;
      job = begins.job;
      agrees = begins-agree begins.purpose (first_stage s.mode) refl begins.backup begins.draft;
      story = refl;
      device = refl;
      standing = refl;
      saved = λ ends.
          let clash : false ≡ true = sym (begins-not s.mode) ∙ ends in absurd (cc);
    }

    here : Checks first from events (storage_behind first events)
    here = checks-all first from events [] first at-first is.goes_on

    -- what holds of its attempt
    at-run : At s.backup from here.run.attempt.stage here.run.attempt here.run.backup here.run.draft
        (run_asked from here.events) here.events
    at-run = subst (λ r. At s.backup from r.attempt.stage r.attempt r.backup r.draft
        (run_asked from here.events) here.events) here.reached
        (runs s.mode begins.purpose s.backup s.draft here.events).1

    fetched : job_waits (storage_behind first events).job ≡ true
        → (set : Set) × ((storage_behind first events).backup ≡ Some set)
        × (set.device ≡ page_device page)
        × EndsInWholeSet set.checksum set.objects (story_behind first events)
    fetched waits =
        let now = storage_behind first events in
        let unsaved : is_unsaved here.run.attempt.stage ≡ true =
        sym (ap job_waits here.job) ∙ waits in
        let (backup, none) = subst (λ w. Agrees w now here.run) unsaved here.agrees in
        let whole = waits-whole s.backup from here.run.attempt.stage here.run.attempt
        here.run.backup
        here.run.draft (run_asked from here.events) here.events unsaved at-run in (
          set_of now.device here.run,
          backup,
          here.device ∙ begins.device,
          subst (λ story. EndsInWholeSet here.run.attempt.upload.checksum here.run.draft story)
              (sym here.story) whole,
        )

    -- where it asks that an upload ends, its attempt does
    asks-end : (b : Bool) → is_unsaved here.run.attempt.stage ≡ b
        → Agrees b (storage_behind first events) here.run
        → storage_asks (storage_behind first events) ≡ Some (storage_command 2)
        → run_asks here.run ≡ Some (storage_command 2)
    asks-end true waits agrees asks =
        let now = storage_behind first events in
        let nothing : None ≡ Some (storage_command 2) =
        sym (ap (λ j. job_asks j now.backup now.draft) here.job
        ∙ unsaved-asks here.run.attempt now.backup now.draft waits) ∙ asks in absurd (cc)
    asks-end false waits (backup, draft) asks =
        let now = storage_behind first events in
        ap (λ k. attempt_asks here.run.attempt k here.run.draft) backup
        ∙ ap (λ d. attempt_asks here.run.attempt now.backup d) draft
        ∙ sym (ap (λ j. job_asks j now.backup now.draft) here.job) ∙ asks

    were-saved : is_no_set s.backup ≡ false
        → storage_asks (storage_behind first events) ≡ Some (storage_command 2)
        → WasSavedSince first events
    were-saved none asks = here.saved
        (ends-at s.backup from here.run.attempt here.run.backup here.run.draft
        (run_asked from here.events) here.events (λ stage. is_ending stage ≡ true) refl
        here.run.attempt.stage none
        (asks-end (is_unsaved here.run.attempt.stage) refl here.agrees asks) at-run)

pub fetched_sets_are_whole : FetchedSetsAreWhole
fetched_sets_are_whole s page events is waits = fetched s page events is waits

pub ended_uploads_were_saved : EndedUploadsWereSaved
ended_uploads_were_saved s page events is none asks = were-saved s page events is none asks

-- The end

abbrev restores : AttemptResult → Bool
restores ended.Restored = true
restores other = false

abbrev NotRestored : StorageStanding → Type 0
NotRestored standing = is_restored standing ≡ false

either-standing : (b : Bool) (x y : StorageStanding) → NotRestored x → NotRestored y
    → NotRestored (cond b x y)
either-standing true x y one two = one
either-standing false x y one two = two

-- no other result says so
settles-not : (standing : StorageStanding) (backup : Bool) (tries : ℕ) (result : AttemptResult)
    → NotRestored standing → restores result ≡ false
    → NotRestored (settled_standing standing backup tries result)
settles-not standing backup tries ended.Unsupported not other =
    either-standing backup (Trouble trouble.NoStorage) (Served served.Unsupported) refl refl
settles-not standing backup tries ended.Locked not other = refl
settles-not standing backup tries ended.TooLarge not other = refl
settles-not standing backup tries ended.BadList not other = refl
settles-not standing backup tries (ended.Refused refusal) not other = refl
settles-not standing backup tries ended.Empty not other = refl
settles-not standing backup tries ended.Same not other = refl
settles-not standing backup tries ended.Restored not other = absurd (cc)
settles-not standing backup tries ended.Fetched not other = refl
settles-not standing backup tries ended.Unchanged not other = not
settles-not standing backup tries ended.Transient not other = either-standing
    (is_standing_awaited standing && nat_le 2 tries) (Trouble trouble.Attempts) standing refl not

behind-not : (standing proposed : StorageStanding) → NotRestored standing → NotRestored proposed
    → NotRestored (standing_behind standing proposed)
behind-not standing proposed first second =
    either-standing (stays_served standing proposed) standing proposed first second

-- a check that ends as restored has heard so
record HearsRestored (s next : Storage) (run : AttemptRun) (here : Story) : Type 0 where
  o : Outcome
  over : (run_after run (Heard o)).attempt.stage ≡ Over ended.Restored
  backup : next.backup ≡ run.backup
  is : here ≡ asked_with (run_asks run) o

module _ (s : Storage) (run : AttemptRun) (job : s.job ≡ Check run.attempt)
    (agrees : Agrees (is_unsaved run.attempt.stage) s run) (not : NotRestored s.standing) where
  abbrev Ends : Storage → Story → Type 0
  Ends next story = is_check next.job ≡ false → is_restored next.standing ≡ true
      → HearsRestored s next run story

  -- where the job stays it hasn't ended
  ends-not : (next : Storage) (story : Story) → is_check next.job ≡ true → Ends next story
  ends-not next story check over restored =
      let clash : true ≡ false = sym check ∙ over in absurd (cc)

  stays-check : is_check s.job ≡ true
  stays-check = ap is_check job

  module _ (asked : is_some s.asked ≡ true) (o : Outcome) where
    abbrev after : AttemptRun
    after = run_after run (Heard o)

    abbrev heard_to : Storage
    heard_to = after_hearing s run job agrees (after.attempt, after.draft)

    over-is : (result : AttemptResult) → result_of_attempt after.attempt ≡ Some result
        → after.attempt.stage ≡ Over result
    over-is result is = by after.attempt.stage is
      where
        by : (stage : AttemptStage) → stage_attempt_result stage ≡ Some result
            → stage ≡ Over result
        by (Over other) is = let same : other ≡ result = cc in ap Over same
        by State is = absurd (cc)
        by Size is = absurd (cc)
        by Checksum is = absurd (cc)
        by SerialNumber is = absurd (cc)
        by Fetching is = absurd (cc)
        by Unsaved is = absurd (cc)
        by Ending is = absurd (cc)
        by Confirming is = absurd (cc)
        by (Restoring stage) is = absurd (cc)
        by (Breaking result) is = absurd (cc)

    ends-with : (result : AttemptResult) (b : Bool) → restores result ≡ b
        → result_of_attempt after.attempt ≡ Some result
        → Ends (storage_settled heard_to result) (asked_with (run_asks run) o)
    ends-with result false other is over restored =
        let wrong = behind-not s.standing
        (settled_standing s.standing (is_some s.backup) s.retry.tries result) not
        (settles-not s.standing (is_some s.backup) s.retry.tries result not other) in
        let clash : false ≡ true = sym wrong ∙ restored in absurd (cc)
    ends-with ended.Restored true good is over restored = record {
      o = o;
      over = over-is ended.Restored is;
      backup = sym (hears s run job agrees (is_unsaved run.attempt.stage) refl agrees asked).1;
      is = refl;
    }
    ends-with result true good is over restored = absurd (cc)

    ends-concluding : (end : Option AttemptResult) (waits : Bool)
        → result_of_attempt after.attempt ≡ end
        → Ends (storage_ended (check_end end waits) heard_to) (asked_with (run_asks run) o)
    ends-concluding (Some result) waits is = ends-with result (restores result) refl is
    ends-concluding None true is = ends-not (storage_keeping heard_to) _ refl
    ends-concluding None false is = ends-not heard_to _ refl

    ends-repeat : (b : Bool)
        → Ends (cond b (record s { asked = None; breaks = s.breaks + 1 })
        (storage_concluded (job_heard s.job (record s { asked = None; breaks = 0 }) o)))
        (cond b [] (asked_with (storage_asks s) o))
    ends-repeat true = ends-not (record s { asked = None; breaks = s.breaks + 1 }) [] stays-check
    ends-repeat false =
        subst (λ story. Ends
        (storage_concluded (job_heard s.job (record s { asked = None; breaks = 0 }) o)) story)
        (ap (λ q. asked_with q o) (sym (asks-is s run job agrees asked)))
        (subst (λ t. Ends (storage_concluded t) (asked_with (run_asks run) o))
        (sym (heard-is s run job agrees asked o))
        (ends-concluding (result_of_attempt after.attempt) (is_unsaved after.attempt.stage) refl))

  ends-heard : (o : Outcome) (b : Bool) → is_some s.asked ≡ b
      → Ends (cond b (storage_heard s o) s)
      (cond b (cond (is_repeated s o) [] (asked_with (storage_asks s) o)) [])
  ends-heard o true asked = ends-repeat asked o (is_repeated s o)
  ends-heard o false asked = ends-not s [] stays-check

  ends-watched : (session : Option (List ℕ)) (b : Bool)
      → Ends (cond b s (storage_observed s session)) []
  ends-watched session true = ends-not s [] stays-check
  ends-watched None false = λ over restored. absurd (cc)
  ends-watched (Some page) false = rw (busy s run job agrees) (ends-not s [] stays-check)

  either-check : (b : Bool) (other : Storage) → is_check other.job ≡ true
      → is_check (cond b other s).job ≡ true
  either-check true other is = is
  either-check false other is = stays-check

  ends-of : (event : StorageEvent) → Ends (storage_after s event) (story_of s event)
  ends-of (StoryHeard o) = ends-heard o (is_some s.asked) refl
  ends-of (Watched session) = ends-watched session (is_some s.asked)
  ends-of (Asked ticket) = ends-not (storage_after s (Asked ticket)) []
      (either-check (is_some (to_submit s)) (record s { asked = Some ticket }) stays-check)
  ends-of StorySaved =
      ends-not (storage_saved s) [] (ap (λ j. is_check (job_saved j)) job)
  ends-of (Noticed event) = ends-not (storage_after s (Noticed event)) []
      (either-check (event.code == 0xFF91) (record s { retry = no_retry true }) stays-check)
  ends-of (Loaded backup) = rw (busy s run job agrees) (ends-not s [] stays-check)
  ends-of Released = rw stays-check (ends-not s [] stays-check)
  ends-of (Submitted writes keep) = rw (busy s run job agrees) (ends-not s [] stays-check)
  ends-of (Collected block) = ends-not (storage_after s (Collected block)) []
      (either-check (block.0 == s.blocks) (record s { ended = None }) stays-check)

pub restored_standings_are_taken : RestoredStandingsAreTaken
restored_standings_are_taken s page events last is over not restored =
    let c = here s page events is in
    let first = check_begun s page in
    let from = from s page events is in
    let before = storage_behind first events in
    let b = begins s page events is in
    let stands : NotRestored before.standing =
    ap is_restored (c.standing ∙ b.standing) ∙ not in
    let h = ends-of before c.run c.job c.agrees stands last over restored in
    let all = c.events ++ Heard h.o ∷ [] in
    let reached : run_behind from all ≡ run_after c.run (Heard h.o) =
    run-behind from c.events (Heard h.o) ∙ ap (λ r. run_after r (Heard h.o)) c.reached in
    let (backup, taken) = restored-taken s.mode b.purpose s.backup s.draft all
    (ap (λ (r : AttemptRun). r.attempt.stage) reached ∙ h.over) in
    let story : story_behind first (events ++ last ∷ []) ≡ run_asked from all =
    story-more first from events before c.now last ∙ ap (λ y. story_behind first events ++ y) h.is
    ∙ ap (λ x. x ++ asked_with (run_asks c.run) h.o) c.story
    ∙ ap (λ r. run_asked from c.events ++ event_asked r (Heard h.o)) (sym c.reached)
    ∙ sym (run-asked from c.events (Heard h.o)) in (
      (run_behind from all).attempt.unit.items,
      h.backup ∙ sym (ap (λ (r : AttemptRun). r.backup) reached) ∙ backup,
      subst (λ x. IsRestored s.mode s.backup (run_behind from all).attempt.unit.items x) (sym story)
          taken,
    )
