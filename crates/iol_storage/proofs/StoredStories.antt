-- What a job asks stays until it hears of it, and a block is whole or known not to be.
-- For the clauses of `laws::asked_requests_stay`, `laws::blocks_are_whole`,
--     `laws::ended_uploads_were_saved` and 2 more.
use Rattle.std.proofs.Common.{◌≡◌, ◌∙◌, ◌+◌, ◌==◌, ℕ, Bool, true, false, IsTrue, List, [], ◌∷◌, ◌++◌, Option, None, Some, ap, sym, refl, subst, cond, inl, inr}
use Rattle.std.proofs.lemmas.List.{append_assoc, append-nil}
use Rattle.std.specs.Prelude.{is_some}
use Rattle.iol_isdu.specs.declared.values.Place.{Place}
use Rattle.iol_isdu.specs.declared.values.Request.{Request}
use Rattle.iol_book.specs.declared.entries.Outcome.{Outcome}
use Rattle.iol_book.specs.declared.entries.Ticket.{Ticket}
use Rattle.iol_storage.specs.declared.attempt.AttemptStage.{AttemptStage}
use Rattle.iol_storage.specs.declared.attempt.AttemptStage.TheVariants as attempt_stage
use Rattle.iol_storage.specs.declared.attempt.StorageAttempt.{StorageAttempt}
use Rattle.iol_storage.specs.declared.download.Download.{Download}
use Rattle.iol_storage.specs.declared.download.DownloadPurpose.{DownloadPurpose}
use Rattle.iol_storage.specs.declared.download.DownloadPurpose.TheVariants.{Block as BlockPurpose}
use Rattle.iol_storage.specs.declared.download.DownloadResult.{DownloadResult}
use Rattle.iol_storage.specs.declared.download.DownloadResult.TheVariants.{Applied, NotApplied}
use Rattle.iol_storage.specs.declared.download.DownloadResult.TheVariants as download_result
use Rattle.iol_storage.specs.declared.download.DownloadStage.{DownloadStage}
use Rattle.iol_storage.specs.declared.download.DownloadStage.TheVariants.{Asking, Breaking, Over}
use Rattle.iol_storage.specs.declared.set.Set.{Set}
use Rattle.iol_storage.specs.declared.stored.storage.Storage.{Storage}
use Rattle.iol_storage.specs.declared.stored.storage.StorageJob.{StorageJob}
use Rattle.iol_storage.specs.declared.stored.storage.StorageJob.TheVariants.{Idle, Check, Block}
use Rattle.iol_storage.specs.Attempts.{attempt_asks, attempt_stage_asks, is_unsaved}
use Rattle.iol_storage.specs.Stored.{storage_asks, job_asks, job_saved, has_no_job, storage_with_block, no_retry, is_check, standing_released, is_block, storage_concluded, storage_heard, job_heard, job_left, block_left, storage_observed}
use Rattle.iol_storage.specs.Downloads.{stage_asks, stage_after, download_after, download_requests}
use Rattle.iol_storage.specs.Laws.{stage_behind_all, all_asked, asked_with, stage_result, is_applied, IsDownloadCut}
use Rattle.iol_storage.specs.StoredPort.{to_submit}
use Rattle.iol_storage.proofs.Downloads.{asking-taken, asking-within, breaking-failed, applied-whole, others-cut}
use Rattle.iol_storage.specs.StoredStories.{StorageEvent, Heard, Watched, Asked, Saved, Noticed, Loaded, Released, Submitted, Collected, storage_after, storage_behind, is_outcome_event, AskedRequestsStay, is_repeated, story_of, story_behind, BlockGoesOn, BlockEndsAs, BlocksAreWhole}

-- an attempt whose set waits to be saved asks nothing
pub unsaved-none : (a : StorageAttempt) (backup : Option Set) (draft : List (Place × List ℕ))
    (at : AttemptStage) → is_unsaved at ≡ true → attempt_stage_asks at a backup draft ≡ None
unsaved-none a backup draft attempt_stage.State is = absurd (cc)
unsaved-none a backup draft attempt_stage.Size is = absurd (cc)
unsaved-none a backup draft attempt_stage.Checksum is = absurd (cc)
unsaved-none a backup draft attempt_stage.SerialNumber is = absurd (cc)
unsaved-none a backup draft attempt_stage.Fetching is = absurd (cc)
unsaved-none a backup draft attempt_stage.Unsaved is = refl
unsaved-none a backup draft attempt_stage.Ending is = absurd (cc)
unsaved-none a backup draft attempt_stage.Confirming is = absurd (cc)
unsaved-none a backup draft (attempt_stage.Restoring stage) is = absurd (cc)
unsaved-none a backup draft (attempt_stage.Breaking result) is = absurd (cc)
unsaved-none a backup draft (attempt_stage.Over result) is = absurd (cc)

saved-asks : (job : StorageJob) (backup : Option Set) (draft : List (Place × List ℕ))
    (request : Request) → job_asks job backup draft ≡ Some request
    → job_asks (job_saved job) backup draft ≡ Some request
saved-asks Idle backup draft request asks = absurd (cc)
saved-asks (Block download) backup draft request asks = asks
saved-asks (Check attempt) backup draft request asks = by (is_unsaved attempt.stage) refl
  where
    ending : StorageAttempt
    ending = record attempt { stage = attempt_stage.Ending }

    by : (b : Bool) → is_unsaved attempt.stage ≡ b
        → attempt_asks (cond b ending attempt) backup draft ≡ Some request
    by true is =
        let wrong : None ≡ Some request =
        sym (unsaved-none attempt backup draft attempt.stage is) ∙ asks in absurd (cc)
    by false is = asks

has-job : (job : StorageJob) (backup : Option Set) (draft : List (Place × List ℕ))
    (request : Request) → job_asks job backup draft ≡ Some request → has_no_job job ≡ false
has-job Idle backup draft request asks = absurd (cc)
has-job (Check attempt) backup draft request asks = refl
has-job (Block download) backup draft request asks = refl

module _ (s : Storage) (ticket : Ticket) (request : Request) (asked : s.asked ≡ Some ticket)
    (asks : storage_asks s ≡ Some request) where
  abbrev Stays : Storage → Type 0
  Stays next = (next.asked ≡ Some ticket) × (storage_asks next ≡ Some request)

  -- one of two that ask the same
  either-stays : (b : Bool) (other : Storage) → Stays other → Stays (cond b other s)
  either-stays true other stays = stays
  either-stays false other stays = (asked, asks)

  not-idle : has_no_job s.job ≡ false
  not-idle = has-job s.job s.backup s.draft request asks

  stays : (event : StorageEvent) → is_outcome_event event ≡ false → Stays (storage_after s event)
  stays (Heard outcome) other = absurd (cc)
  stays (Watched session) other = rw asked (refl, asks)
  stays (Asked new) other = rw asked (refl, asks)
  stays Saved other = (asked, saved-asks s.job s.backup s.draft request asks)
  stays (Noticed event) other =
      either-stays (event.code == 0xFF91) (record s { retry = no_retry true }) (asked, asks)
  stays (Loaded backup) other = rw not-idle (asked, asks)
  stays Released other = released-stays (is_check s.job)
    where
      released-stays : (b : Bool)
          → Stays (cond b s (record s { standing = standing_released s.standing }))
      released-stays true = (asked, asks)
      released-stays false = (asked, asks)
  stays (Submitted writes keep) other = rw not-idle (asked, asks)
  stays (Collected block) other =
      either-stays (block.0 == s.blocks) (record s { ended = None }) (asked, asks)

pub asked_requests_stay : AskedRequestsStay
asked_requests_stay s event ticket request asked asks other =
    stays s ticket request asked asks event other

-- what happens behind others
pub behind-append : (s : Storage) (first more : List StorageEvent)
    → storage_behind s (first ++ more) ≡ storage_behind (storage_behind s first) more
behind-append s [] more = refl
behind-append s (event ∷ first) more = behind-append (storage_after s event) first more

pub story-append : (s : Storage) (first more : List StorageEvent)
    → story_behind s (first ++ more)
    ≡ story_behind s first ++ story_behind (storage_behind s first) more
story-append s [] more = refl
story-append s (event ∷ first) more =
    ap (λ y. story_of s event ++ y) (story-append (storage_after s event) first more)
    ∙ sym (append_assoc (story_of s event) _ _)

-- A block

abbrev is_watching : StorageEvent → Bool
is_watching (Watched session) = true
is_watching other = false

module _ (purpose : DownloadPurpose) (writes : List (Place × List ℕ)) where
  -- the block is the job, at this stage
  record BlockStands (s : Storage) (at : DownloadStage) : Type 0 where
    job : s.job ≡ Block (record { purpose = purpose; stage = at })
    draft : s.draft ≡ writes

  abbrev final : DownloadStage → List Outcome → DownloadStage
  final at os = stage_behind_all purpose writes at os

  abbrev asked-from : DownloadStage → List Outcome → List (Request × Outcome)
  asked-from at os = all_asked purpose writes at os

  -- a job that an outcome doesn't end stays as it heard it
  goes-on : (t : Storage) (download : Download) (at : DownloadStage)
      → t.job ≡ Block download → download.stage ≡ at
      → IsTrue (is_block (storage_concluded t).job) → storage_concluded t ≡ t
  goes-on t download (Asking index) job is block = rw (job, is) refl
  goes-on t download (Breaking result) job is block = rw (job, is) refl
  goes-on t download (Over result) job is block =
      let wrong : IsTrue (is_block (storage_concluded t).job) = block in
      let idle : is_block (storage_concluded t).job ≡ false = rw (job, is) refl in
      let clash : false ≡ true = sym idle ∙ wrong in absurd (cc)

  -- what one event does to it
  data Step (s next : Storage) (at : DownloadStage) (story_here : List (Request × Outcome)) :
      Type 0 where
    Quiet : BlockStands next at → story_here ≡ [] → Step s next at story_here
    Hears : (o : Outcome) → BlockStands next (stage_after purpose writes at o)
        → story_here ≡ asked_with (stage_asks purpose at writes) o → Step s next at story_here

  abbrev Quiets : Storage → Storage → DownloadStage → List (Request × Outcome) → Type 0
  Quiets s next at story_here = BlockStands next at × (story_here ≡ [])

  module _ (s : Storage) (at : DownloadStage) (stands : BlockStands s at) where
    busy : has_no_job s.job ≡ false
    busy = ap has_no_job stands.job

    same : Quiets s s at []
    same = (stands, refl)

    either-quiet : (b : Bool) (other : Storage) → BlockStands other at
        → Quiets s (cond b other s) at []
    either-quiet true other is = (is, refl)
    either-quiet false other is = same

    -- all but an outcome, and the end of a session, leave it
    quiet : (event : StorageEvent) → is_outcome_event event ≡ false → is_watching event ≡ false
        → Quiets s (storage_after s event) at (story_of s event)
    quiet (Heard outcome) hearing watching = absurd (cc)
    quiet (Watched session) hearing watching = absurd (cc)
    quiet (Asked ticket) hearing watching = either-quiet (is_some (to_submit s))
        (record s { asked = Some ticket }) (record { job = stands.job; draft = stands.draft })
    quiet Saved hearing watching =
        (record { job = ap job_saved stands.job; draft = stands.draft }, refl)
    quiet (Noticed event) hearing watching = either-quiet (event.code == 0xFF91)
        (record s { retry = no_retry true }) (record { job = stands.job; draft = stands.draft })
    quiet (Loaded backup) hearing watching = rw busy same
    quiet Released hearing watching = by (is_check s.job)
      where
        by : (b : Bool)
            → Quiets s (cond b s (record s { standing = standing_released s.standing })) at []
        by true = same
        by false = (record { job = stands.job; draft = stands.draft }, refl)
    quiet (Submitted others keep) hearing watching = rw busy same
    quiet (Collected block) hearing watching = either-quiet (block.0 == s.blocks)
        (record s { ended = None }) (record { job = stands.job; draft = stands.draft })

    -- what the job becomes by an outcome
    abbrev hearing : Outcome → Storage
    hearing o = job_heard s.job (record s { asked = None; breaks = 0 }) o

    abbrev download-behind : Outcome → Download
    download-behind o =
        download_after (record { purpose = purpose; stage = at }) s.draft o

    hearing-job : (o : Outcome) → (hearing o).job ≡ Block (download-behind o)
    hearing-job o = rw (stands.job) refl

    hearing-draft : (o : Outcome) → (hearing o).draft ≡ writes
    hearing-draft o = rw (stands.job) stands.draft

    stage-behind : (o : Outcome) → (download-behind o).stage ≡ stage_after purpose writes at o
    stage-behind o = ap (λ objects. stage_after purpose objects at o) stands.draft

    asks-here : storage_asks s ≡ stage_asks purpose at writes
    asks-here = rw (stands.job) (ap (λ objects. stage_asks purpose at objects) stands.draft)

    step-repeat : (o : Outcome) (b : Bool)
        → IsTrue (is_block (cond b (record s { asked = None; breaks = s.breaks + 1 })
        (storage_concluded (hearing o))).job)
        → Step s (cond b (record s { asked = None; breaks = s.breaks + 1 })
        (storage_concluded (hearing o))) at (cond b [] (asked_with (storage_asks s) o))
    step-repeat o true block = Quiet (record { job = stands.job; draft = stands.draft }) refl
    step-repeat o false block =
        let stays = goes-on (hearing o) (download-behind o) (stage_after purpose writes at o)
        (hearing-job o) (stage-behind o) block in
        Hears o (record {
          job = ap (λ (t : Storage). t.job) stays ∙ hearing-job o
              ∙ ap (λ g. Block (record { purpose = purpose; stage = g })) (stage-behind o);
          draft = ap (λ (t : Storage). t.draft) stays ∙ hearing-draft o;
        }) (ap (λ q. asked_with q o) asks-here)

    step-heard : (o : Outcome) (b : Bool) → IsTrue (is_block (cond b (storage_heard s o) s).job)
        → Step s (cond b (storage_heard s o) s) at
        (cond b (cond (is_repeated s o) [] (asked_with (storage_asks s) o)) [])
    step-heard o true block = step-repeat o (is_repeated s o) block
    step-heard o false block = Quiet stands refl

    step-observed : (session : Option (List ℕ)) → IsTrue (is_block (storage_observed s session).job)
        → Step s (storage_observed s session) at []
    step-observed None block = absurd (cc)
    step-observed (Some page) block = rw busy (Quiet stands refl)

    step-watched : (session : Option (List ℕ)) (b : Bool)
        → IsTrue (is_block (cond b s (storage_observed s session)).job)
        → Step s (cond b s (storage_observed s session)) at []
    step-watched session true block = Quiet stands refl
    step-watched session false block = step-observed session block

    step-quiet : (event : StorageEvent) → is_outcome_event event ≡ false → is_watching event ≡ false
        → Step s (storage_after s event) at (story_of s event)
    step-quiet event hearing watching = let q = quiet event hearing watching in Quiet q.0 q.1

    step-of : (event : StorageEvent) → IsTrue (is_block (storage_after s event).job)
        → Step s (storage_after s event) at (story_of s event)
    step-of (Heard o) block = step-heard o (is_some s.asked) block
    step-of (Watched session) block = step-watched session (is_some s.asked) block
    step-of (Asked ticket) block = step-quiet (Asked ticket) refl refl
    step-of Saved block = step-quiet Saved refl refl
    step-of (Noticed event) block = step-quiet (Noticed event) refl refl
    step-of (Loaded backup) block = step-quiet (Loaded backup) refl refl
    step-of Released block = step-quiet Released refl refl
    step-of (Submitted others keep) block = step-quiet (Submitted others keep) refl refl
    step-of (Collected ticket) block = step-quiet (Collected ticket) refl refl

  -- what many do
  record BlockRun (s : Storage) (events : List StorageEvent) (at : DownloadStage) : Type 0 where
    outcomes : List Outcome
    stands : BlockStands (storage_behind s events) (final at outcomes)
    story_is : story_behind s events ≡ asked-from at outcomes

  run-step : (s : Storage) (event : StorageEvent) (events : List StorageEvent)
      (at : DownloadStage) → Step s (storage_after s event) at (story_of s event)
      → ((next : DownloadStage) → BlockStands (storage_after s event) next
      → BlockRun (storage_after s event) events next)
      → BlockRun s (event ∷ events) at
  run-step s event events at (Quiet stands none) more = let r = more at stands in record {
    outcomes = r.outcomes;
    stands = r.stands;
    story_is = ap (λ x. x ++ story_behind (storage_after s event) events) none ∙ r.story_is;
  }
  run-step s event events at (Hears o stands is) more =
      let r = more (stage_after purpose writes at o) stands in record {
        outcomes = o ∷ r.outcomes;
        stands = r.stands;
        story_is = ap (λ x. x ++ story_behind (storage_after s event) events) is
            ∙ ap (λ y. asked_with (stage_asks purpose at writes) o ++ y) r.story_is;
      }

  block-run : (events : List StorageEvent) (s : Storage) (at : DownloadStage)
      → BlockStands s at → BlockGoesOn s events → BlockRun s events at
  block-run [] s at stands goes = record { outcomes = []; stands = stands; story_is = refl }
  block-run (event ∷ events) s at stands (block, goes) =
      run-step s event events at (step-of s at stands event block)
      (λ next standing. block-run events (storage_after s event) next standing goes)

  -- how one event ends it: by an outcome, or as no session lasts
  data End (s next : Storage) (at : DownloadStage) (story_here : List (Request × Outcome)) :
      Type 0 where
    ByOutcome : (o : Outcome) (result : DownloadResult)
        → stage_after purpose writes at o ≡ Over result → next.ended ≡ Some result
        → story_here ≡ asked_with (stage_asks purpose at writes) o → End s next at story_here
    ByLeaving : next.ended ≡ Some (block_left at) → story_here ≡ [] → End s next at story_here

  -- a job that an outcome ends has its result
  ends-with : (t : Storage) (download : Download) (at : DownloadStage)
      → t.job ≡ Block download → download.stage ≡ at
      → is_block (storage_concluded t).job ≡ false
      → (result : DownloadResult) × (at ≡ Over result)
      × ((storage_concluded t).ended ≡ Some result)
  ends-with t download (Asking index) job is ended =
      let one : is_block (storage_concluded t).job ≡ true = rw (job, is) refl in
      let clash : true ≡ false = sym one ∙ ended in absurd (cc)
  ends-with t download (Breaking result) job is ended =
      let one : is_block (storage_concluded t).job ≡ true = rw (job, is) refl in
      let clash : true ≡ false = sym one ∙ ended in absurd (cc)
  ends-with t download (Over result) job is ended = (result, refl, rw (job, is) refl)

  module _ (s : Storage) (at : DownloadStage) (stands : BlockStands s at) where
    still-one : {X : Type 0} (next : Storage) → BlockStands next at → is_block next.job ≡ false
        → X
    still-one next standing ended =
        let clash : true ≡ false = sym (ap is_block standing.job) ∙ ended in absurd (cc)

    end-repeat : (o : Outcome) (b : Bool)
        → is_block (cond b (record s { asked = None; breaks = s.breaks + 1 })
        (storage_concluded (hearing s at stands o))).job ≡ false
        → End s (cond b (record s { asked = None; breaks = s.breaks + 1 })
        (storage_concluded (hearing s at stands o))) at
        (cond b [] (asked_with (storage_asks s) o))
    end-repeat o true ended = still-one (record s { asked = None; breaks = s.breaks + 1 })
        (record { job = stands.job; draft = stands.draft }) ended
    end-repeat o false ended =
        let (result, over, is) = ends-with (hearing s at stands o) (download-behind s at stands o)
        (stage_after purpose writes at o) (hearing-job s at stands o) (stage-behind s at stands o)
        ended in
        ByOutcome o result over is (ap (λ q. asked_with q o) (asks-here s at stands))

    end-heard : (o : Outcome) (b : Bool) → is_block (cond b (storage_heard s o) s).job ≡ false
        → End s (cond b (storage_heard s o) s) at
        (cond b (cond (is_repeated s o) [] (asked_with (storage_asks s) o)) [])
    end-heard o true ended = end-repeat o (is_repeated s o) ended
    end-heard o false ended = still-one s stands ended

    end-observed : (session : Option (List ℕ)) → is_block (storage_observed s session).job ≡ false
        → End s (storage_observed s session) at []
    end-observed None ended = ByLeaving (ap (λ job. job_left job s.ended) stands.job) refl
    end-observed (Some page) ended =
        let stays : storage_observed s (Some page) ≡ s = rw (busy s at stands) refl in
        still-one s stands (sym (ap (λ (t : Storage). is_block t.job) stays) ∙ ended)

    end-watched : (session : Option (List ℕ)) (b : Bool)
        → is_block (cond b s (storage_observed s session)).job ≡ false
        → End s (cond b s (storage_observed s session)) at []
    end-watched session true ended = still-one s stands ended
    end-watched session false ended = end-observed session ended

    end-quiet : (event : StorageEvent) → is_outcome_event event ≡ false → is_watching event ≡ false
        → is_block (storage_after s event).job ≡ false
        → End s (storage_after s event) at (story_of s event)
    end-quiet event hearing watching ended =
        still-one (storage_after s event) (quiet s at stands event hearing watching).0 ended

    end-of : (event : StorageEvent) → is_block (storage_after s event).job ≡ false
        → End s (storage_after s event) at (story_of s event)
    end-of (Heard o) ended = end-heard o (is_some s.asked) ended
    end-of (Watched session) ended = end-watched session (is_some s.asked) ended
    end-of (Asked ticket) ended = end-quiet (Asked ticket) refl refl ended
    end-of Saved ended = end-quiet Saved refl refl ended
    end-of (Noticed event) ended = end-quiet (Noticed event) refl refl ended
    end-of (Loaded backup) ended = end-quiet (Loaded backup) refl refl ended
    end-of Released ended = end-quiet Released refl refl ended
    end-of (Submitted others keep) ended = end-quiet (Submitted others keep) refl refl ended
    end-of (Collected ticket) ended = end-quiet (Collected ticket) refl refl ended

  final-more : (at : DownloadStage) (os : List Outcome) (o : Outcome)
      → final at (os ++ o ∷ []) ≡ stage_after purpose writes (final at os) o
  final-more at [] o = refl
  final-more at (x ∷ os) o = final-more (stage_after purpose writes at x) os o

  asked-more : (at : DownloadStage) (os : List Outcome) (o : Outcome)
      → asked-from at (os ++ o ∷ [])
      ≡ asked-from at os ++ (asked_with (stage_asks purpose (final at os) writes) o ++ [])
  asked-more at [] o = refl
  asked-more at (x ∷ os) o =
      ap (λ y. asked_with (stage_asks purpose at writes) x ++ y)
      (asked-more (stage_after purpose writes at x) os o)
      ∙ sym (append_assoc (asked_with (stage_asks purpose at writes) x) _ _)

  -- the result of a stage that it came to, over what was asked
  cut-as : (result : DownloadResult) (asked : List (Request × Outcome))
      → is_applied result ≡ false
      → IsDownloadCut purpose writes 0 (download_requests purpose writes) asked result
      → BlockEndsAs purpose writes result asked
  cut-as Applied asked other cut = absurd (cc)
  cut-as (download_result.Refused refusal) asked other cut = inl cut
  cut-as download_result.FlagSet asked other cut = inl cut
  cut-as NotApplied asked other cut = inl cut
  cut-as (download_result.Unknown cause) asked other cut = inl cut
  cut-as download_result.NoIsdu asked other cut = inl cut

  over-as : (result : DownloadResult) (os : List Outcome) (applied : Bool)
      → is_applied result ≡ applied → final (Asking 0) os ≡ Over result
      → BlockEndsAs purpose writes result (asked-from (Asking 0) os)
  over-as Applied os applied is over = applied-whole purpose writes os over
  over-as result os false is over = cut-as result (asked-from (Asking 0) os) is
      (others-cut purpose writes os result is (ap stage_result over))
  over-as result os true is over = absurd (cc)

  left-as : (at : DownloadStage) (os : List Outcome) → final (Asking 0) os ≡ at
      → BlockEndsAs purpose writes (block_left at) (asked-from (Asking 0) os)
  left-as (Asking index) os is = inr (
    record {
      count = index;
      short = asking-within purpose writes index os is;
      taken = asking-taken purpose writes index os is;
    },
    refl,
  )
  left-as (Breaking result) os is =
      let failed = breaking-failed purpose writes result os is in
      cut-as result (asked-from (Asking 0) os) failed
      (others-cut purpose writes os result failed (ap stage_result is))
  left-as (Over result) os is = over-as result os (is_applied result) refl is

  end-as : (s next : Storage) (os : List Outcome) (story_here : List (Request × Outcome))
      → End s next (final (Asking 0) os) story_here
      → (result : DownloadResult) × (next.ended ≡ Some result)
      × BlockEndsAs purpose writes result (asked-from (Asking 0) os ++ (story_here ++ []))
  end-as s next os story_here (ByOutcome o result over is story_is) = (
    result,
    is,
    subst (BlockEndsAs purpose writes result)
        (asked-more (Asking 0) os o ∙ ap (λ y. asked-from (Asking 0) os ++ (y ++ []))
        (sym story_is))
        (over-as result (os ++ o ∷ []) (is_applied result) refl
        (final-more (Asking 0) os o ∙ over)),
  )
  end-as s next os story_here (ByLeaving is none) = (
    block_left (final (Asking 0) os),
    is,
    subst (BlockEndsAs purpose writes (block_left (final (Asking 0) os)))
        (sym (append-nil (asked-from (Asking 0) os))
        ∙ ap (λ y. asked-from (Asking 0) os ++ (y ++ [])) (sym none))
        (left-as (final (Asking 0) os) os refl),
  )

pub blocks_are_whole : BlocksAreWhole
blocks_are_whole s writes keep events last goes ended =
    let purpose = BlockPurpose keep in
    let begun = storage_with_block s writes keep in
    let stands : BlockStands purpose writes begun (Asking 0) =
    record { job = refl; draft = refl } in
    let r = block-run purpose writes events begun (Asking 0) stands goes in
    let end = end-of purpose writes (storage_behind begun events)
    (final purpose writes (Asking 0) r.outcomes) r.stands last ended in
    let (result, is, whole) = end-as purpose writes (storage_behind begun events)
    (storage_after (storage_behind begun events) last) r.outcomes
    (story_of (storage_behind begun events) last) end in (
      result,
      is,
      subst (BlockEndsAs purpose writes result)
          (ap (λ x. x ++ (story_of (storage_behind begun events) last ++ [])) (sym r.story_is)
          ∙ sym (story-append begun events (last ∷ []))) whole,
    )
