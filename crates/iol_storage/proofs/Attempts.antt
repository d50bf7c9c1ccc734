-- An attempt, whatever comes of its requests, and whenever its set is saved: the laws.
-- For the clauses of `laws::restored_sets_are_taken`, `laws::unsaved_sets_are_whole`,
--     `laws::acknowledged_sets_are_saved` and 6 more.
use Rattle.std.proofs.Common.{◌≡◌, ◌+◌, ◌*◌, ◌∷◌, ◌++◌, ◌∙◌, [], ℕ, List, Option, Some, None, Bool, true, false, refl, sym, ap, subst, append_assoc}
use Rattle.std.specs.Prelude.{bytes_eq, ◌&&◌, nat_le, nat_lt, if◌then◌else◌}
use Rattle.std.proofs.lemmas.List.{append-nil, map-append}
use Rattle.iol_isdu.specs.declared.values.Place.{Place}
use Rattle.iol_isdu.specs.declared.values.Request.{Request}
use Rattle.iol_isdu.specs.declared.values.Request.TheVariants.{Read as ReadRequest}
use Rattle.iol_isdu.specs.declared.values.Answer.TheVariants.{Read, Written, Refused as AnswerRefused}
use Rattle.iol_book.specs.declared.entries.Outcome.{Outcome}
use Rattle.iol_book.specs.declared.entries.Outcome.TheVariants.{Done, Unknown, Withdrawn, NoIsdu}
use Rattle.iol_storage.specs.declared.download.DownloadPurpose.{DownloadPurpose}
use Rattle.iol_storage.specs.declared.download.Refusal.{Refusal}
use Rattle.iol_storage.specs.declared.download.DownloadResult.TheVariants as download
use Rattle.iol_storage.specs.declared.download.DownloadStage.{DownloadStage}
use Rattle.iol_storage.specs.declared.download.DownloadStage.TheVariants as download_stage
use Rattle.iol_storage.specs.declared.upload.UploadResult.TheVariants as upload
use Rattle.iol_storage.specs.declared.upload.UploadStage.{UploadStage}
use Rattle.iol_storage.specs.declared.upload.UploadStage.TheVariants as upload_stage
use Rattle.iol_storage.specs.declared.upload.Upload.{Upload}
use Rattle.iol_storage.specs.declared.set.Set.{Set}
use Rattle.iol_storage.specs.declared.attempt.StorageMode.{StorageMode}
use Rattle.iol_storage.specs.declared.attempt.StorageMode.TheVariants.{Off, Restore, Both, Own}
use Rattle.iol_storage.specs.declared.attempt.AttemptPurpose.{AttemptPurpose}
use Rattle.iol_storage.specs.declared.attempt.AttemptResult.{AttemptResult}
use Rattle.iol_storage.specs.declared.attempt.AttemptResult.TheVariants.{Unsupported, Locked, TooLarge, Same, Unchanged, Restored, Fetched, Refused, Transient}
use Rattle.iol_storage.specs.declared.attempt.AttemptStage.{AttemptStage}
use Rattle.iol_storage.specs.declared.attempt.AttemptStage.TheVariants.{State, Size, Checksum, SerialNumber, Fetching, Unsaved, Ending, Confirming, Restoring, Breaking, Over}
use Rattle.iol_storage.specs.declared.attempt.StorageAttempt.{StorageAttempt}
use Rattle.iol_storage.specs.Downloads.{stage_asks, stage_after, session_lasts}
use Rattle.iol_storage.specs.Uploads.{storage_place, upload_asks, upload_after, behind_upload, behind_start, behind_list, behind_read}
use Rattle.iol_storage.specs.Laws.{asked_with, stage_behind_all, all_asked, upload_begun, upload_behind_all, upload_asked, IsWholeSet}
use Rattle.iol_storage.specs.Attempts.{attempt_after, attempt_stage_asks, with_attempt_stage, with_upload_begun, decision, decision_without, decision_beside, counts_flag, is_in_service, next_look, restore_purpose, restore_asks, behind_restore, behind_download, behind_fetch, behind_end, is_unsaved, passes, refusal_result, look_result, is_unsupported, state_read, is_locked, size_read, checksum_octets, checksum_read, checksum_confirmed, unit_looked, serial_number_read, serial_place, after_state, behind_size, after_checksum, after_serial_number, after_confirmed}
use Rattle.iol_storage.specs.AttemptLaws.{UnsavedSetsAreWhole, RestoredSetsAreTaken, run_begun, Values, AttemptEvent, Heard, Saved, AttemptRun, run_after, event_asked, run_behind, run_asked, EndsInWholeSet, IsSavedSince, look_requests, requests_of, IsRestored}
use Rattle.iol_storage.proofs.Uploads.{sets-whole}
use Rattle.iol_storage.proofs.Downloads.{applied-whole}

abbrev pub Asked : Type 0
Asked = List (Request × Outcome)

-- One request more

-- an upload keeps its checksum
start-checksum : (u : Upload) (d : Values) (o : Outcome)
    → (behind_start u d o).0.checksum ≡ u.checksum
start-checksum u d (Done Written) = refl
start-checksum u d other = refl

list-checksum : (u : Upload) (d : Values) (o : Outcome)
    → (behind_list u d o).0.checksum ≡ u.checksum
list-checksum u d (Done (Read octets)) = refl
list-checksum u d other = refl

read-checksum : (u : Upload) (d : Values) (o : Outcome)
    → (behind_read u d o).0.checksum ≡ u.checksum
read-checksum u d (Done (Read octets)) = refl
read-checksum u d other = refl

upload-checksum : (stage : UploadStage) (u : Upload) (d : Values) (o : Outcome)
    → (behind_upload stage u d o).0.checksum ≡ u.checksum
upload-checksum upload_stage.Starting u d o = start-checksum u d o
upload-checksum upload_stage.Listing u d o = list-checksum u d o
upload-checksum upload_stage.Reading u d o = read-checksum u d o
upload-checksum (upload_stage.Breaking result) u d o = refl
upload-checksum (upload_stage.Over result) u d o = refl

upload-behind : (u : Upload) (d : Values) (os : List Outcome) (o : Outcome)
    → upload_behind_all u d (os ++ o ∷ [])
    ≡ upload_after (upload_behind_all u d os).0 (upload_behind_all u d os).1 o
upload-behind u d [] o = refl
upload-behind u d (first ∷ os) o =
    upload-behind (upload_after u d first).0 (upload_after u d first).1 os o

upload-asked : (u : Upload) (d : Values) (os : List Outcome) (o : Outcome)
    → upload_asked u d (os ++ o ∷ []) ≡ upload_asked u d os
    ++ asked_with (upload_asks (upload_behind_all u d os).0 (upload_behind_all u d os).1) o
upload-asked u d [] o = append-nil (asked_with (upload_asks u d) o)
upload-asked u d (first ∷ os) o =
    ap (λ asked. asked_with (upload_asks u d) first ++ asked)
    (upload-asked (upload_after u d first).0 (upload_after u d first).1 os o)
    ∙ sym (append_assoc (asked_with (upload_asks u d) first) _ _)

module _ (purpose : DownloadPurpose) (objects : Values) where
  download-behind : (stage : DownloadStage) (os : List Outcome) (o : Outcome)
      → stage_behind_all purpose objects stage (os ++ o ∷ [])
      ≡ stage_after purpose objects (stage_behind_all purpose objects stage os) o
  download-behind stage [] o = refl
  download-behind stage (first ∷ os) o =
      download-behind (stage_after purpose objects stage first) os o

  download-asked : (stage : DownloadStage) (os : List Outcome) (o : Outcome)
      → all_asked purpose objects stage (os ++ o ∷ [])
      ≡ all_asked purpose objects stage os
      ++ asked_with (stage_asks purpose (stage_behind_all purpose objects stage os) objects) o
  download-asked stage [] o = append-nil (asked_with (stage_asks purpose stage objects) o)
  download-asked stage (first ∷ os) o =
      ap (λ asked. asked_with (stage_asks purpose stage objects) first ++ asked)
      (download-asked (stage_after purpose objects stage first) os o)
      ∙ sym (append_assoc (asked_with (stage_asks purpose stage objects) first) _ _)

pub run-behind : (run : AttemptRun) (events : List AttemptEvent) (e : AttemptEvent)
    → run_behind run (events ++ e ∷ []) ≡ run_after (run_behind run events) e
run-behind run [] e = refl
run-behind run (first ∷ events) e = run-behind (run_after run first) events e

pub run-asked : (run : AttemptRun) (events : List AttemptEvent) (e : AttemptEvent)
    → run_asked run (events ++ e ∷ [])
    ≡ run_asked run events ++ event_asked (run_behind run events) e
run-asked run [] e = append-nil (event_asked run e)
run-asked run (first ∷ events) e =
    ap (λ asked. event_asked run first ++ asked) (run-asked (run_after run first) events e)
    ∙ sym (append_assoc (event_asked run first) _ _)

-- what holds of both holds of the one that is taken
pub either : {X : Type 0} (P : X → Type 0) (b : Bool) (x y : X) → P x → P y
    → P (if b then x else y)
either P true x y first second = first
either P false x y first second = second

-- What holds at each stage

-- a fetch goes on
pub record IsFetching (checksum : List ℕ) (u : Upload) (draft : Values) (asked : Asked) :
    Type 0 where
  before : Asked
  objects : Values
  outcomes : List Outcome
  is : asked ≡ before ++ upload_asked (upload_begun checksum) objects outcomes
  at : upload_behind_all (upload_begun checksum) objects outcomes ≡ (u, draft)

-- a restore of this set goes on
pub record IsRestoring (mode : StorageMode) (unit : List ℕ) (backup : Option Set)
    (stage : DownloadStage) (asked : Asked) : Type 0 where
  pub set : Set
  pub is_backup : backup ≡ Some set
  pub looks : Asked
  pub are : requests_of looks ≡ look_requests mode
  pub outcomes : List Outcome
  pub is : asked ≡ looks
      ++ all_asked (restore_purpose mode unit set) set.objects (download_stage.Asking 0) outcomes
  pub at : stage_behind_all (restore_purpose mode unit set) set.objects (download_stage.Asking 0)
      outcomes ≡ stage

module _ (backup : Option Set) (begun : AttemptRun) where
  abbrev OverAt : AttemptResult → Option Set → StorageMode → List ℕ → Asked → Type 0
  OverAt Restored k md unit asked = (k ≡ backup) × IsRestored md backup unit asked
  OverAt other k md unit asked = Unit {0}

  -- so far these looks were asked
  abbrev Looked : List Request → Option Set → Asked → Type 0
  Looked looks k asked = (k ≡ backup) × (requests_of asked ≡ looks)

  abbrev IsBegun : StorageAttempt → Type 0
  IsBegun a = a.upload ≡ upload_begun a.upload.checksum

  abbrev three_looks : List Request
  three_looks = ReadRequest (storage_place 2) ∷ (ReadRequest (storage_place 3)
      ∷ (ReadRequest (storage_place 4) ∷ []))

  abbrev pub At : AttemptStage → StorageAttempt → Option Set → Values → Asked
      → List AttemptEvent → Type 0
  At State a k d asked events = Looked [] k asked
  At Size a k d asked events = Looked (ReadRequest (storage_place 2) ∷ []) k asked
  At Checksum a k d asked events =
      Looked (ReadRequest (storage_place 2) ∷ (ReadRequest (storage_place 3) ∷ [])) k asked
  At SerialNumber a k d asked events = Looked three_looks k asked × IsBegun a × (a.mode ≡ Own)
  At Fetching a k d asked events = IsFetching a.upload.checksum a.upload d asked
  At Unsaved a k d asked events = EndsInWholeSet a.upload.checksum d asked
  At Ending a k d asked events = IsSavedSince begun events
  At Confirming a k d asked events = Unit {0}
  At (Restoring stage) a k d asked events =
      (k ≡ backup) × IsRestoring a.mode a.unit.items backup stage asked
  At (Breaking result) a k d asked events =
      (other : Option Set) (md : StorageMode) (unit : List ℕ) (all : Asked)
      → OverAt result other md unit all
  At (Over result) a k d asked events = OverAt result k a.mode a.unit.items asked

  abbrev Holds : StorageMode → StorageAttempt → Option Set → Values → Asked
      → List AttemptEvent → Type 0
  Holds mode a k d asked events = (a.mode ≡ mode) × At a.stage a k d asked events

  -- a refusal restores nothing, and no look does
  refused-over : (refusal : Refusal) (k : Option Set) (md : StorageMode) (unit : List ℕ)
      (asked : Asked) → OverAt (refusal_result refusal) k md unit asked
  refused-over refusal k md unit asked = either (λ r. OverAt r k md unit asked)
      (passes refusal.error refusal.additional) Transient (Refused refusal) tt tt

  look-over : (place : Place) (o : Outcome) (k : Option Set) (md : StorageMode) (unit : List ℕ)
      (asked : Asked) → OverAt (look_result place o) k md unit asked
  look-over place (Done (AnswerRefused error additional)) k md unit asked = refused-over
      (record { place = place; error = error; additional = additional }) k md unit asked
  look-over place (Done (Read octets)) k md unit asked = tt
  look-over place (Done Written) k md unit asked = tt
  look-over place (Unknown cause) k md unit asked = tt
  look-over place Withdrawn k md unit asked = tt
  look-over place NoIsdu k md unit asked = tt

  module _ (mode : StorageMode) (k : Option Set) (d : Values) (events : List AttemptEvent) where
    -- a fetch begins
    begins-fetch : (a : StorageAttempt) (asked : Asked) → IsBegun a
        → IsFetching a.upload.checksum a.upload d asked
    begins-fetch a asked is = record {
      before = asked;
      objects = d;
      outcomes = [];
      is = sym (append-nil asked);
      at = ap (λ u. (u, d)) (sym is);
    }

    decided-none : (md : StorageMode) (a : StorageAttempt) (asked : Asked) → IsBegun a
        → At (decision_without md) (with_attempt_stage a (decision_without md)) k d asked events
    decided-none Off a asked is = tt
    decided-none Restore a asked is = tt
    decided-none Both a asked is = begins-fetch a asked is
    decided-none Own a asked is = begins-fetch a asked is

    decided-some : (a : StorageAttempt) (set : Set) (asked : Asked) → IsBegun a → k ≡ backup
        → backup ≡ Some set → requests_of asked ≡ look_requests a.mode
        → At (decision_beside a set) (with_attempt_stage a (decision_beside a set)) k d asked events
    decided-some a set asked is same stays looks =
        let P = λ (s : AttemptStage). At s (with_attempt_stage a s) k d asked events in
        let to : AttemptStage = Restoring (download_stage.Asking 0) in
        let by_checksum : AttemptStage =
        if bytes_eq a.upload.checksum set.checksum then Over Same else to in
        let by_purpose : AttemptStage =
        if is_in_service a.purpose then Over Unchanged else by_checksum in
        either P (a.flag && counts_flag a.mode a.unit.items set) Fetching by_purpose
        (begins-fetch a asked is)
        (either P (is_in_service a.purpose) (Over Unchanged) by_checksum tt
        (either P (bytes_eq a.upload.checksum set.checksum) (Over Same) to tt (
          same,
          record {
            set = set;
            is_backup = stays;
            looks = asked;
            are = looks;
            outcomes = [];
            is = sym (append-nil asked);
            at = refl;
          },
        )))

    decided-by : (a : StorageAttempt) (other : Option Set) (asked : Asked) → IsBegun a → k ≡ backup
        → other ≡ backup → requests_of asked ≡ look_requests a.mode
        → At (decision a other) (with_attempt_stage a (decision a other)) k d asked events
    decided-by a None asked is same stays looks = decided-none a.mode a asked is
    decided-by a (Some set) asked is same stays looks =
        decided-some a set asked is same (sym stays) looks

    -- one look more: it was asked, and then it is this
    looked : (asked : Asked) (looks : List Request) (request : Request) (o : Outcome)
        → requests_of asked ≡ looks
        → requests_of (asked ++ (request, o) ∷ []) ≡ looks ++ request ∷ []
    looked asked looks request o are = map-append (λ one. one.0) asked ((request, o) ∷ [])
        ∙ ap (λ x. x ++ request ∷ []) are

    state-read : (a : StorageAttempt) (octets : List ℕ) (asked : Asked) → a.mode ≡ mode
        → Looked (ReadRequest (storage_place 2) ∷ []) k asked
        → Holds mode (state_read a octets) k d asked events
    state-read a [] asked m looks = (m, tt)
    state-read a (state ∷ []) asked m looks =
        either (λ x. Holds mode x k d asked events) (is_locked state)
        (with_attempt_stage a (Over Locked))
        (record a { flag = nat_le 128 state; stage = Size }) (m, tt) (m, looks)
    state-read a (state ∷ (other ∷ more)) asked m looks = (m, tt)

    state-heard : (a : StorageAttempt) (o : Outcome) (asked : Asked) → a.mode ≡ mode
        → Looked (ReadRequest (storage_place 2) ∷ []) k asked
        → Holds mode (after_state a o) k d asked events
    state-heard a (Done (Read octets)) asked m looks = state-read a octets.items asked m looks
    state-heard a (Done (AnswerRefused error additional)) asked m looks = (
      m,
      either (λ r. OverAt r k a.mode a.unit.items asked) (is_unsupported error additional)
          Unsupported (refusal_result
          (record { place = storage_place 2; error = error; additional = additional })) tt
          (refused-over
          (record { place = storage_place 2; error = error; additional = additional }) k a.mode
          a.unit.items asked),
    )
    state-heard a (Done Written) asked m looks = (m, tt)
    state-heard a (Unknown cause) asked m looks = (m, tt)
    state-heard a Withdrawn asked m looks = (m, tt)
    state-heard a NoIsdu asked m looks = (m, tt)

    abbrev two_looks : List Request
    two_looks = ReadRequest (storage_place 2) ∷ (ReadRequest (storage_place 3) ∷ [])

    size-read : (a : StorageAttempt) (octets : List ℕ) (asked : Asked) → Looked two_looks k asked
        → At (size_read octets) (with_attempt_stage a (size_read octets)) k d asked events
    size-read a (first ∷ (second ∷ (third ∷ (last ∷ [])))) asked looks =
        either (λ s. At s (with_attempt_stage a s) k d asked events)
        (nat_le (16777216 * first + 65536 * second + 256 * third + last) 2048) Checksum
        (Over TooLarge) looks tt
    size-read a [] asked looks = tt
    size-read a (x ∷ []) asked looks = tt
    size-read a (x ∷ (y ∷ [])) asked looks = tt
    size-read a (x ∷ (y ∷ (z ∷ []))) asked looks = tt
    size-read a (x ∷ (y ∷ (z ∷ (v ∷ (w ∷ more))))) asked looks = tt

    size-heard : (a : StorageAttempt) (o : Outcome) (asked : Asked) → Looked two_looks k asked
        → At (behind_size o) (with_attempt_stage a (behind_size o)) k d asked events
    size-heard a (Done (Read octets)) asked looks = size-read a octets.items asked looks
    size-heard a (Done (AnswerRefused error additional)) asked looks =
        look-over (storage_place 3) (Done (AnswerRefused error additional)) k a.mode a.unit.items
        asked
    size-heard a (Done Written) asked looks = tt
    size-heard a (Unknown cause) asked looks = tt
    size-heard a Withdrawn asked looks = tt
    size-heard a NoIsdu asked looks = tt

    next-look : (md : StorageMode) (a : StorageAttempt) (asked : Asked) → a.mode ≡ md → IsBegun a
        → Looked three_looks k asked
        → At (next_look md a k) (with_attempt_stage a (next_look md a k)) k d asked events
    next-look Off a asked m is looks = decided-by a k asked is looks.0 looks.0
        (looks.1 ∙ sym (ap look_requests m))
    next-look Restore a asked m is looks = decided-by a k asked is looks.0 looks.0
        (looks.1 ∙ sym (ap look_requests m))
    next-look Both a asked m is looks = decided-by a k asked is looks.0 looks.0
        (looks.1 ∙ sym (ap look_requests m))
    next-look Own a asked m is looks = (looks, is, m)

    checksum-read : (a : StorageAttempt) (octets : Option (List ℕ)) (asked : Asked) → a.mode ≡ mode
        → Looked three_looks k asked → Holds mode (checksum_read a k octets) k d asked events
    checksum-read a None asked m looks = (m, tt)
    checksum-read a (Some checksum) asked m looks =
        (m, next-look a.mode (with_upload_begun a checksum) asked refl refl looks)

    checksum-heard : (a : StorageAttempt) (o : Outcome) (asked : Asked) → a.mode ≡ mode
        → Looked three_looks k asked → Holds mode (after_checksum a k o) k d asked events
    checksum-heard a (Done (Read octets)) asked m looks =
        checksum-read a (checksum_octets octets.items) asked m looks
    checksum-heard a (Done (AnswerRefused error additional)) asked m looks = (
      m,
      look-over (storage_place 4) (Done (AnswerRefused error additional)) k a.mode
          a.unit.items asked,
    )
    checksum-heard a (Done Written) asked m looks = (m, tt)
    checksum-heard a (Unknown cause) asked m looks = (m, tt)
    checksum-heard a Withdrawn asked m looks = (m, tt)
    checksum-heard a NoIsdu asked m looks = (m, tt)

    unit-looked : (a : StorageAttempt) (unit : List ℕ) (asked : Asked) → a.mode ≡ mode → IsBegun a
        → k ≡ backup → requests_of asked ≡ look_requests a.mode
        → Holds mode (unit_looked a k unit) k d asked events
    unit-looked a unit asked m is same looks =
        (m, decided-by (record a { unit = record { items = unit } }) k asked is same same looks)

    serial-heard : (a : StorageAttempt) (o : Outcome) (asked : Asked) → a.mode ≡ mode → IsBegun a
        → k ≡ backup → requests_of asked ≡ look_requests a.mode
        → Holds mode (after_serial_number a k o) k d asked events
    serial-heard a (Done (Read octets)) asked m is same looks =
        unit-looked a (serial_number_read octets.items) asked m is same looks
    serial-heard a (Done (AnswerRefused error additional)) asked m is same looks =
        either (λ x. Holds mode x k d asked events) (passes error additional)
        (with_attempt_stage a (Over Transient)) (unit_looked a k []) (m, tt)
        (unit-looked a [] asked m is same looks)
    serial-heard a (Done Written) asked m is same looks = (m, tt)
    serial-heard a (Unknown cause) asked m is same looks = (m, tt)
    serial-heard a Withdrawn asked m is same looks = (m, tt)
    serial-heard a NoIsdu asked m is same looks = (m, tt)

    -- the fetch: with one request more it goes on, or ends
    fetched-more : (u : Upload) (asked : Asked) (o : Outcome)
        → IsFetching u.checksum u d asked
        → let next = upload_after u d o in
        IsFetching next.0.checksum next.0 next.1 (asked ++ asked_with (upload_asks u d) o)
    fetched-more u asked o f =
        let next = upload_after u d o in
        subst (λ c. IsFetching c next.0 next.1 (asked ++ asked_with (upload_asks u d) o))
        (sym (upload-checksum u.stage u d o)) (record {
          before = f.before;
          objects = f.objects;
          outcomes = f.outcomes ++ o ∷ [];
          is = ap (λ x. x ++ asked_with (upload_asks u d) o) f.is
              ∙ (append_assoc f.before _ _ ∙ ap (λ x. f.before ++ x)
              (ap (λ s. upload_asked (upload_begun u.checksum) f.objects f.outcomes
              ++ asked_with (upload_asks s.0 s.1) o) (sym f.at)
              ∙ sym (upload-asked (upload_begun u.checksum) f.objects f.outcomes o)));
          at = upload-behind (upload_begun u.checksum) f.objects f.outcomes o
              ∙ ap (λ s. upload_after s.0 s.1 o) f.at;
        })

    whole-fetch : (u : Upload) (draft : Values) (asked : Asked)
        → u.stage ≡ upload_stage.Over upload.Whole → IsFetching u.checksum u draft asked
        → EndsInWholeSet u.checksum draft asked
    whole-fetch u draft asked ends f =
        let done = ap (λ s. s.0.stage) f.at ∙ ends in
        record {
          before = f.before;
          fetched = upload_asked (upload_begun u.checksum) f.objects f.outcomes;
          is = f.is;
          whole = subst (λ objects. IsWholeSet u.checksum objects
              (upload_asked (upload_begun u.checksum) f.objects f.outcomes))
              (ap (λ s. s.1) f.at) (sets-whole u.checksum f.objects f.outcomes done);
        }

    fetch-over : (u : Upload) (stage : UploadStage) (a : StorageAttempt) (draft : Values)
        (asked : Asked) → u.stage ≡ stage → IsFetching u.checksum u draft asked
        → At (behind_fetch stage) (record a { upload = u; stage = behind_fetch stage }) k draft
        asked events
    fetch-over u upload_stage.Starting a draft asked at f = f
    fetch-over u upload_stage.Listing a draft asked at f = f
    fetch-over u upload_stage.Reading a draft asked at f = f
    fetch-over u (upload_stage.Breaking result) a draft asked at f = f
    fetch-over u (upload_stage.Over upload.Whole) a draft asked at f =
        whole-fetch u draft asked at f
    fetch-over u (upload_stage.Over (upload.Refused refusal)) a draft asked at f =
        refused-over refusal k a.mode a.unit.items asked
    fetch-over u (upload_stage.Over upload.BadList) a draft asked at f = tt
    fetch-over u (upload_stage.Over upload.TooLarge) a draft asked at f = tt
    fetch-over u (upload_stage.Over upload.Changed) a draft asked at f = tt
    fetch-over u (upload_stage.Over upload.CutOff) a draft asked at f = tt

    end-heard : (a : StorageAttempt) (o : Outcome) (asked : Asked)
        → At (behind_end o) (with_attempt_stage a (behind_end o)) k d asked events
    end-heard a (Done Written) asked = tt
    end-heard a (Done (AnswerRefused error additional)) asked = refused-over
        (record { place = storage_place 1; error = error; additional = additional }) k a.mode
        a.unit.items asked
    end-heard a (Done (Read octets)) asked = λ other md unit all. tt
    end-heard a (Unknown cause) asked =
        either (λ s. At s (with_attempt_stage a s) k d asked events) (session_lasts cause)
        (Breaking Transient) (Over Transient) (λ other md unit all. tt) tt
    end-heard a Withdrawn asked = tt
    end-heard a NoIsdu asked = tt

    checksum-confirmed : (a : StorageAttempt) (octets : Option (List ℕ)) (asked : Asked)
        → a.mode ≡ mode → Holds mode (checksum_confirmed a octets) k d asked events
    checksum-confirmed a None asked m = (m, tt)
    checksum-confirmed a (Some checksum) asked m =
        let P = λ (x : StorageAttempt). Holds mode x k d asked events in
        let refetch : StorageAttempt = record a {
          upload = upload_begun checksum;
          fetches = a.fetches + 1;
          stage = Fetching;
        } in
        let ended : StorageAttempt = with_attempt_stage a (Over Transient) in
        either P (bytes_eq checksum a.upload.checksum) (with_attempt_stage a (Over Fetched))
        (if nat_lt a.fetches 3 then refetch else ended) (m, tt)
        (either P (nat_lt a.fetches 3) refetch ended (m, begins-fetch refetch asked refl) (m, tt))

    confirmed-heard : (a : StorageAttempt) (o : Outcome) (asked : Asked) → a.mode ≡ mode
        → Holds mode (after_confirmed a o) k d asked events
    confirmed-heard a (Done (Read octets)) asked m =
        checksum-confirmed a (checksum_octets octets.items) asked m
    confirmed-heard a (Done (AnswerRefused error additional)) asked m = (
      m,
      look-over (storage_place 4) (Done (AnswerRefused error additional)) k a.mode a.unit.items
          asked,
    )
    confirmed-heard a (Done Written) asked m = (m, tt)
    confirmed-heard a (Unknown cause) asked m = (m, tt)
    confirmed-heard a Withdrawn asked m = (m, tt)
    confirmed-heard a NoIsdu asked m = (m, tt)

    -- the restore: with one request more it goes on, or ends
    restored-more : (md : StorageMode) (unit : List ℕ) (stage : DownloadStage) (asked : Asked)
        (o : Outcome) (r : IsRestoring md unit backup stage asked)
        → let purpose = restore_purpose md unit r.set in
        IsRestoring md unit backup (stage_after purpose r.set.objects stage o)
        (asked ++ asked_with (stage_asks purpose stage r.set.objects) o)
    restored-more md unit stage asked o r =
        let purpose = restore_purpose md unit r.set in
        let first : DownloadStage = download_stage.Asking 0 in
        record {
          set = r.set;
          is_backup = r.is_backup;
          looks = r.looks;
          are = r.are;
          outcomes = r.outcomes ++ o ∷ [];
          is = ap (λ x. x ++ asked_with (stage_asks purpose stage r.set.objects) o) r.is
              ∙ (append_assoc r.looks _ _ ∙ ap (λ x. r.looks ++ x)
              (ap (λ s. all_asked purpose r.set.objects first r.outcomes
              ++ asked_with (stage_asks purpose s r.set.objects) o) (sym r.at)
              ∙ sym (download-asked purpose r.set.objects first r.outcomes o)));
          at = download-behind purpose r.set.objects first r.outcomes o
              ∙ ap (λ s. stage_after purpose r.set.objects s o) r.at;
        }

    restore-over : (a : StorageAttempt) (stage : DownloadStage) (asked : Asked) → k ≡ backup
        → IsRestoring a.mode a.unit.items backup stage asked
        → At (behind_download stage) (with_attempt_stage a (behind_download stage)) k d asked
        events
    restore-over a (download_stage.Asking index) asked same r = (same, r)
    restore-over a (download_stage.Breaking result) asked same r = (same, r)
    restore-over a (download_stage.Over download.Applied) asked same r =
        let purpose = restore_purpose a.mode a.unit.items r.set in (
          same,
          record {
            set = r.set;
            is_backup = r.is_backup;
            whole = record {
              looks = r.looks;
              are = r.are;
              restored = all_asked purpose r.set.objects (download_stage.Asking 0) r.outcomes;
              taken = applied-whole purpose r.set.objects r.outcomes r.at;
              is = r.is;
            };
          },
        )
    restore-over a (download_stage.Over (download.Refused refusal)) asked same r =
        refused-over refusal k a.mode a.unit.items asked
    restore-over a (download_stage.Over download.FlagSet) asked same r = tt
    restore-over a (download_stage.Over download.NotApplied) asked same r = tt
    restore-over a (download_stage.Over (download.Unknown cause)) asked same r = tt
    restore-over a (download_stage.Over download.NoIsdu) asked same r = tt

    restore-heard : (a : StorageAttempt) (stage : DownloadStage) (o : Outcome) (asked : Asked)
        → k ≡ backup → IsRestoring a.mode a.unit.items backup stage asked
        → At (behind_restore a stage k o) (with_attempt_stage a (behind_restore a stage k o)) k d
        (asked ++ asked_with (restore_asks a stage k) o) events
    restore-heard a stage o asked same r =
        let purpose = restore_purpose a.mode a.unit.items r.set in
        subst (λ x. At (behind_restore a stage x o)
        (with_attempt_stage a (behind_restore a stage x o)) k d
        (asked ++ asked_with (restore_asks a stage x) o) events) (sym (same ∙ r.is_backup))
        (restore-over a (stage_after purpose r.set.objects stage o)
        (asked ++ asked_with (stage_asks purpose stage r.set.objects) o) same
        (restored-more a.mode a.unit.items stage asked o r))

    nothing-asked : (stage : AttemptStage) (a : StorageAttempt) (asked : Asked)
        → At stage a k d asked events → At stage a k d (asked ++ []) events
    nothing-asked stage a asked is =
        subst (λ x. At stage a k d x events) (sym (append-nil asked)) is

    heard : (stage : AttemptStage) (a : StorageAttempt) (asked : Asked) (past : List AttemptEvent)
        (o : Outcome) → a.mode ≡ mode → At stage (with_attempt_stage a stage) k d asked past
        → let now = with_attempt_stage a stage in
        Holds mode (attempt_after now k d o).0 k (attempt_after now k d o).1
        (asked ++ asked_with (attempt_stage_asks stage now k d) o) events
    heard State a asked past o m is = state-heard (with_attempt_stage a State) o _ m
        (is.0, looked asked [] (ReadRequest (storage_place 2)) o is.1)
    heard Size a asked past o m is = (
      m,
      size-heard (with_attempt_stage a Size) o _ (
        is.0,
        looked asked (ReadRequest (storage_place 2) ∷ []) (ReadRequest (storage_place 3)) o
            is.1,
      ),
    )
    heard Checksum a asked past o m is = checksum-heard (with_attempt_stage a Checksum) o _ m
        (is.0, looked asked two_looks (ReadRequest (storage_place 4)) o is.1)
    heard SerialNumber a asked past o m is = serial-heard (with_attempt_stage a SerialNumber) o _
        m is.1 is.0.0 (looked asked three_looks (ReadRequest serial_place) o is.0.1
        ∙ sym (ap look_requests is.2))
    heard Fetching a asked past o m is =
        let next = upload_after a.upload d o in (
          m,
          fetch-over next.0 next.0.stage (with_attempt_stage a Fetching) next.1 _ refl
              (fetched-more a.upload asked o is),
        )
    heard Unsaved a asked past o m is =
        (m, nothing-asked Unsaved (with_attempt_stage a Unsaved) asked is)
    heard Ending a asked past o m is = (m, end-heard (with_attempt_stage a Ending) o _)
    heard Confirming a asked past o m is =
        confirmed-heard (with_attempt_stage a Confirming) o _ m
    heard (Restoring stage) a asked past o m is =
        (m, restore-heard (with_attempt_stage a (Restoring stage)) stage o asked is.0 is.1)
    heard (Breaking result) a asked past o m is = (m, is k a.mode a.unit.items _)
    heard (Over result) a asked past o m is =
        (m, nothing-asked (Over result) (with_attempt_stage a (Over result)) asked is)

  -- a set that waits is saved
  saved-still : (past : List AttemptEvent) (e : AttemptEvent)
      → ((run : AttemptRun) → event_asked run e ≡ []) → IsSavedSince begun past
      → IsSavedSince begun (past ++ e ∷ [])
  saved-still past e silent s =
      let from = run_after (run_behind begun s.before) (Saved s.backup s.draft) in
      record {
        before = s.before;
        backup = s.backup;
        draft = s.draft;
        after = s.after ++ e ∷ [];
        is = ap (λ x. x ++ e ∷ []) s.is
            ∙ append_assoc s.before (Saved s.backup s.draft ∷ s.after) (e ∷ []);
        waited = s.waited;
        silent = run-asked from s.after e
            ∙ (ap (λ x. x ++ event_asked (run_behind from s.after) e) s.silent
            ∙ silent (run_behind from s.after));
      }

  abbrev run_at : AttemptStage → StorageAttempt → Option Set → Values → AttemptRun
  run_at stage a k d = record { attempt = with_attempt_stage a stage; backup = k; draft = d }

  abbrev Runs : StorageMode → AttemptRun → Asked → List AttemptEvent → Type 0
  Runs mode run asked events = Holds mode run.attempt run.backup run.draft asked events

  saved : (mode : StorageMode) (stage : AttemptStage) (a : StorageAttempt) (k : Option Set)
      (d : Values) (asked : Asked) (past : List AttemptEvent) (set : Option Set) (draft : Values)
      → run_at stage a k d ≡ run_behind begun past
      → Runs mode (run_at stage a k d) asked past
      → Runs mode (run_after (run_at stage a k d) (Saved set draft)) asked
      (past ++ Saved set draft ∷ [])
  saved mode State a k d asked past set draft reached is = is
  saved mode Size a k d asked past set draft reached is = is
  saved mode Checksum a k d asked past set draft reached is = is
  saved mode SerialNumber a k d asked past set draft reached is = is
  saved mode Fetching a k d asked past set draft reached is = is
  saved mode Unsaved a k d asked past set draft reached is = (
    is.0,
    record {
      before = past;
      backup = set;
      draft = draft;
      after = [];
      is = refl;
      waited = ap (λ r. is_unsaved r.attempt.stage) (sym reached);
      silent = refl;
    },
  )
  saved mode Ending a k d asked past set draft reached is =
      (is.0, saved-still past (Saved set draft) (λ run. refl) is.1)
  saved mode Confirming a k d asked past set draft reached is = is
  saved mode (Restoring stage) a k d asked past set draft reached is = is
  saved mode (Breaking result) a k d asked past set draft reached is = is
  saved mode (Over result) a k d asked past set draft reached is = is

  step : (mode : StorageMode) (run : AttemptRun) (asked : Asked) (past : List AttemptEvent)
      (e : AttemptEvent) → run ≡ run_behind begun past → Runs mode run asked past
      → Runs mode (run_after run e) (asked ++ event_asked run e) (past ++ e ∷ [])
  step mode run asked past (Heard o) reached is =
      heard mode run.backup run.draft (past ++ Heard o ∷ []) run.attempt.stage run.attempt asked
      past o is.0 is.1
  step mode run asked past (Saved set draft) reached is =
      subst (λ x. Runs mode (run_after run (Saved set draft)) x (past ++ Saved set draft ∷ []))
      (sym (append-nil asked)) (saved mode run.attempt.stage run.attempt run.backup run.draft asked
      past set draft reached is)

  keeps : (mode : StorageMode) (events : List AttemptEvent) (run : AttemptRun) (asked : Asked)
      (past : List AttemptEvent) → run ≡ run_behind begun past → Runs mode run asked past
      → Runs mode (run_behind run events) (asked ++ run_asked run events) (past ++ events)
  keeps mode [] run asked past reached is =
      subst (λ x. Runs mode run x (past ++ [])) (sym (append-nil asked))
      (subst (λ x. Runs mode run asked x) (sym (append-nil past)) is)
  keeps mode (e ∷ events) run asked past reached is =
      let next = keeps mode events (run_after run e) (asked ++ event_asked run e)
      (past ++ e ∷ []) (ap (λ r. run_after r e) reached ∙ sym (run-behind begun past e))
      (step mode run asked past e reached is) in
      let all = run_behind (run_after run e) events in
      subst (λ x. Runs mode all x (past ++ e ∷ events))
      (append_assoc asked (event_asked run e) (run_asked (run_after run e) events))
      (subst (λ x. Runs mode all ((asked ++ event_asked run e)
      ++ run_asked (run_after run e) events) x) (append_assoc past (e ∷ []) events) next)

-- what holds of each run from its beginning
begins : (mode : StorageMode) (purpose : AttemptPurpose) (backup : Option Set) (draft : Values)
    → Runs backup (run_begun mode purpose backup draft) mode
    (run_begun mode purpose backup draft) [] []
begins Off purpose backup draft = (refl, tt)
begins Restore purpose backup draft = (refl, (refl, refl))
begins Both purpose backup draft = (refl, (refl, refl))
begins Own purpose backup draft = (refl, (refl, refl))

pub runs : (mode : StorageMode) (purpose : AttemptPurpose) (backup : Option Set) (draft : Values)
    (events : List AttemptEvent)
    → let begun = run_begun mode purpose backup draft in
    Runs backup begun mode (run_behind begun events) (run_asked begun events) events
runs mode purpose backup draft events =
    let begun = run_begun mode purpose backup draft in
    keeps backup begun mode events begun [] [] refl (begins mode purpose backup draft)

-- The laws

pub waits-whole : (backup : Option Set) (begun : AttemptRun) (stage : AttemptStage)
    (a : StorageAttempt)
    (k : Option Set) (d : Values) (asked : Asked) (events : List AttemptEvent)
    → is_unsaved stage ≡ true → At backup begun stage a k d asked events
    → EndsInWholeSet a.upload.checksum d asked
waits-whole backup begun Unsaved a k d asked events waits is = is
waits-whole backup begun State a k d asked events waits is = absurd (cc)
waits-whole backup begun Size a k d asked events waits is = absurd (cc)
waits-whole backup begun Checksum a k d asked events waits is = absurd (cc)
waits-whole backup begun SerialNumber a k d asked events waits is = absurd (cc)
waits-whole backup begun Fetching a k d asked events waits is = absurd (cc)
waits-whole backup begun Ending a k d asked events waits is = absurd (cc)
waits-whole backup begun Confirming a k d asked events waits is = absurd (cc)
waits-whole backup begun (Restoring stage) a k d asked events waits is = absurd (cc)
waits-whole backup begun (Breaking result) a k d asked events waits is = absurd (cc)
waits-whole backup begun (Over result) a k d asked events waits is = absurd (cc)

pub unsaved-whole : UnsavedSetsAreWhole
unsaved-whole mode purpose backup draft events waits =
    let begun = run_begun mode purpose backup draft in
    let run = run_behind begun events in
    waits-whole backup begun run.attempt.stage run.attempt run.backup run.draft
    (run_asked begun events) events waits (runs mode purpose backup draft events).1

pub restored-taken : RestoredSetsAreTaken
restored-taken mode purpose backup draft events ends =
    let begun = run_begun mode purpose backup draft in
    let run = run_behind begun events in
    let asked = run_asked begun events in
    let all = runs mode purpose backup draft events in
    let (same, restored) =
    subst (λ s. At backup begun s run.attempt run.backup run.draft asked events) ends all.1 in
    (same, subst (λ md. IsRestored md backup run.attempt.unit.items asked) all.0 restored)
