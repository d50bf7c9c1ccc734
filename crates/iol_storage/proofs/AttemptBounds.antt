-- An attempt asks few requests, whatever comes of them: what `attempts_ask_few` rests on.
-- For the clauses of `laws::attempts_ask_few`.
use Rattle.std.proofs.Common.{◌≡◌, ◌≤◌, ◌<◌, ◌+◌, ◌*◌, ℕ, Bool, true, false, List, [], ◌∷◌, ◌++◌, Option, None, Some, ap, sym, refl, subst, cond, arith, length, length-append, ◌&&◌, ◌||◌, ◌==◌}
use Rattle.std.proofs.lemmas.List.{length-append}
use Rattle.std.specs.Prelude.{if◌then◌else◌, bytes_eq, nat_le, nat_lt}
use Rattle.iol_isdu.specs.declared.values.Answer.TheVariants.{Refused as AnswerRefused, Read, Written}
use Rattle.iol_isdu.specs.declared.values.Answer.{Answer}
use Rattle.iol_isdu.specs.declared.values.Cause.TheVariants as cause
use Rattle.iol_isdu.specs.declared.values.Cause.{Cause}
use Rattle.iol_isdu.specs.declared.values.Place.{Place}
use Rattle.iol_isdu.specs.declared.values.Request.{Request}
use Rattle.iol_book.specs.declared.entries.Outcome.TheVariants.{Done, NoIsdu, Unknown, Withdrawn}
use Rattle.iol_book.specs.declared.entries.Outcome.{Outcome}
use Rattle.iol_storage.specs.AttemptLaws.{AttemptEvent, AttemptRun, AttemptsAskFew, HasFewObjects, Heard, Saved, Values, event_asked, run_after, run_asked, run_asks, run_begun}
use Rattle.iol_storage.specs.Attempts.{after_checksum, after_confirmed, after_serial_number, after_state, attempt_stage_asks, behind_attempt, behind_download, behind_end, behind_fetch, behind_restore, behind_size, checksum_confirmed, checksum_octets, checksum_read, counts_flag, decision, decision_beside, decision_without, is_in_service, is_locked, next_look, passes, restore_asks, restore_purpose, serial_number_read, size_read, state_read, unit_looked, with_attempt_stage, with_upload_begun}
use Rattle.iol_storage.specs.Downloads.{behind_answer, behind_cut, behind_outcome, behind_refusal, behind_taken, is_look, lets_go_on, place_asked, session_lasts, stage_after, stage_asks}
use Rattle.iol_storage.specs.Laws.{asked_with, upload_begun}
use Rattle.iol_storage.specs.Objects.{fits_behind, is_command_place}
use Rattle.iol_storage.specs.Uploads.{place_read, behind_checksum, behind_list, behind_other, behind_read, behind_refused, behind_start, behind_upload, is_list, names_more, objects_with, place_named, stage_with, storage_place, upload_after, upload_stage_asks}
use Rattle.iol_storage.specs.declared.attempt.AttemptResult.TheVariants.{Transient, Fetched, Locked, Same, TooLarge, Unchanged}
use Rattle.iol_storage.specs.declared.attempt.AttemptStage.TheVariants.{Breaking, Checksum, Confirming, Ending, Fetching, Over, Restoring, SerialNumber, Size, State, Unsaved}
use Rattle.iol_storage.specs.declared.attempt.AttemptStage.{AttemptStage}
use Rattle.iol_storage.specs.declared.attempt.AttemptPurpose.{AttemptPurpose}
use Rattle.iol_storage.specs.declared.attempt.StorageMode.{StorageMode}
use Rattle.iol_storage.specs.declared.attempt.StorageAttempt.{StorageAttempt}
use Rattle.iol_storage.specs.declared.attempt.StorageMode.TheVariants.{Both, Off, Own, Restore}
use Rattle.iol_storage.specs.declared.attempt.StorageMode.{StorageMode}
use Rattle.iol_storage.specs.declared.download.DownloadPurpose.{DownloadPurpose}
use Rattle.iol_storage.specs.declared.download.DownloadResult.TheVariants as download
use Rattle.iol_storage.specs.declared.download.DownloadResult.TheVariants.{Applied, NotApplied}
use Rattle.iol_storage.specs.declared.download.DownloadStage.TheVariants as download_stage
use Rattle.iol_storage.specs.declared.download.DownloadStage.TheVariants.{Asking}
use Rattle.iol_storage.specs.declared.download.DownloadStage.{DownloadStage}
use Rattle.iol_storage.specs.declared.download.Refusal.{Refusal}
use Rattle.iol_storage.specs.declared.set.Set.{Set}
use Rattle.iol_storage.specs.declared.upload.Upload.{Upload}
use Rattle.iol_storage.specs.declared.upload.UploadResult.TheVariants as upload
use Rattle.iol_storage.specs.declared.upload.UploadResult.TheVariants.{Changed, CutOff}
use Rattle.iol_storage.specs.declared.upload.UploadResult.{UploadResult}
use Rattle.iol_storage.specs.declared.upload.UploadStage.TheVariants as upload_stage
use Rattle.iol_storage.specs.declared.upload.UploadStage.TheVariants.{Listing, Reading, Starting}
use Rattle.iol_storage.specs.declared.upload.UploadStage.{UploadStage}
use Rattle.iol_storage.proofs.Attempts.{either}
use Rattle.iol_storage.proofs.Spans.{few}

lt-of : {a b : ℕ} → nat_lt a b ≡ true → a < b
lt-of {a = a} {b = b} less = grind (arith, less)

and-first : (a b : Bool) → (a && b) ≡ true → a ≡ true
and-first true b is = refl
and-first false b is = absurd (cc)

plus-zero : (n : ℕ) → n + 0 ≡ n
plus-zero n = omega arith

-- one request at most
asked-once : (request : Option Request) (o : Outcome) → length (asked_with request o) ≤ 1
asked-once None o = omega arith
asked-once (Some request) o = omega arith

-- So many were asked, where it is

abbrev FetchBound : UploadStage → Values → ℕ → ℕ → Type 0
FetchBound upload_stage.Starting d f n = n + 77 ≤ 81 * f
FetchBound upload_stage.Listing d f n = n + 76 ≤ 81 * f
FetchBound upload_stage.Reading d f n = (length d ≤ 76) × (n + 75 ≤ 81 * f + length d)
FetchBound (upload_stage.Breaking upload.Whole) d f n = ⊥
FetchBound (upload_stage.Breaking other) d f n = n ≤ 81 * f + 2
FetchBound (upload_stage.Over upload.Whole) d f n = n ≤ 81 * f + 2
FetchBound (upload_stage.Over other) d f n = n ≤ 81 * f + 3

abbrev RestoreBound : DownloadStage → ℕ → ℕ → Type 0
RestoreBound (download_stage.Asking index) last n = (index ≤ last) × (n ≤ 4 + index)
RestoreBound (download_stage.Breaking result) last n = n ≤ 83
RestoreBound (download_stage.Over result) last n = n ≤ 84

abbrev last_of : Option Set → ℕ
last_of None = 0
last_of (Some set) = 2 + length set.objects

module _ (backup : Option Set) (few : HasFewObjects backup) where
  abbrev Looks : ℕ → StorageAttempt → Option Set → ℕ → Type 0
  Looks most a k n = (k ≡ backup) × (a.fetches ≡ 1) × (a.upload.stage ≡ upload_stage.Starting)
      × (n ≤ most)

  abbrev Bound : AttemptStage → StorageAttempt → Option Set → Values → ℕ → Type 0
  Bound State a k d n = Looks 0 a k n
  Bound Size a k d n = Looks 1 a k n
  Bound Checksum a k d n = Looks 2 a k n
  Bound SerialNumber a k d n = Looks 3 a k n
  Bound Fetching a k d n = (a.fetches ≤ 3) × FetchBound a.upload.stage d a.fetches n
  Bound Unsaved a k d n = (a.fetches ≤ 3) × (n ≤ 81 * a.fetches + 2)
  Bound Ending a k d n = (a.fetches ≤ 3) × (n ≤ 81 * a.fetches + 2)
  Bound Confirming a k d n = (a.fetches ≤ 3) × (n ≤ 81 * a.fetches + 3)
  Bound (Restoring stage) a k d n = (k ≡ backup) × RestoreBound stage (last_of backup) n
  Bound (Breaking result) a k d n = n ≤ 246
  Bound (Over result) a k d n = n ≤ 247

  -- at every stage few are asked
  fetch-few : (stage : UploadStage) (d : Values) (f n : ℕ) → f ≤ 3 → FetchBound stage d f n
      → n ≤ 246
  fetch-few upload_stage.Starting d f n most is = omega (arith, most, is)
  fetch-few upload_stage.Listing d f n most is = omega (arith, most, is)
  fetch-few upload_stage.Reading d f n most (short, is) = omega (arith, most, short, is)
  fetch-few (upload_stage.Breaking upload.Whole) d f n most is = absurd is
  fetch-few (upload_stage.Breaking (upload.Refused refusal)) d f n most is = omega (arith, most, is)
  fetch-few (upload_stage.Breaking upload.BadList) d f n most is = omega (arith, most, is)
  fetch-few (upload_stage.Breaking upload.TooLarge) d f n most is = omega (arith, most, is)
  fetch-few (upload_stage.Breaking upload.Changed) d f n most is = omega (arith, most, is)
  fetch-few (upload_stage.Breaking upload.CutOff) d f n most is = omega (arith, most, is)
  fetch-few (upload_stage.Over upload.Whole) d f n most is = omega (arith, most, is)
  fetch-few (upload_stage.Over (upload.Refused refusal)) d f n most is = omega (arith, most, is)
  fetch-few (upload_stage.Over upload.BadList) d f n most is = omega (arith, most, is)
  fetch-few (upload_stage.Over upload.TooLarge) d f n most is = omega (arith, most, is)
  fetch-few (upload_stage.Over upload.Changed) d f n most is = omega (arith, most, is)
  fetch-few (upload_stage.Over upload.CutOff) d f n most is = omega (arith, most, is)

  last-few : (k : Option Set) → HasFewObjects k → last_of k ≤ 78
  last-few None few = omega arith
  last-few (Some set) few = omega (arith, few)

  restore-few : (stage : DownloadStage) (n : ℕ) → RestoreBound stage (last_of backup) n → n ≤ 247
  restore-few (download_stage.Asking index) n (within, is) =
      omega (arith, last-few backup few, within, is)
  restore-few (download_stage.Breaking result) n is = omega (arith, is)
  restore-few (download_stage.Over result) n is = omega (arith, is)

  bound-few : (stage : AttemptStage) (a : StorageAttempt) (k : Option Set) (d : Values) (n : ℕ)
      → Bound stage a k d n → n ≤ 247
  bound-few State a k d n is = omega (arith, is.3)
  bound-few Size a k d n is = omega (arith, is.3)
  bound-few Checksum a k d n is = omega (arith, is.3)
  bound-few SerialNumber a k d n is = omega (arith, is.3)
  bound-few Fetching a k d n (most, is) =
      omega (arith, fetch-few a.upload.stage d a.fetches n most is)
  bound-few Unsaved a k d n (most, is) = omega (arith, most, is)
  bound-few Ending a k d n (most, is) = omega (arith, most, is)
  bound-few Confirming a k d n (most, is) = omega (arith, most, is)
  bound-few (Restoring stage) a k d n (same, is) = restore-few stage n is
  bound-few (Breaking result) a k d n is = omega (arith, is)
  bound-few (Over result) a k d n is = is

  -- What an outcome leads to, once n were asked
  module _ (k : Option Set) (d : Values) (n : ℕ) where
    abbrev BoundNow : StorageAttempt → Type 0
    BoundNow a = Bound a.stage a k d n

    abbrev BoundAt : StorageAttempt → AttemptStage → Type 0
    BoundAt a stage = Bound stage (with_attempt_stage a stage) k d n

    begins-fetch : (a : StorageAttempt) → Looks 4 a k n → BoundAt a Fetching
    begins-fetch a (same, first, begun, most) =
        rw (first, begun) (omega arith, omega (arith, most))

    decided-none : (mode : StorageMode) (a : StorageAttempt) → Looks 4 a k n
        → BoundAt a (decision_without mode)
    decided-none Off a is = omega (arith, is.3)
    decided-none Restore a is = omega (arith, is.3)
    decided-none Both a is = begins-fetch a is
    decided-none Own a is = begins-fetch a is

    decided-some : (a : StorageAttempt) (set : Set) → Looks 4 a k n
        → BoundAt a (decision_beside a set)
    decided-some a set is =
        let to : AttemptStage = Restoring (download_stage.Asking 0) in
        let by_checksum : AttemptStage =
        if bytes_eq a.upload.checksum set.checksum then Over Same else to in
        let by_purpose : AttemptStage =
        if is_in_service a.purpose then Over Unchanged else by_checksum in
        either (BoundAt a) (a.flag && counts_flag a.mode a.unit.items set) Fetching by_purpose
        (begins-fetch a is)
        (either (BoundAt a) (is_in_service a.purpose) (Over Unchanged) by_checksum
        (omega (arith, is.3))
        (either (BoundAt a) (bytes_eq a.upload.checksum set.checksum) (Over Same) to
        (omega (arith, is.3)) (is.0, (omega arith, omega (arith, is.3)))))

    decided : (a : StorageAttempt) (other : Option Set) → Looks 4 a k n
        → BoundAt a (decision a other)
    decided a None is = decided-none a.mode a is
    decided a (Some set) is = decided-some a set is

    looks-more : (most : ℕ) (a : StorageAttempt) → most ≤ 4 → Looks most a k n → Looks 4 a k n
    looks-more most a few (same, first, begun, is) = (same, first, begun, omega (arith, few, is))

    state-read : (a : StorageAttempt) (octets : List ℕ) → Looks 1 a k n
        → BoundNow (state_read a octets)
    state-read a [] is = omega (arith, is.3)
    state-read a (state ∷ []) is = either BoundNow (is_locked state)
        (with_attempt_stage a (Over Locked))
        (record a { flag = nat_le 128 state; stage = Size }) (omega (arith, is.3)) is
    state-read a (state ∷ (other ∷ more)) is = omega (arith, is.3)

    size-read : (a : StorageAttempt) (octets : List ℕ) → Looks 2 a k n
        → BoundAt a (size_read octets)
    size-read a (first ∷ (second ∷ (third ∷ (last ∷ [])))) is = either (BoundAt a)
        (nat_le (16777216 * first + 65536 * second + 256 * third + last) 2048) Checksum
        (Over TooLarge) is (omega (arith, is.3))
    size-read a [] is = omega (arith, is.3)
    size-read a (x ∷ []) is = omega (arith, is.3)
    size-read a (x ∷ (y ∷ [])) is = omega (arith, is.3)
    size-read a (x ∷ (y ∷ (z ∷ []))) is = omega (arith, is.3)
    size-read a (x ∷ (y ∷ (z ∷ (v ∷ (w ∷ more))))) is = omega (arith, is.3)

    next-look : (mode : StorageMode) (a : StorageAttempt) → Looks 3 a k n
        → BoundAt a (next_look mode a k)
    next-look Off a is = decided a k (looks-more 3 a (omega arith) is)
    next-look Restore a is = decided a k (looks-more 3 a (omega arith) is)
    next-look Both a is = decided a k (looks-more 3 a (omega arith) is)
    next-look Own a is = is

    checksum-read : (a : StorageAttempt) (octets : Option (List ℕ)) → Looks 3 a k n
        → BoundNow (checksum_read a k octets)
    checksum-read a None is = omega (arith, is.3)
    checksum-read a (Some checksum) is =
        next-look a.mode (with_upload_begun a checksum) (is.0, is.1, refl, is.3)

    unit-looked : (a : StorageAttempt) (unit : List ℕ) → Looks 4 a k n
        → BoundNow (unit_looked a k unit)
    unit-looked a unit is = decided (record a { unit = record { items = unit } }) k is

    confirmed : (a : StorageAttempt) (octets : Option (List ℕ)) → a.fetches ≤ 3
        → n ≤ 81 * a.fetches + 4 → BoundNow (checksum_confirmed a octets)
    confirmed a None most is = omega (arith, most, is)
    confirmed a (Some checksum) most is =
        let refetch : StorageAttempt = record a {
          upload = upload_begun checksum;
          fetches = a.fetches + 1;
          stage = Fetching;
        } in
        let gives_up : StorageAttempt = with_attempt_stage a (Over Transient) in
        either BoundNow (bytes_eq checksum a.upload.checksum) (with_attempt_stage a (Over Fetched))
        (if nat_lt a.fetches 3 then refetch else gives_up) (omega (arith, most, is))
        (by (nat_lt a.fetches 3) refl)
      where
        by : (b : Bool) → nat_lt a.fetches 3 ≡ b
            → BoundNow (cond b (record a {
              upload = upload_begun checksum;
              fetches = a.fetches + 1;
              stage = Fetching;
            }) (with_attempt_stage a (Over Transient)))
        by true less = let within : a.fetches < 3 = lt-of less in
            (omega (arith, within), omega (arith, is, within))
        by false less = omega (arith, most, is)

    fetched : (a : StorageAttempt) (u : Upload) (stage : UploadStage) → a.fetches ≤ 3
        → u.stage ≡ stage → FetchBound stage d a.fetches n
        → Bound (behind_fetch stage) (record a { upload = u; stage = behind_fetch stage }) k d n
    fetched a u upload_stage.Starting most at is = rw at (most, is)
    fetched a u upload_stage.Listing most at is = rw at (most, is)
    fetched a u upload_stage.Reading most at is = rw at (most, is)
    fetched a u (upload_stage.Breaking result) most at is = rw at (most, is)
    fetched a u (upload_stage.Over upload.Whole) most at is = (most, is)
    fetched a u (upload_stage.Over (upload.Refused refusal)) most at is = omega (arith, most, is)
    fetched a u (upload_stage.Over upload.BadList) most at is = omega (arith, most, is)
    fetched a u (upload_stage.Over upload.TooLarge) most at is = omega (arith, most, is)
    fetched a u (upload_stage.Over upload.Changed) most at is = omega (arith, most, is)
    fetched a u (upload_stage.Over upload.CutOff) most at is = omega (arith, most, is)

    -- the end of an upload
    ended : (a : StorageAttempt) (o : Outcome) → a.fetches ≤ 3 → n ≤ 81 * a.fetches + 3
        → BoundAt a (behind_end o)
    ended a (Done Written) most is = (most, is)
    ended a (Done (AnswerRefused error additional)) most is = omega (arith, most, is)
    ended a (Done (Read octets)) most is = omega (arith, most, is)
    ended a (Unknown cause) most is = either (BoundAt a) (session_lasts cause) (Breaking Transient)
        (Over Transient) (omega (arith, most, is)) (omega (arith, most, is))
    ended a Withdrawn most is = omega (arith, most, is)
    ended a NoIsdu most is = omega (arith, most, is)

-- One request more of a fetch

module _ (d : Values) (f n m : ℕ) (more : m ≤ n + 1) where
  refused-bound : (stage : UploadStage) (refusal : Refusal) → n ≤ 81 * f + 1
      → FetchBound (behind_refused stage (upload.Refused refusal)) d f m
  refused-bound upload_stage.Starting refusal is = omega (arith, more, is)
  refused-bound upload_stage.Listing refusal is = omega (arith, more, is)
  refused-bound upload_stage.Reading refusal is = omega (arith, more, is)
  refused-bound (upload_stage.Breaking result) refusal is = omega (arith, more, is)
  refused-bound (upload_stage.Over result) refusal is = omega (arith, more, is)

  other-bound : (stage : UploadStage) (place : Place) (o : Outcome) → n ≤ 81 * f + 1
      → FetchBound (behind_other stage place o) d f m
  other-bound stage place (Done (AnswerRefused error additional)) is = refused-bound stage
      (record { place = place; error = error; additional = additional }) is
  other-bound stage place (Done Written) is = omega (arith, more, is)
  other-bound stage place (Done (Read octets)) is = omega (arith, more, is)
  other-bound stage place (Unknown cause) is = either (λ s. FetchBound s d f m)
      (session_lasts cause) (upload_stage.Breaking upload.CutOff) (upload_stage.Over upload.CutOff)
      (omega (arith, more, is)) (omega (arith, more, is))
  other-bound stage place Withdrawn is = omega (arith, more, is)
  other-bound stage place NoIsdu is = omega (arith, more, is)

  module _ (u : Upload) where
    start-bound : (o : Outcome) → n + 77 ≤ 81 * f
        → FetchBound (behind_start u d o).0.stage (behind_start u d o).1 f m
    start-bound (Done Written) is = omega (arith, more, is)
    start-bound (Done (Read octets)) is =
        other-bound upload_stage.Starting (storage_place 1) (Done (Read octets)) (omega (arith, is))
    start-bound (Done (AnswerRefused error additional)) is = other-bound upload_stage.Starting
        (storage_place 1) (Done (AnswerRefused error additional)) (omega (arith, is))
    start-bound (Unknown cause) is =
        other-bound upload_stage.Starting (storage_place 1) (Unknown cause) (omega (arith, is))
    start-bound Withdrawn is =
        other-bound upload_stage.Starting (storage_place 1) Withdrawn (omega (arith, is))
    start-bound NoIsdu is =
        other-bound upload_stage.Starting (storage_place 1) NoIsdu (omega (arith, is))

    listed : (b : Bool) → n + 76 ≤ 81 * f
        → FetchBound (cond b upload_stage.Reading (upload_stage.Breaking upload.BadList))
        (cond b [] d) f m
    listed true is = (omega arith, omega (arith, more, is))
    listed false is = omega (arith, more, is)

    list-bound : (o : Outcome) → n + 76 ≤ 81 * f
        → FetchBound (behind_list u d o).0.stage (behind_list u d o).1 f m
    list-bound (Done (Read octets)) is = listed (is_list octets.items) is
    list-bound (Done Written) is =
        other-bound upload_stage.Listing (storage_place 5) (Done Written) (omega (arith, is))
    list-bound (Done (AnswerRefused error additional)) is = other-bound upload_stage.Listing
        (storage_place 5) (Done (AnswerRefused error additional)) (omega (arith, is))
    list-bound (Unknown cause) is =
        other-bound upload_stage.Listing (storage_place 5) (Unknown cause) (omega (arith, is))
    list-bound Withdrawn is =
        other-bound upload_stage.Listing (storage_place 5) Withdrawn (omega (arith, is))
    list-bound NoIsdu is =
        other-bound upload_stage.Listing (storage_place 5) NoIsdu (omega (arith, is))

    module _ (short : length d ≤ 76) (is : n + 75 ≤ 81 * f + length d) where
      room : n ≤ 81 * f + 1
      room = omega (arith, short, is)

      -- one value more fits beside less than 76
      pushed : (place : Place) (octets : List ℕ) (fits : Bool) → fits_behind d octets ≡ fits
          → FetchBound (cond fits upload_stage.Reading (upload_stage.Breaking upload.TooLarge))
          (cond fits (d ++ (place, octets) ∷ []) d) f m
      pushed place octets true fits =
          let less : length d < 76 = lt-of (and-first _ _ fits) in
          let grown : length (d ++ (place, octets) ∷ []) ≡ length d + 1 =
          length-append d ((place, octets) ∷ []) in
          rw grown (omega (arith, less), omega (arith, more, is))
      pushed place octets false fits = omega (arith, more, room)

      valued : (place : Place) (octets : List ℕ) (owned : Bool)
          → FetchBound (cond owned (upload_stage.Breaking upload.BadList)
          (if fits_behind d octets then upload_stage.Reading
          else upload_stage.Breaking upload.TooLarge))
          (cond owned d (if fits_behind d octets then d ++ (place, octets) ∷ [] else d)) f m
      valued place octets true = omega (arith, more, room)
      valued place octets false = pushed place octets (fits_behind d octets) refl

      checked : (octets : List ℕ) → FetchBound (behind_checksum u.checksum octets) d f m
      checked octets = either (λ s. FetchBound s d f m) (bytes_eq octets u.checksum)
          (upload_stage.Over upload.Whole) (upload_stage.Breaking upload.Changed)
          (omega (arith, more, room)) (omega (arith, more, room))

      read-octets : (octets : List ℕ) (names : Bool)
          → let place = place_named u.list.items (length d) in
          FetchBound (cond names (stage_with d place octets) (behind_checksum u.checksum octets))
          (cond names (objects_with d place octets) d) f m
      read-octets octets true = let place = place_named u.list.items (length d) in
          valued place octets (is_command_place place)
      read-octets octets false = checked octets

      abbrev place_now : Place
      place_now = place_read u.list.items (length d)

      read-bound : (o : Outcome)
          → FetchBound (behind_read u d o).0.stage (behind_read u d o).1 f m
      read-bound (Done (Read octets)) =
          read-octets octets.items (names_more u.list.items (length d))
      read-bound (Done Written) = other-bound upload_stage.Reading place_now (Done Written) room
      read-bound (Done (AnswerRefused error additional)) = other-bound upload_stage.Reading
          place_now (Done (AnswerRefused error additional)) room
      read-bound (Unknown cause) =
          other-bound upload_stage.Reading place_now (Unknown cause) room
      read-bound Withdrawn = other-bound upload_stage.Reading place_now Withdrawn room
      read-bound NoIsdu = other-bound upload_stage.Reading place_now NoIsdu room

    broken : (result : UploadResult) → FetchBound (upload_stage.Breaking result) d f n
        → FetchBound (upload_stage.Over result) d f m
    broken upload.Whole is = absurd is
    broken (upload.Refused refusal) is = omega (arith, more, is)
    broken upload.BadList is = omega (arith, more, is)
    broken upload.TooLarge is = omega (arith, more, is)
    broken upload.Changed is = omega (arith, more, is)
    broken upload.CutOff is = omega (arith, more, is)

    over-bound : (result : UploadResult) → m ≤ n → FetchBound (upload_stage.Over result) d f n
        → FetchBound (upload_stage.Over result) d f m
    over-bound upload.Whole same is = omega (arith, same, is)
    over-bound (upload.Refused refusal) same is = omega (arith, same, is)
    over-bound upload.BadList same is = omega (arith, same, is)
    over-bound upload.TooLarge same is = omega (arith, same, is)
    over-bound upload.Changed same is = omega (arith, same, is)
    over-bound upload.CutOff same is = omega (arith, same, is)

    fetch-bound : (stage : UploadStage) (o : Outcome)
        → (upload_stage_asks stage u.list.items (length d) ≡ None → m ≤ n)
        → FetchBound stage d f n
        → FetchBound (behind_upload stage u d o).0.stage (behind_upload stage u d o).1 f m
    fetch-bound upload_stage.Starting o silent is = start-bound o is
    fetch-bound upload_stage.Listing o silent is = list-bound o is
    fetch-bound upload_stage.Reading o silent is = read-bound is.0 is.1 o
    fetch-bound (upload_stage.Breaking result) o silent is = broken result is
    fetch-bound (upload_stage.Over result) o silent is = over-bound result (silent refl) is

-- One request more of a restore

module _ (last n m : ℕ) (few : last ≤ 78) (more : m ≤ n + 1) where
  module _ (index : ℕ) (within : index ≤ last) (is : n ≤ 4 + index) where
    small : m ≤ 83
    small = omega (arith, few, more, within, is)

    abbrev Restored : DownloadStage → Type 0
    Restored stage = RestoreBound stage last m

    taken-bound : (b : Bool) → nat_lt index last ≡ b
        → Restored (cond b (download_stage.Asking (index + 1)) (download_stage.Over
        download.Applied))
    taken-bound true less =
        let under : index < last = lt-of less in (omega (arith, under), omega (arith, more, is))
    taken-bound false less = omega (arith, small)

    cut-bound : (cause : Cause) → Restored (behind_cut index last cause)
    cut-bound cause =
        let cut = if index == last then download.Unknown cause else download.NotApplied in
        either Restored (session_lasts cause) (download_stage.Breaking cut)
        (download_stage.Over cut) small (omega (arith, small))

    refusal-bound : (refusal : Refusal) → Restored (behind_refusal index last refusal)
    refusal-bound refusal = either Restored ((index == 0) || (index == last))
        (download_stage.Over (download.Refused refusal))
        (download_stage.Breaking (download.Refused refusal)) (omega (arith, small)) small

    module _ (purpose : DownloadPurpose) (place : Place) where
      look-bound : Restored (if is_look purpose index then download_stage.Breaking download.FlagSet
          else behind_cut index last cause.Protocol)
      look-bound = either Restored (is_look purpose index)
          (download_stage.Breaking download.FlagSet) (behind_cut index last cause.Protocol) small
          (cut-bound cause.Protocol)

      answer-bound : (answer : Answer) → Restored (behind_answer purpose index last place answer)
      answer-bound (AnswerRefused error additional) =
          refusal-bound (record { place = place; error = error; additional = additional })
      answer-bound Written = look-bound
      answer-bound (Read octets) = look-bound

      outcome-bound : (o : Outcome) → Restored (behind_outcome purpose index last place o)
      outcome-bound (Done answer) = either Restored (lets_go_on purpose index answer)
          (behind_taken index last) (behind_answer purpose index last place answer)
          (taken-bound (nat_lt index last) refl) (answer-bound answer)
      outcome-bound (Unknown cause) = cut-bound cause
      outcome-bound Withdrawn = omega (arith, small)
      outcome-bound NoIsdu = either Restored (index == 0) (download_stage.Over download.NoIsdu)
          (download_stage.Over download.NotApplied) (omega (arith, small)) (omega (arith, small))

-- One event more

module _ (backup : Option Set) (few : HasFewObjects backup) where
  abbrev In : StorageAttempt → Option Set → Values → ℕ → Type 0
  In a k d n = Bound backup few a.stage a k d n

  restore-bound : (a : StorageAttempt) (stage : DownloadStage) (k : Option Set) (d : Values)
      (n m : ℕ) (o : Outcome) → m ≤ n + 1 → (restore_asks a stage k ≡ None → m ≤ n) → k ≡ backup
      → RestoreBound stage (last_of backup) n
      → Bound backup few (behind_restore a stage k o)
      (with_attempt_stage a (behind_restore a stage k o)) k d m
  restore-bound a stage None d n m o more silent same is =
      omega (arith, silent refl, restore-few backup few stage n is)
  restore-bound a stage (Some set) d n m o more silent same is =
      downloaded a set d m same
      (stage_after (restore_purpose a.mode a.unit.items set) set.objects stage o)
      (subst (λ last. RestoreBound (stage_after (restore_purpose a.mode a.unit.items set)
      set.objects stage o) last m) (sym (ap last_of (sym same)))
      (behind stage silent (subst (λ last. RestoreBound stage last n) (ap last_of (sym same)) is)))
    where
      few-here : 2 + length set.objects ≤ 78
      few-here = last-few backup few (Some set) (subst HasFewObjects (sym same) few)

      behind : (at : DownloadStage)
          → (stage_asks (restore_purpose a.mode a.unit.items set) at set.objects ≡ None → m ≤ n)
          → RestoreBound at (2 + length set.objects) n
          → RestoreBound (stage_after (restore_purpose a.mode a.unit.items set) set.objects at o)
          (2 + length set.objects) m
      behind (download_stage.Asking index) silent (within, is) =
          outcome-bound (2 + length set.objects) n m few-here more index within is
          (restore_purpose a.mode a.unit.items set)
          (place_asked (restore_purpose a.mode a.unit.items set) set.objects index) o
      behind (download_stage.Breaking result) silent is = omega (arith, more, is)
      behind (download_stage.Over result) silent is = omega (arith, silent refl, is)

      downloaded : (a : StorageAttempt) (set : Set) (d : Values) (m : ℕ) → Some set ≡ backup
          → (at : DownloadStage) → RestoreBound at (last_of backup) m
          → Bound backup few (behind_download at) (with_attempt_stage a (behind_download at))
          (Some set) d m
      downloaded a set d m same (download_stage.Asking index) is = (same, is)
      downloaded a set d m same (download_stage.Breaking result) is = (same, is)
      downloaded a set d m same (download_stage.Over result) is = omega (arith, is)

  heard-bound : (stage : AttemptStage) (a : StorageAttempt) (k : Option Set) (d : Values)
      (n m : ℕ) (o : Outcome) → a.stage ≡ stage → m ≤ n + 1
      → (attempt_stage_asks stage a k d ≡ None → m ≤ n) → Bound backup few stage a k d n
      → In (behind_attempt stage a k d o).0 k (behind_attempt stage a k d o).1 m
  heard-bound State a k d n m o at more silent is = state-heard o
    where
      looks : Looks backup few 1 a k m
      looks = (is.0, is.1, is.2, omega (arith, more, is.3))

      state-heard : (o : Outcome) → In (after_state a o) k d m
      state-heard (Done (Read octets)) = state-read backup few k d m a octets.items looks
      state-heard (Done (AnswerRefused error additional)) = omega (arith, looks.3)
      state-heard (Done Written) = omega (arith, looks.3)
      state-heard (Unknown cause) = omega (arith, looks.3)
      state-heard Withdrawn = omega (arith, looks.3)
      state-heard NoIsdu = omega (arith, looks.3)
  heard-bound Size a k d n m o at more silent is = size-heard o
    where
      looks : Looks backup few 2 a k m
      looks = (is.0, is.1, is.2, omega (arith, more, is.3))

      size-heard : (o : Outcome)
          → Bound backup few (behind_size o) (with_attempt_stage a (behind_size o)) k d m
      size-heard (Done (Read octets)) = size-read backup few k d m a octets.items looks
      size-heard (Done (AnswerRefused error additional)) = omega (arith, looks.3)
      size-heard (Done Written) = omega (arith, looks.3)
      size-heard (Unknown cause) = omega (arith, looks.3)
      size-heard Withdrawn = omega (arith, looks.3)
      size-heard NoIsdu = omega (arith, looks.3)
  heard-bound Checksum a k d n m o at more silent is = checksum-heard o
    where
      looks : Looks backup few 3 a k m
      looks = (is.0, is.1, is.2, omega (arith, more, is.3))

      checksum-heard : (o : Outcome) → In (after_checksum a k o) k d m
      checksum-heard (Done (Read octets)) =
          checksum-read backup few k d m a (checksum_octets octets.items) looks
      checksum-heard (Done (AnswerRefused error additional)) = omega (arith, looks.3)
      checksum-heard (Done Written) = omega (arith, looks.3)
      checksum-heard (Unknown cause) = omega (arith, looks.3)
      checksum-heard Withdrawn = omega (arith, looks.3)
      checksum-heard NoIsdu = omega (arith, looks.3)
  heard-bound SerialNumber a k d n m o at more silent is = serial-heard o
    where
      looks : Looks backup few 4 a k m
      looks = (is.0, is.1, is.2, omega (arith, more, is.3))

      serial-heard : (o : Outcome) → In (after_serial_number a k o) k d m
      serial-heard (Done (Read octets)) =
          unit-looked backup few k d m a (serial_number_read octets.items) looks
      serial-heard (Done (AnswerRefused error additional)) =
          either (λ x. In x k d m) (passes error additional) (with_attempt_stage a (Over Transient))
          (unit_looked a k []) (omega (arith, looks.3)) (unit-looked backup few k d m a [] looks)
      serial-heard (Done Written) = omega (arith, looks.3)
      serial-heard (Unknown cause) = omega (arith, looks.3)
      serial-heard Withdrawn = omega (arith, looks.3)
      serial-heard NoIsdu = omega (arith, looks.3)
  heard-bound Fetching a k d n m o at more silent (most, is) =
      let next = upload_after a.upload d o in
      fetched backup few k next.1 m a next.0 next.0.stage most refl
      (fetch-bound d a.fetches n m more a.upload a.upload.stage o silent is)
  heard-bound Unsaved a k d n m o at more silent (most, is) =
      rw at (most, omega (arith, silent refl, is))
  heard-bound Ending a k d n m o at more silent (most, is) =
      ended backup few k d m a o most (omega (arith, more, is))
  heard-bound Confirming a k d n m o at more silent (most, is) = confirmed-heard o
    where
      within : m ≤ 81 * a.fetches + 4
      within = omega (arith, more, is)

      confirmed-heard : (o : Outcome) → In (after_confirmed a o) k d m
      confirmed-heard (Done (Read octets)) =
          confirmed backup few k d m a (checksum_octets octets.items) most within
      confirmed-heard (Done (AnswerRefused error additional)) = omega (arith, most, within)
      confirmed-heard (Done Written) = omega (arith, most, within)
      confirmed-heard (Unknown cause) = omega (arith, most, within)
      confirmed-heard Withdrawn = omega (arith, most, within)
      confirmed-heard NoIsdu = omega (arith, most, within)
  heard-bound (Restoring stage) a k d n m o at more silent (same, is) =
      restore-bound a stage k d n m o more silent same is
  heard-bound (Breaking result) a k d n m o at more silent is = omega (arith, more, is)
  heard-bound (Over result) a k d n m o at more silent is = rw at (omega (arith, silent refl, is))

  saved-bound : (stage : AttemptStage) (a : StorageAttempt) (k set : Option Set)
      (d draft : Values) (n : ℕ) → a.stage ≡ stage → Bound backup few stage a k d n
      → let run = run_after (record { attempt = a; backup = k; draft = d }) (Saved set draft) in
      In run.attempt run.backup run.draft n
  saved-bound State a k set d draft n at is = rw at is
  saved-bound Size a k set d draft n at is = rw at is
  saved-bound Checksum a k set d draft n at is = rw at is
  saved-bound SerialNumber a k set d draft n at is = rw at is
  saved-bound Fetching a k set d draft n at is = rw at is
  saved-bound Unsaved a k set d draft n at is = rw at is
  saved-bound Ending a k set d draft n at is = rw at is
  saved-bound Confirming a k set d draft n at is = rw at is
  saved-bound (Restoring stage) a k set d draft n at is = rw at is
  saved-bound (Breaking result) a k set d draft n at is = rw at is
  saved-bound (Over result) a k set d draft n at is = rw at is

  nothing-more : (n : ℕ) (request : Option Request) (o : Outcome) → request ≡ None
      → n + length (asked_with request o) ≤ n
  nothing-more n request o none = rw none (omega arith)

  event-bound : (run : AttemptRun) (e : AttemptEvent) (n : ℕ)
      → In run.attempt run.backup run.draft n
      → let next = run_after run e in
      In next.attempt next.backup next.draft (n + length (event_asked run e))
  event-bound run (Heard o) n is =
      let asked = length (asked_with (run_asks run) o) in
      heard-bound run.attempt.stage run.attempt run.backup run.draft n (n + asked) o refl
      (omega (arith, asked-once (run_asks run) o)) (nothing-more n (run_asks run) o) is
  event-bound run (Saved set draft) n is =
      let next = run_after run (Saved set draft) in
      subst (λ m. In next.attempt next.backup next.draft m) (sym (plus-zero n))
      (saved-bound run.attempt.stage run.attempt run.backup set run.draft draft n refl is)

  run-bound : (events : List AttemptEvent) (run : AttemptRun) (n : ℕ)
      → In run.attempt run.backup run.draft n → n + length (run_asked run events) ≤ 247
  run-bound [] run n is =
      let bound = bound-few backup few run.attempt.stage run.attempt run.backup run.draft n is in
      omega (arith, bound)
  run-bound (e ∷ events) run n is =
      let more = run-bound events (run_after run e) (n + length (event_asked run e))
      (event-bound run e n is) in
      let all : length (event_asked run e ++ run_asked (run_after run e) events)
      ≡ length (event_asked run e) + length (run_asked (run_after run e) events) =
      length-append (event_asked run e) (run_asked (run_after run e) events) in
      rw all (omega (arith, more))

begins-bound : (mode : StorageMode) (purpose : AttemptPurpose) (backup : Option Set)
    (draft : Values) (few : HasFewObjects backup)
    → let begun = run_begun mode purpose backup draft in
    In backup few begun.attempt backup draft 0
begins-bound Off purpose backup draft _ = omega arith
begins-bound Restore purpose backup draft _ = (refl, refl, refl, omega arith)
begins-bound Both purpose backup draft _ = (refl, refl, refl, omega arith)
begins-bound Own purpose backup draft _ = (refl, refl, refl, omega arith)

pub attempts_ask_few : AttemptsAskFew
attempts_ask_few mode purpose backup draft events short =
    let begun = run_begun mode purpose backup draft in
    let most = run-bound backup short events begun 0
    (begins-bound mode purpose backup draft short) in
    omega (arith, most)
