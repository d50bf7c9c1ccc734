-- What an attempt asks, whatever came of its requests: the laws of that.
-- For the clauses of `laws::acknowledged_sets_are_saved`, `laws::attempts_ask_no_more`,
--     `laws::ended_uploads_were_saved` and 2 more.
use Rattle.std.proofs.Common.{◌≡◌, ◌≤◌, ◌⊎◌, inl, inr, ◌∷◌, ◌++◌, ◌∙◌, [], ℕ, zero, suc, List, Option, Some, Bool, true, false, refl, sym, ap, arith, subst}
use Rattle.std.specs.Prelude.{map, slice_get, ◌||◌, if◌then◌else◌}
use Rattle.iol_isdu.specs.declared.values.Place.{Place}
use Rattle.iol_isdu.specs.declared.values.Request.{Request}
use Rattle.iol_isdu.specs.declared.values.Request.TheVariants.{Read as ReadRequest, Write as WriteRequest}
use Rattle.iol_storage.specs.declared.download.Flag.{Flag}
use Rattle.iol_storage.specs.declared.download.Flag.TheVariants.{Ignored, Counts}
use Rattle.iol_storage.specs.declared.download.DownloadPurpose.TheVariants.{Restore as RestorePurpose}
use Rattle.iol_storage.specs.declared.download.DownloadStage.{DownloadStage}
use Rattle.iol_storage.specs.declared.download.DownloadStage.TheVariants as download_stage
use Rattle.iol_storage.specs.declared.upload.UploadStage.{UploadStage}
use Rattle.iol_storage.specs.declared.upload.UploadStage.TheVariants as upload_stage
use Rattle.iol_storage.specs.declared.set.Set.{Set}
use Rattle.iol_storage.specs.declared.attempt.AttemptStage.{AttemptStage}
use Rattle.iol_storage.specs.declared.attempt.AttemptStage.TheVariants.{State, Size, Checksum, SerialNumber, Fetching, Unsaved, Ending, Confirming, Restoring, Breaking, Over}
use Rattle.iol_storage.specs.declared.attempt.StorageAttempt.{StorageAttempt}
use Rattle.iol_storage.specs.Objects.{any_owned, is_command_place}
use Rattle.iol_storage.specs.Sets.{is_no_set}
use Rattle.iol_storage.specs.Downloads.{object_write, place_or, download_requests, stage_asks}
use Rattle.iol_storage.specs.Uploads.{storage_place, storage_command, names_more, place_read, upload_stage_asks}
use Rattle.iol_storage.specs.Laws.{all_asked}
use Rattle.iol_storage.specs.Attempts.{serial_place, counts_flag, attempt_stage_asks, restore_purpose, restore_asks}
use Rattle.iol_storage.specs.AttemptLaws.{Values, AttemptEvent, AttemptRun, run_begun, run_asked, run_behind, IsSavedSince, IsOwnPlace, IsNamed, IsAllowed, AcknowledgedSetsAreSaved, AttemptsAskNoMore}
use Rattle.iol_storage.proofs.Attempts.{Asked, IsRestoring, At, runs}
use Rattle.iol_storage.proofs.Downloads.{asking-taken}

-- the first octet that a request writes
abbrev first_of : List ℕ → ℕ
first_of [] = 0
first_of (octet ∷ more) = octet

abbrev octet_of : Option Request → ℕ
octet_of (Some (WriteRequest place octets)) = first_of octets.items
octet_of other = 0

or-false : (a b : Bool) → (a || b) ≡ false → b ≡ false
or-false true b none = absurd (cc)
or-false false b none = none

-- The end of an upload: nothing but an attempt itself asks it

-- a value at the place of DS_Commands is owned
command-owned : (place : Place) → place ≡ storage_place 1 → is_command_place place ≡ true
command-owned place is = rw is refl

writes-end : (objects : Values) (i : ℕ) → any_owned objects ≡ false
    → slice_get (map object_write objects ++ storage_command 4 ∷ []) i
    ≡ Some (storage_command 2) → ⊥
writes-end [] zero none is = let wrong : 4 ≡ 2 = ap octet_of is in absurd (omega (arith, wrong))
writes-end [] (suc i) none is = absurd (cc)
writes-end (o ∷ objects) zero none is =
    let here = command-owned o.0 (ap (place_or (storage_place 0)) is) in
    let owned : true ≡ false = ap (λ b. b || any_owned objects) (sym here) ∙ none in absurd (cc)
writes-end (o ∷ objects) (suc i) none is =
    writes-end objects i (or-false (is_command_place o.0) (any_owned objects) none) is

restore-end : (flag : Flag) (stage : DownloadStage) (objects : Values) → any_owned objects ≡ false
    → stage_asks (RestorePurpose flag) stage objects ≡ Some (storage_command 2) → ⊥
restore-end flag (download_stage.Asking zero) objects none is =
    let wrong : 3 ≡ 2 = ap octet_of is in absurd (omega (arith, wrong))
restore-end flag (download_stage.Asking (suc zero)) objects none is = absurd (cc)
restore-end flag (download_stage.Asking (suc (suc i))) objects none is =
    writes-end objects i none is
restore-end flag (download_stage.Breaking result) objects none is =
    let wrong : 5 ≡ 2 = ap octet_of is in absurd (omega (arith, wrong))
restore-end flag (download_stage.Over result) objects none is = absurd (cc)

upload-end : (stage : UploadStage) (list : List ℕ) (count : ℕ)
    → upload_stage_asks stage list count ≡ Some (storage_command 2) → ⊥
upload-end upload_stage.Starting list count is =
    let wrong : 1 ≡ 2 = ap octet_of is in absurd (omega (arith, wrong))
upload-end upload_stage.Listing list count is = absurd (cc)
upload-end upload_stage.Reading list count is = absurd (cc)
upload-end (upload_stage.Breaking result) list count is =
    let wrong : 5 ≡ 2 = ap octet_of is in absurd (omega (arith, wrong))
upload-end (upload_stage.Over result) list count is = absurd (cc)

module _ (backup : Option Set) (begun : AttemptRun) (a : StorageAttempt) (k : Option Set)
    (d : Values)
    (asked : Asked) (events : List AttemptEvent) where
  -- so what holds there holds where it is asked
  pub ends-at : (Holds : AttemptStage → Type 0) → Holds Ending → (stage : AttemptStage)
      → is_no_set backup ≡ false → attempt_stage_asks stage a k d ≡ Some (storage_command 2)
      → At backup begun stage a k d asked events → Holds stage
  ends-at Holds ends State none is at = absurd (cc)
  ends-at Holds ends Size none is at = absurd (cc)
  ends-at Holds ends Checksum none is at = absurd (cc)
  ends-at Holds ends SerialNumber none is at = absurd (cc)
  ends-at Holds ends Fetching none is at =
      absurd (upload-end a.upload.stage a.upload.list.items _ is)
  ends-at Holds ends Unsaved none is at = absurd (cc)
  ends-at Holds ends Ending none is at = ends
  ends-at Holds ends Confirming none is at = absurd (cc)
  ends-at Holds ends (Restoring stage) none is at =
      absurd (restore-end
      (if counts_flag a.mode a.unit.items at.1.set then Counts else Ignored) stage
      at.1.set.objects (ap is_no_set (sym at.1.is_backup) ∙ none)
      (ap (λ x. restore_asks a stage x) (sym (at.0 ∙ at.1.is_backup)) ∙ is))
  ends-at Holds ends (Breaking result) none is at =
      let wrong : 5 ≡ 2 = ap octet_of is in absurd (omega (arith, wrong))
  ends-at Holds ends (Over result) none is at = absurd (cc)

  -- Nothing else

  abbrev Allowed : Request → Type 0
  Allowed request = IsAllowed a.mode backup a asked request

  is-allowed : (first request : Request) → Some first ≡ Some request → Allowed first
      → Allowed request
  is-allowed first request is allowed =
      let same : first ≡ request = cc in subst Allowed same allowed

  own-read : (sub : ℕ) → 2 ≤ sub → sub ≤ 5 → Allowed (ReadRequest (storage_place sub))
  own-read sub low high = inl (inr (sub, low, high, refl))

  own-command : (octet : ℕ) → 1 ≤ octet → octet ≤ 5 → Allowed (storage_command octet)
  own-command octet low high = inl (octet, low, high, refl)

  read-allowed : (list : List ℕ) (count : ℕ) (names : Bool) → names_more list count ≡ names
      → IsOwnPlace (place_read list count) ⊎ IsNamed list (place_read list count)
  read-allowed list count true names = inr (count, names, rw names refl)
  read-allowed list count false names = inl (inr (4, omega arith, omega arith, rw names refl))

  upload-allowed : (stage : UploadStage) (count : ℕ) (request : Request)
      → upload_stage_asks stage a.upload.list.items count ≡ Some request → Allowed request
  upload-allowed upload_stage.Starting count request is = is-allowed (storage_command 1) request is
      (own-command 1 (omega arith) (omega arith))
  upload-allowed upload_stage.Listing count request is =
      is-allowed (ReadRequest (storage_place 5)) request is
      (own-read 5 (omega arith) (omega arith))
  upload-allowed upload_stage.Reading count request is =
      is-allowed (ReadRequest (place_read a.upload.list.items count)) request is
      (read-allowed a.upload.list.items count (names_more a.upload.list.items count) refl)
  upload-allowed (upload_stage.Breaking result) count request is =
      is-allowed (storage_command 5) request is (own-command 5 (omega arith) (omega arith))
  upload-allowed (upload_stage.Over result) count request is = absurd (cc)

  -- a restore reads the device's state alone
  writes-read : (objects : Values) (i : ℕ) (place : Place)
      → slice_get (map object_write objects ++ storage_command 4 ∷ []) i
      ≡ Some (ReadRequest place) → ⊥
  writes-read [] zero place is = absurd (cc)
  writes-read [] (suc i) place is = absurd (cc)
  writes-read (o ∷ objects) zero place is = absurd (cc)
  writes-read (o ∷ objects) (suc i) place is = writes-read objects i place is

  restore-read : (flag : Flag) (objects : Values) (i : ℕ) (place : Place)
      → slice_get (download_requests (RestorePurpose flag) objects) i ≡ Some (ReadRequest place)
      → storage_place 2 ≡ place
  restore-read flag objects zero place is = absurd (cc)
  restore-read flag objects (suc zero) place is = ap (place_or (storage_place 0)) is
  restore-read flag objects (suc (suc i)) place is = absurd (writes-read objects i place is)

  restore-allowed : (stage : DownloadStage) (request : Request)
      (r : IsRestoring a.mode a.unit.items backup stage asked)
      → stage_asks (restore_purpose a.mode a.unit.items r.set) stage r.set.objects ≡ Some request
      → Allowed request
  restore-allowed (download_stage.Asking index) (ReadRequest place) r is =
      subst (λ p. Allowed (ReadRequest p)) (restore-read
      (if counts_flag a.mode a.unit.items r.set then Counts else Ignored) r.set.objects index
      place is)
      (own-read 2 (omega arith) (omega arith))
  restore-allowed (download_stage.Asking index) (WriteRequest place octets) r is =
      let purpose = restore_purpose a.mode a.unit.items r.set in
      inr (record {
        set = r.set;
        is_backup = r.is_backup;
        count = index;
        behind = record {
          looks = r.looks;
          are = r.are;
          restored = all_asked purpose r.set.objects (download_stage.Asking 0) r.outcomes;
          taken = asking-taken purpose r.set.objects index r.outcomes r.at;
          is = r.is;
        };
        is = is;
      })
  restore-allowed (download_stage.Breaking result) request r is =
      is-allowed (storage_command 5) request is (own-command 5 (omega arith) (omega arith))
  restore-allowed (download_stage.Over result) request r is = absurd (cc)

  allowed-at : (stage : AttemptStage) (request : Request)
      → attempt_stage_asks stage a k d ≡ Some request
      → At backup begun stage a k d asked events → Allowed request
  allowed-at State request is at = is-allowed (ReadRequest (storage_place 2)) request is
      (own-read 2 (omega arith) (omega arith))
  allowed-at Size request is at = is-allowed (ReadRequest (storage_place 3)) request is
      (own-read 3 (omega arith) (omega arith))
  allowed-at Checksum request is at = is-allowed (ReadRequest (storage_place 4)) request is
      (own-read 4 (omega arith) (omega arith))
  allowed-at SerialNumber request is at =
      is-allowed (ReadRequest serial_place) request is (inl (inl refl))
  allowed-at Fetching request is at = upload-allowed a.upload.stage _ request is
  allowed-at Unsaved request is at = absurd (cc)
  allowed-at Ending request is at = is-allowed (storage_command 2) request is
      (own-command 2 (omega arith) (omega arith))
  allowed-at Confirming request is at = is-allowed (ReadRequest (storage_place 4)) request is
      (own-read 4 (omega arith) (omega arith))
  allowed-at (Restoring stage) request is at = restore-allowed stage request at.1
      (ap (λ x. restore_asks a stage x) (sym (at.0 ∙ at.1.is_backup)) ∙ is)
  allowed-at (Breaking result) request is at = is-allowed (storage_command 5) request is
      (own-command 5 (omega arith) (omega arith))
  allowed-at (Over result) request is at = absurd (cc)

pub acknowledged-saved : AcknowledgedSetsAreSaved
acknowledged-saved mode purpose backup draft events none is =
    let begun = run_begun mode purpose backup draft in
    let run = run_behind begun events in
    let asked = run_asked begun events in
    let at = (runs mode purpose backup draft events).1 in
    ends-at backup begun run.attempt run.backup run.draft asked events
    (λ stage. At backup begun stage run.attempt run.backup run.draft asked events
    → IsSavedSince begun events) (λ saved. saved) run.attempt.stage none is at at

pub asks-no-more : AttemptsAskNoMore
asks-no-more mode purpose backup draft events request is =
    let begun = run_begun mode purpose backup draft in
    let run = run_behind begun events in
    let asked = run_asked begun events in
    let all = runs mode purpose backup draft events in
    subst (λ md. IsAllowed md backup run.attempt asked request) all.0
    (allowed-at backup begun run.attempt run.backup run.draft asked events run.attempt.stage request
    is all.1)
