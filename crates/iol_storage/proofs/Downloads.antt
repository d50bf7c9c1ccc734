-- A download, whatever comes of its requests: the laws.
-- For the clauses of `laws::applied_is_whole`, `laws::others_are_cut_off`,
--     `laws::acknowledged_sets_are_saved` and 10 more.
use Rattle.std.proofs.Common.{◌≡◌, ◌≤◌, ◌<◌, ◌+◌, ◌∷◌, ◌++◌, ◌∙◌, [], ℕ, suc, List, Option, Some, Bool, true, false, refl, sym, ap, arith, length, get_or, take, drop, subst}
use Rattle.std.specs.Prelude.{slice_get, nat_lt, not}
use Rattle.std.specs.Option.{option_map_or}
use Rattle.std.proofs.lemmas.List.{drop_more, length-append, length-map}
use Rattle.std.proofs.lemmas.Bool.{ltb-true, ltb-false}
use Rattle.std.proofs.Math.ListN.{drop_of_length-le}
use Rattle.std.proofs.lemmas.Option.{slice_get_within, get_or_from_slice_get, slice_get-get_or}
use Rattle.std.proofs.lemmas.Grind.{common_steps}
use Rattle.iol_isdu.specs.declared.values.Place.{Place}
use Rattle.iol_isdu.specs.declared.values.Request.{Request}
use Rattle.iol_isdu.specs.declared.values.Answer.{Answer}
use Rattle.iol_isdu.specs.declared.values.Answer.TheVariants as answer
use Rattle.iol_book.specs.declared.entries.Outcome.{Outcome}
use Rattle.iol_book.specs.declared.entries.Outcome.TheVariants.{Done, Unknown, Withdrawn, NoIsdu}
use Rattle.iol_storage.specs.declared.download.DownloadPurpose.{DownloadPurpose}
use Rattle.iol_storage.specs.declared.download.DownloadResult.{DownloadResult}
use Rattle.iol_storage.specs.declared.download.DownloadResult.TheVariants.{Applied}
use Rattle.iol_storage.specs.declared.download.DownloadStage.{DownloadStage}
use Rattle.iol_storage.specs.declared.download.DownloadStage.TheVariants.{Asking, Breaking, Over}
use Rattle.iol_storage.specs.Downloads.{object_write, download_command, start_requests, download_requests, lets_go_on, stage_behind, stage_after, behind_taken}
use Rattle.iol_storage.specs.Laws.{stage_behind_all, all_asked, AreTaken, stage_result, AreBreaks, IsDownloadCut, is_applied, asked_with, AppliedIsWhole, OthersAreCutOff}

drop-at : {X : Type 0} (xs : List X) (i : ℕ) (x : X) → slice_get xs i ≡ Some x
    → drop i xs ≡ x ∷ drop (i + 1) xs
drop-at xs i x is = drop_more xs i x (slice_get_within xs i x is)
    ∙ ap (λ y. y ∷ drop (i + 1) xs) (get_or_from_slice_get xs i x x is)

-- whether an outcome lets a download go on
abbrev outcome_taken : DownloadPurpose → ℕ → Outcome → Bool
outcome_taken purpose index (Done answer) = lets_go_on purpose index answer
outcome_taken purpose index other = false

-- a stage that has a result, and isn't Applied
abbrev result_failed : Option DownloadResult → Bool
result_failed result = option_map_or (λ r. not (is_applied r)) result false

abbrev has_failed : DownloadStage → Bool
has_failed stage = result_failed (stage_result stage)

not-true : (b : Bool) → not b ≡ true → b ≡ false
not-true true is = absurd (cc)
not-true false is = refl

module _ (purpose : DownloadPurpose) (objects : List (Place × List ℕ)) where
  abbrev last : ℕ
  last = length (start_requests purpose) + length objects

  abbrev requests : List Request
  requests = download_requests purpose objects

  count-requests : length requests ≡ last + 1
  count-requests = length-append (start_requests purpose) _
      ∙ grind (arith, common_steps, length-map objects object_write)

  -- a stage with a result keeps it
  over-stays : (result : DownloadResult) (os : List Outcome)
      → (stage_behind_all purpose objects (Over result) os ≡ Over result)
      × (all_asked purpose objects (Over result) os ≡ [])
  over-stays result [] = (refl, refl)
  over-stays result (o ∷ os) = over-stays result os

  failed-stays : (stage : DownloadStage) (os : List Outcome) → has_failed stage ≡ true
      → stage_result (stage_behind_all purpose objects stage os) ≡ stage_result stage
  failed-stays stage [] failed = refl
  failed-stays (Asking index) (o ∷ os) failed = absurd (cc)
  failed-stays (Breaking result) (o ∷ os) failed =
      ap stage_result (over-stays result os).0
  failed-stays (Over result) (o ∷ os) failed = ap stage_result (over-stays result os).0

  abbrev Taken : ℕ → Outcome → Type 0
  Taken index o = (answer : Answer) × (o ≡ Done answer) × (lets_go_on purpose index answer ≡ true)

  taken-step : (index : ℕ) (o : Outcome) → outcome_taken purpose index o ≡ true
      → Taken index o × (stage_after purpose objects (Asking index) o ≡ behind_taken index last)
  taken-step index (Done answer) is = ((answer, refl, is), rw is refl)
  taken-step index (Unknown cause) is = absurd (cc)
  taken-step index Withdrawn is = absurd (cc)
  taken-step index NoIsdu is = absurd (cc)

  failed-step : (index : ℕ) (o : Outcome) → outcome_taken purpose index o ≡ false
      → has_failed (stage_after purpose objects (Asking index) o) ≡ true
  failed-step index (Done answer.Written) is = rw is (grind (arith, common_steps))
  failed-step index (Done (answer.Read octets)) is = rw is (grind (arith, common_steps))
  failed-step index (Done (answer.Refused error additional)) is = grind (arith, common_steps)
  failed-step index (Unknown cause) is = grind (arith, common_steps)
  failed-step index Withdrawn is = refl
  failed-step index NoIsdu is = grind (arith, common_steps)

  abbrev final : DownloadStage → List Outcome → DownloadStage
  final stage os = stage_behind_all purpose objects stage os

  abbrev asked-from : DownloadStage → List Outcome → List (Request × Outcome)
  asked-from stage os = all_asked purpose objects stage os

  -- the request of an index
  asked-at : (index : ℕ) → index ≤ last
      → (r : Request) × (slice_get requests index ≡ Some r)
      × (drop index requests ≡ r ∷ drop (index + 1) requests)
  asked-at index within =
      let r = get_or requests index (download_command purpose 0) in
      let is : slice_get requests index ≡ Some r =
      slice_get-get_or requests index (download_command purpose 0)
      (omega (arith, count-requests, within)) in
      (r, is, drop-at requests index r is)

  -- what holds of the request of an index, in front of what is asked behind it
  with-asked : (index : ℕ) (o : Outcome) (os : List Outcome)
      (P : List Request → List (Request × Outcome) → Type 0) (r : Request)
      → slice_get requests index ≡ Some r → drop index requests ≡ r ∷ drop (index + 1) requests
      → P (r ∷ drop (index + 1) requests)
      ((r, o) ∷ asked-from (stage_after purpose objects (Asking index) o) os)
      → P (drop index requests) (asked-from (Asking index) (o ∷ os))
  with-asked index o os P r is rest holds =
      let behind = asked-from (stage_after purpose objects (Asking index) o) os in
      subst (λ rs. P rs (asked_with (slice_get requests index) o ++ behind)) (sym rest)
      (subst (λ q. P (r ∷ drop (index + 1) requests) (asked_with q o ++ behind)) (sym is) holds)

  applied-more : (index : ℕ) (o : Outcome) (os : List Outcome) (r : Request)
      (goes_on more : Bool) → outcome_taken purpose index o ≡ goes_on
      → nat_lt index last ≡ more → index ≤ last
      → (index + 1 ≤ last → final (Asking (index + 1)) os ≡ Over Applied
      → AreTaken purpose (index + 1) (drop (index + 1) requests)
      (asked-from (Asking (index + 1)) os))
      → final (stage_after purpose objects (Asking index) o) os ≡ Over Applied
      → AreTaken purpose index (r ∷ drop (index + 1) requests)
      ((r, o) ∷ asked-from (stage_after purpose objects (Asking index) o) os)
  applied-more index o os r false more taken lt within next done =
      let failed = failed-step index o taken in
      let stays = failed-stays (stage_after purpose objects (Asking index) o) os failed in
      let wrong : false ≡ true =
      sym (ap (λ s. result_failed (stage_result s)) done) ∙ (ap result_failed stays ∙ failed) in
      absurd (cc)
  applied-more index o os r true true taken lt within next done =
      let step = taken-step index o taken in
      let to : stage_after purpose objects (Asking index) o ≡ Asking (index + 1) =
      step.1 ∙ rw lt refl in
      rw to (refl, step.0, next (omega (arith, ltb-true _ _ lt)) (rw to at done))
  applied-more index o os r true false taken lt within next done =
      let step = taken-step index o taken in
      let to : stage_after purpose objects (Asking index) o ≡ Over Applied =
      step.1 ∙ rw lt refl in
      let none : drop (index + 1) requests ≡ [] =
      drop_of_length-le requests (omega (arith, count-requests, ltb-false _ _ lt)) in
      rw (to, none) (refl, step.0, (over-stays Applied os).1)

  applied-from : (index : ℕ) (os : List Outcome) → index ≤ last
      → final (Asking index) os ≡ Over Applied
      → AreTaken purpose index (drop index requests) (asked-from (Asking index) os)
  applied-from index [] within done = absurd (cc)
  applied-from index (o ∷ os) within done =
      let at = asked-at index within in
      let taken = applied-more index o os at.0 (outcome_taken purpose index o)
      (nat_lt index last) refl refl within (λ w d. applied-from (index + 1) os w d) done in
      with-asked index o os (AreTaken purpose index) at.0 at.1 at.2 taken

  only-breaks : (stage : DownloadStage) (os : List Outcome) → has_failed stage ≡ true
      → AreBreaks purpose (asked-from stage os)
  only-breaks stage [] failed = tt
  only-breaks (Asking index) (o ∷ os) failed = absurd (cc)
  only-breaks (Breaking result) (o ∷ os) failed = (refl, (over-stays result os).1)
  only-breaks (Over result) (o ∷ os) failed = rw (over-stays result os).1 tt

  cut-more : (index : ℕ) (o : Outcome) (os : List Outcome) (r : Request)
      (result : DownloadResult) (goes_on more : Bool) → is_applied result ≡ false
      → outcome_taken purpose index o ≡ goes_on → nat_lt index last ≡ more → index ≤ last
      → (index + 1 ≤ last → stage_result (final (Asking (index + 1)) os) ≡ Some result
      → IsDownloadCut purpose objects (index + 1) (drop (index + 1) requests)
      (asked-from (Asking (index + 1)) os) result)
      → stage_result (final (stage_after purpose objects (Asking index) o) os) ≡ Some result
      → IsDownloadCut purpose objects index (r ∷ drop (index + 1) requests)
      ((r, o) ∷ asked-from (stage_after purpose objects (Asking index) o) os) result
  cut-more index o os r result false more other taken lt within next done =
      let failed = failed-step index o taken in
      let stays = failed-stays (stage_after purpose objects (Asking index) o) os failed in
      let here : index ≡ index + 0 = omega arith in
      record {
        count = 0;
        before = [];
        taken = refl;
        request = r;
        is_next = refl;
        outcome = o;
        brings = subst (λ i. stage_result (stage_behind purpose objects i o) ≡ Some result) here
            (sym stays ∙ done);
        breaks = asked-from (stage_after purpose objects (Asking index) o) os;
        are_breaks = only-breaks (stage_after purpose objects (Asking index) o) os failed;
        is = refl;
      }
  cut-more index o os r result true true other taken lt within next done =
      let step = taken-step index o taken in
      let to : stage_after purpose objects (Asking index) o ≡ Asking (index + 1) =
      step.1 ∙ rw lt refl in
      let cut = next (omega (arith, ltb-true _ _ lt))
      (subst (λ s. stage_result (final s os) ≡ Some result) to done) in
      let place : index + 1 + cut.count ≡ index + suc cut.count = omega arith in
      subst (λ s. IsDownloadCut purpose objects index (r ∷ drop (index + 1) requests)
      ((r, o) ∷ asked-from s os) result) (sym to) (record {
        count = suc cut.count;
        before = (r, o) ∷ cut.before;
        taken = (refl, step.0, cut.taken);
        request = cut.request;
        is_next = cut.is_next;
        outcome = cut.outcome;
        brings = subst (λ i. stage_result (stage_behind purpose objects i cut.outcome)
            ≡ Some result) place cut.brings;
        breaks = cut.breaks;
        are_breaks = cut.are_breaks;
        is = ap (λ asked. (r, o) ∷ asked) cut.is;
      })
  cut-more index o os r result true false other taken lt within next done =
      let step = taken-step index o taken in
      let to : stage_after purpose objects (Asking index) o ≡ Over Applied =
      step.1 ∙ rw lt refl in
      let ends : Some Applied ≡ Some result =
      sym (ap (λ s. stage_result (final s os)) to ∙ ap stage_result (over-stays Applied os).0)
      ∙ done in
      let wrong : true ≡ false = ap (λ r. not (result_failed r)) ends ∙ rw other refl in
      absurd (cc)

  cut-from : (index : ℕ) (os : List Outcome) (result : DownloadResult)
      → is_applied result ≡ false → index ≤ last
      → stage_result (final (Asking index) os) ≡ Some result
      → IsDownloadCut purpose objects index (drop index requests) (asked-from (Asking index) os)
      result
  cut-from index [] result other within done = absurd (cc)
  cut-from index (o ∷ os) result other within done =
      let at = asked-at index within in
      let cut = cut-more index o os at.0 result (outcome_taken purpose index o)
      (nat_lt index last) other refl refl within
      (λ w d. cut-from (index + 1) os result other w d) done in
      with-asked index o os
      (λ rs asked. IsDownloadCut purpose objects index rs asked result) at.0 at.1 at.2 cut

  -- what was taken where so many of them were
  record IsTaken (index until : ℕ) (rs : List Request) (asked : List (Request × Outcome)) :
      Type 0 where
    count : ℕ
    is : until ≡ index + count
    taken : AreTaken purpose index (take count rs) asked

  asking-more : (index until : ℕ) (o : Outcome) (os : List Outcome) (r : Request)
      (goes_on more : Bool) → outcome_taken purpose index o ≡ goes_on
      → nat_lt index last ≡ more → index ≤ last
      → (index + 1 ≤ last → final (Asking (index + 1)) os ≡ Asking until
      → IsTaken (index + 1) until (drop (index + 1) requests) (asked-from (Asking (index + 1)) os))
      → final (stage_after purpose objects (Asking index) o) os ≡ Asking until
      → IsTaken index until (r ∷ drop (index + 1) requests)
      ((r, o) ∷ asked-from (stage_after purpose objects (Asking index) o) os)
  asking-more index until o os r false more taken lt within next done =
      let failed = failed-step index o taken in
      let stays = failed-stays (stage_after purpose objects (Asking index) o) os failed in
      let wrong : false ≡ true =
      sym (ap (λ s. result_failed (stage_result s)) done) ∙ (ap result_failed stays ∙ failed) in
      absurd (cc)
  asking-more index until o os r true true taken lt within next done =
      let step = taken-step index o taken in
      let to : stage_after purpose objects (Asking index) o ≡ Asking (index + 1) =
      step.1 ∙ rw lt refl in
      let t = next (omega (arith, ltb-true _ _ lt))
      (subst (λ s. final s os ≡ Asking until) to done) in
      subst (λ s. IsTaken index until (r ∷ drop (index + 1) requests) ((r, o) ∷ asked-from s os))
      (sym to) (record {
        count = suc t.count;
        is = omega (arith, t.is);
        taken = (refl, step.0, t.taken);
      })
  asking-more index until o os r true false taken lt within next done =
      let step = taken-step index o taken in
      let to : stage_after purpose objects (Asking index) o ≡ Over Applied =
      step.1 ∙ rw lt refl in
      let wrong : Some Applied ≡ stage_result (Asking until) =
      sym (ap (λ s. stage_result (final s os)) to ∙ ap stage_result (over-stays Applied os).0)
      ∙ ap stage_result done in
      absurd (cc)

  asking-from : (index until : ℕ) (os : List Outcome) → index ≤ last
      → final (Asking index) os ≡ Asking until
      → IsTaken index until (drop index requests) (asked-from (Asking index) os)
  asking-from index until [] within done =
      let same : index ≡ until = cc in
      record { count = 0; is = omega (arith, same); taken = refl }
  asking-from index until (o ∷ os) within done =
      let at = asked-at index within in
      let taken = asking-more index until o os at.0 (outcome_taken purpose index o)
      (nat_lt index last) refl refl within (λ w d. asking-from (index + 1) until os w d) done in
      with-asked index o os (IsTaken index until) at.0 at.1 at.2 taken

  -- a download that asks the request of an index has had those before it taken
  pub asking-taken : (index : ℕ) (os : List Outcome)
      → stage_behind_all purpose objects (Asking 0) os ≡ Asking index
      → AreTaken purpose 0 (take index (download_requests purpose objects))
      (all_asked purpose objects (Asking 0) os)
  asking-taken index os done =
      let t = asking-from 0 index os (omega arith) done in
      let same : t.count ≡ index = omega (arith, t.is) in
      subst (λ n. AreTaken purpose 0 (take n requests) (asked-from (Asking 0) os)) same t.taken

  -- what the stage behind one outcome of a request is, by whether it was taken
  module _ (index : ℕ) (o : Outcome) (os : List Outcome) (within : index ≤ last)
      (P : Type 0)
      (failed : has_failed (stage_after purpose objects (Asking index) o) ≡ true → P)
      (next : index + 1 ≤ last
      → final (Asking index) (o ∷ os) ≡ final (Asking (index + 1)) os → P)
      (ends : final (Asking index) (o ∷ os) ≡ Over Applied → P) where
    by-outcome : (goes_on more : Bool) → outcome_taken purpose index o ≡ goes_on
        → nat_lt index last ≡ more → P
    by-outcome false more taken lt = failed (failed-step index o taken)
    by-outcome true true taken lt =
        let to : stage_after purpose objects (Asking index) o ≡ Asking (index + 1) =
        (taken-step index o taken).1 ∙ rw lt refl in
        next (omega (arith, ltb-true _ _ lt)) (ap (λ s. final s os) to)
    by-outcome true false taken lt =
        let to : stage_after purpose objects (Asking index) o ≡ Over Applied =
        (taken-step index o taken).1 ∙ rw lt refl in
        ends (ap (λ s. final s os) to ∙ (over-stays Applied os).0)

  -- it asks for none behind its end
  asking-short : (index until : ℕ) (os : List Outcome) → index ≤ last
      → final (Asking index) os ≡ Asking until → until ≤ last
  asking-short index until [] within done =
      let same : index ≡ until = cc in omega (arith, same, within)
  asking-short index until (o ∷ os) within done = by-outcome index o os within (until ≤ last)
      (λ failed.
      let stays = failed-stays (stage_after purpose objects (Asking index) o) os failed in
      let wrong : false ≡ true =
      sym (ap (λ s. result_failed (stage_result s)) done) ∙ (ap result_failed stays ∙ failed)
      in absurd (cc))
      (λ more same. asking-short (index + 1) until os more (sym same ∙ done))
      (λ over. let wrong : Over Applied ≡ Asking until = sym over ∙ done in absurd (cc))
      (outcome_taken purpose index o) (nat_lt index last) refl refl

  pub asking-within : (index : ℕ) (os : List Outcome) → final (Asking 0) os ≡ Asking index
      → index < length requests
  asking-within index os done =
      let short = asking-short 0 index os (omega arith) done in omega (arith, count-requests, short)

  -- and breaks off only where it has failed
  breaking-from : (index : ℕ) (result : DownloadResult) (os : List Outcome) → index ≤ last
      → final (Asking index) os ≡ Breaking result → is_applied result ≡ false
  breaking-from index result [] within done = absurd (cc)
  breaking-from index result (o ∷ os) within done =
      by-outcome index o os within (is_applied result ≡ false)
      (λ failed.
      let stays = failed-stays (stage_after purpose objects (Asking index) o) os failed in
      let is : not (is_applied result) ≡ true =
      sym (ap (λ s. result_failed (stage_result s)) done) ∙ (ap result_failed stays ∙ failed)
      in not-true (is_applied result) is)
      (λ more same. breaking-from (index + 1) result os more (sym same ∙ done))
      (λ over. let wrong : Over Applied ≡ Breaking result = sym over ∙ done in absurd (cc))
      (outcome_taken purpose index o) (nat_lt index last) refl refl

  pub breaking-failed : (result : DownloadResult) (os : List Outcome)
      → final (Asking 0) os ≡ Breaking result → is_applied result ≡ false
  breaking-failed result os done = breaking-from 0 result os (omega arith) done

pub applied-whole : AppliedIsWhole
applied-whole purpose objects outcomes done =
    applied-from purpose objects 0 outcomes (omega arith) done

pub others-cut : OthersAreCutOff
others-cut purpose objects outcomes result other done =
    cut-from purpose objects 0 outcomes result other (omega arith) done
