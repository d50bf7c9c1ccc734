-- What writes do to a download, and what its end makes of it.
-- For the clauses of `laws::downloads_are_whole`, `laws::uploads_are_one_moment`,
--     `laws::cut_offs_stay_out` and `laws::sets_fit`.
use Rattle.std.specs.Prelude.{is_none, ◌&&◌, not, if◌then◌else◌}
use Rattle.std.specs.List.{list_all}
use Rattle.std.proofs.Common.{◌≡◌, ℕ, Bool, true, false, refl, List, [], ◌∷◌, Option, Some, None, ap, ◌∙◌, sym}
use Rattle.iol_isdu.specs.declared.values.Place.{Place}
use Rattle.iol_params.specs.declared.error_type.ErrorType.{ErrorType}
use Rattle.iol_params.specs.declared.error_type.ErrorType.TheVariants.{AccessDenied, FunctionUnavailable}
use Rattle.iol_params.specs.declared.state.Activity.{Activity}
use Rattle.iol_params.specs.declared.state.Scope.{Scope}
use Rattle.iol_params.specs.declared.state.Scope.TheVariants.{Block, Storage}
use Rattle.iol_params.specs.declared.state.WritesSoFar.{WritesSoFar}
use Rattle.iol_params.specs.declared.state.WritesSoFar.TheVariants.{AllTaken, OneRefused}
use Rattle.iol_params.specs.declared.state.Activity.TheVariants.{Upload, Download, CutOff}
use Rattle.iol_params.specs.declared.state.Command.{Command}
use Rattle.iol_params.specs.declared.state.Command.TheVariants.{UploadEnd, DownloadStart, DownloadEnd, DownloadStore}
use Rattle.iol_params.specs.Values.{overlay}
use Rattle.iol_params.specs.Table.{ParamTable}
use Rattle.iol_params.specs.State.{ParamState, is_at_rest, after_end, with_flag_cleared, with_flag_set}
use Rattle.iol_params.specs.Carry.{write, download_settled, write_settled, write_refusal, own_command, unless_foreign, command, is_consistent, first_refusal, place_refusal, content_refusal, alone_refusal, local_change, local_settled}
use Rattle.iol_params.proofs.Sets.{and-parts}
use Rattle.iol_params.specs.Laws.{ParamChange, Writing, Setting, Commanding, Resetting, Over, Silent, after_change, after_changes, is_written, all_written, with_write_of, with_writes, is_inside, DownloadsAreWhole, is_download_end, UploadsAreOneMoment}

-- a state in a download
abbrev pub downloading : ParamState → Scope → WritesSoFar → List (List ℕ) → ParamState
downloading k scope writes copy =
    record k { copy = copy; activity = Download scope writes }

-- what may not be now is refused, whatever else it is refused for
pub refused-anyway : (place : Option ErrorType) (locked : Bool) (rest : Option ErrorType)
    → (why : ErrorType) × (first_refusal place (first_refusal
    (if locked then Some AccessDenied else Some FunctionUnavailable) rest) ≡ Some why)
refused-anyway (Some why) locked rest = (why, refl)
refused-anyway None true rest = (AccessDenied, refl)
refused-anyway None false rest = (FunctionUnavailable, refl)

module _ (table : ParamTable) (place : Place) (octets : List ℕ) where
  pub setting-stays : (s : ParamState) → is_at_rest s.activity ≡ false
      → (local_change table s place octets).1 ≡ s
  setting-stays s h =
      let content = content_refusal table.members place octets in
      let r = refused-anyway (place_refusal table.members place) s.locks.local
      (first_refusal content (alone_refusal table s place octets)) in
      ap (λ (rest : Bool). (local_settled (first_refusal (place_refusal table.members place)
      (first_refusal (if s.locks.local then Some AccessDenied else
      if not rest then Some FunctionUnavailable else None)
      (first_refusal content (alone_refusal table s place octets))))
      table s place octets).1) h
      ∙ ap (λ (o : Option ErrorType). (local_settled o table s place octets).1) r.1

-- what may come inside but writes leaves all as it is
module _ (table : ParamTable) (k : ParamState) (copy : List (List ℕ)) where
  abbrev busy : Activity → ParamState
  busy activity = record k { copy = copy; activity = activity }

  pub refused-stays : (activity : Activity) (other : Scope) (asked : Command)
      → is_inside activity (Commanding other asked) ≡ true
      → (command table (busy activity) other asked).1 ≡ busy activity
  refused-stays (Upload Block) Storage asked h = refl
  refused-stays (Upload Storage) Block asked h = refl
  refused-stays (Upload Block) Block DownloadEnd h = refl
  refused-stays (Upload Block) Block DownloadStore h = refl
  refused-stays (Upload Storage) Storage DownloadEnd h = refl
  refused-stays (Upload Storage) Storage DownloadStore h = refl
  refused-stays (Download Block writes) Storage asked h = refl
  refused-stays (Download Storage writes) Block asked h = refl
  refused-stays (Download Block writes) Block UploadEnd h = refl
  refused-stays (Download Storage writes) Storage UploadEnd h = refl
  refused-stays _ _ _ h = absurd (cc)

-- what comes inside a download leaves of it
pub record Leaves (table : ParamTable) (k : ParamState) (scope : Scope) (writes : WritesSoFar)
    (copy : List (List ℕ)) (cs : List ParamChange) : Type 0 where
  pub left : WritesSoFar
  pub end_copy : List (List ℕ)
  pub state : after_changes table (downloading k scope writes copy) cs
      ≡ downloading k scope left end_copy
  pub whole : left ≡ AllTaken → (writes ≡ AllTaken)
      × (all_written table (downloading k scope writes copy) cs ≡ true)
      × (end_copy ≡ with_writes table.members copy cs)

module _ (table : ParamTable) (k : ParamState) (scope : Scope) where
  pub leaves-write : (writes : WritesSoFar) (copy : List (List ℕ)) (place : Place)
      (octets : List ℕ) (cs : List ParamChange) (refusal : Option ErrorType)
      → write_refusal table (downloading k scope writes copy) place octets ≡ refusal
      → Leaves table k scope writes (overlay table.members copy place octets) cs
      → Leaves table k scope OneRefused copy cs
      → Leaves table k scope writes copy (Writing place octets ∷ cs)
  leaves-write writes copy place octets cs None e taken lost =
      let s = downloading k scope writes copy in
      let now : write table s place octets
      ≡ (None, downloading k scope writes (overlay table.members copy place octets))
      = ap (λ (r : Option ErrorType). write_settled r table s place octets) e in
      record {
        left = taken.left;
        end_copy = taken.end_copy;
        state = ap (λ (r : Option ErrorType × ParamState). after_changes table r.1 cs) now
            ∙ taken.state;
        whole = λ all. (
          (taken.whole all).0,
          ap (λ (r : Option ErrorType × ParamState). is_none r.0 && all_written table r.1 cs) now
              ∙ (taken.whole all).1,
          (taken.whole all).2,
        );
      }
  leaves-write writes copy place octets cs (Some why) e taken lost =
      let s = downloading k scope writes copy in
      let now : write table s place octets ≡ (Some why, downloading k scope OneRefused copy)
      = ap (λ (r : Option ErrorType). write_settled r table s place octets) e in
      record {
        left = lost.left;
        end_copy = lost.end_copy;
        state = ap (λ (r : Option ErrorType × ParamState). after_changes table r.1 cs) now
            ∙ lost.state;
        whole = λ all. let never : OneRefused ≡ AllTaken = (lost.whole all).0 in absurd (cc);
      }

  pub leaves-stay : (writes : WritesSoFar) (copy : List (List ℕ)) (c : ParamChange)
      (cs : List ParamChange)
      → (after_change table (downloading k scope writes copy) c).1
      ≡ downloading k scope writes copy
      → ((answer : Option ErrorType) → is_written c answer ≡ true)
      → ((values : List (List ℕ)) → with_write_of table.members values c ≡ values)
      → Leaves table k scope writes copy cs
      → Leaves table k scope writes copy (c ∷ cs)
  leaves-stay writes copy c cs stays written same more =
      let s = downloading k scope writes copy in
      record {
        left = more.left;
        end_copy = more.end_copy;
        state = ap (λ (t : ParamState). after_changes table t cs) stays ∙ more.state;
        whole = λ all. (
          (more.whole all).0,
          ap (λ (b : Bool). b && all_written table (after_change table s c).1 cs)
              (written (after_change table s c).0)
              ∙ (ap (λ (t : ParamState). all_written table t cs) stays ∙ (more.whole all).1),
          (more.whole all).2
              ∙ ap (λ (values : List (List ℕ)). with_writes table.members values cs)
              (sym (same copy)),
        );
      }

  pub leaves : (writes : WritesSoFar) (copy : List (List ℕ)) (cs : List ParamChange)
      → list_all (is_inside (Download scope AllTaken)) cs ≡ true
      → Leaves table k scope writes copy cs
  leaves writes copy [] h = record {
    left = writes;
    end_copy = copy;
    state = refl;
    whole = λ all. (all, refl, refl);
  }
  leaves writes copy (Writing place octets ∷ cs) h =
      leaves-write writes copy place octets cs
      (write_refusal table (downloading k scope writes copy) place octets) refl
      (leaves writes (overlay table.members copy place octets) cs h)
      (leaves OneRefused copy cs h)
  leaves writes copy (Setting place octets ∷ cs) h =
      leaves-stay writes copy (Setting place octets) cs
      (setting-stays table place octets (downloading k scope writes copy) refl)
      (λ answer. refl) (λ values. refl) (leaves writes copy cs h)
  leaves writes copy (Commanding other asked ∷ cs) h =
      let parts = and-parts (is_inside (Download scope AllTaken) (Commanding other asked))
      (list_all (is_inside (Download scope AllTaken)) cs) h in
      leaves-stay writes copy (Commanding other asked) cs
      (refused-stays table k copy (Download scope writes) other asked parts.0)
      (λ answer. refl) (λ values. refl) (leaves writes copy cs parts.1)
  leaves writes copy (Resetting ∷ cs) h = leaves-stay writes copy Resetting cs refl
      (λ answer. refl) (λ values. refl) (leaves writes copy cs h)
  leaves writes copy (Over ∷ cs) h = absurd (cc)
  leaves writes copy (Silent ∷ cs) h = absurd (cc)

-- what the end of a download comes to: all of its copy, if it is whole and breaks no rule
pub record Ends (writes : WritesSoFar) (consistent : Bool) (copy values : List (List ℕ))
    (last : Option ErrorType × ParamState) : Type 0 where
  pub whole : last.0 ≡ None
      → (writes ≡ AllTaken) × (last.1.values ≡ copy) × (consistent ≡ true)
  pub none : (why : ErrorType) → last.0 ≡ Some why → last.1.values ≡ values

module _ (k : ParamState) (copy : List (List ℕ)) (scope : Scope)
    (applied : ParamState → ParamState)
    (keeps : (t : ParamState) → (applied t).values ≡ t.values) where
  pub ends-settled : (writes : WritesSoFar) (c : Bool)
      → Ends writes c copy k.values
      (download_settled (Download scope writes) c (downloading k scope writes copy) applied)
  ends-settled AllTaken true = record {
    whole = λ all. (
      refl,
      keeps (after_end (record (downloading k scope AllTaken copy) { values = copy })),
      refl,
    );
    none = λ why got. absurd (cc);
  }
  ends-settled AllTaken false =
      record { whole = λ all. absurd (cc); none = λ why got. refl }
  ends-settled OneRefused c =
      record { whole = λ all. absurd (cc); none = λ why got. refl }

module _ (table : ParamTable) (k : ParamState) (copy : List (List ℕ)) (writes : WritesSoFar) where
  pub ends : (scope : Scope) (asked : Command) → is_download_end asked ≡ true
      → Ends writes (is_consistent table copy) copy k.values
      (command table (downloading k scope writes copy) scope asked)
  ends Block DownloadEnd h = ends-settled k copy Block (with_flag_cleared Block) (λ t. refl) writes
      (is_consistent table copy)
  ends Block DownloadStore h = ends-settled k copy Block with_flag_set (λ t. refl) writes
      (is_consistent table copy)
  ends Storage DownloadEnd h = ends-settled k copy Storage (with_flag_cleared Storage) (λ t. refl)
      writes (is_consistent table copy)
  ends Storage DownloadStore h = ends-settled k copy Storage with_flag_set (λ t. refl) writes
      (is_consistent table copy)
  ends _ _ h = absurd (cc)

pub downloads-whole : DownloadsAreWhole
downloads-whole table s scope asked cs own inside_all he =
    let begun : (command table s scope DownloadStart).1 ≡ downloading s scope AllTaken s.values
    = ap (λ (b : Bool). (unless_foreign b s (own_command table s scope DownloadStart)).1) own in
    let l = leaves table s scope AllTaken s.values cs inside_all in
    let inside : after_changes table (command table s scope DownloadStart).1 cs
    ≡ downloading s scope l.left l.end_copy
    = ap (λ (t : ParamState). after_changes table t cs) begun ∙ l.state in
    let e = ends table s l.end_copy l.left scope asked he in
    let last : ParamState → Option ErrorType × ParamState
    = λ (t : ParamState). command table t scope asked in
    record {
      waits = ap (λ (t : ParamState). t.values) inside;
      whole = λ done.
          let got = e.whole (ap (λ (t : ParamState). (last t).0) (sym inside) ∙ done) in
          let all = l.whole got.0 in
          let values = ap (λ (t : ParamState). (last t).1.values) inside ∙ got.1 in (
            ap (λ (t : ParamState). all_written table t cs) begun ∙ all.1,
            values ∙ all.2,
            ap (λ (v : List (List ℕ)). is_consistent table v) values ∙ got.2,
          );
      none = λ why refusal. ap (λ (t : ParamState). (last t).1.values) inside
          ∙ e.none why (ap (λ (t : ParamState). (last t).0) (sym inside) ∙ refusal);
      over = ap (λ (t : ParamState). (after_end t).values) inside;
    }

abbrev pub uploading : ParamState → Scope → List (List ℕ) → ParamState
uploading k scope copy = record k { copy = copy; activity = Upload scope }

module _ (table : ParamTable) (k : ParamState) (scope : Scope) (copy : List (List ℕ)) where
  pub upload-write : (place : Place) (octets : List ℕ) (refusal : Option ErrorType)
      → (write_settled refusal table (uploading k scope copy) place octets).1
      ≡ uploading k scope copy
  upload-write place octets None = refl
  upload-write place octets (Some why) = refl

  pub upload-stays : (c : ParamChange) → is_inside (Upload scope) c ≡ true
      → (after_change table (uploading k scope copy) c).1 ≡ uploading k scope copy
  upload-stays (Writing place octets) h =
      upload-write place octets (write_refusal table (uploading k scope copy) place octets)
  upload-stays (Setting place octets) h =
      setting-stays table place octets (uploading k scope copy) refl
  upload-stays (Commanding other asked) h = refused-stays table k copy (Upload scope) other asked h
  upload-stays Resetting h = refl
  upload-stays Over h = absurd (cc)
  upload-stays Silent h = absurd (cc)

  pub uploads-stay : (cs : List ParamChange) → list_all (is_inside (Upload scope)) cs ≡ true
      → after_changes table (uploading k scope copy) cs ≡ uploading k scope copy
  uploads-stay [] h = refl
  uploads-stay (c ∷ cs) h =
      let parts = and-parts (is_inside (Upload scope) c) (list_all (is_inside (Upload scope)) cs) h
      in ap (λ (t : ParamState). after_changes table t cs) (upload-stays c parts.0)
      ∙ uploads-stay cs parts.1

pub uploads-one_moment : UploadsAreOneMoment
uploads-one_moment table s scope cs h all =
    let at : s ≡ uploading s scope s.copy = ap (λ (a : Activity). record s { activity = a }) h in
    ap (λ (t : ParamState). (after_changes table t cs).values) at
    ∙ ap (λ (t : ParamState). t.values) (uploads-stay table s scope s.copy cs all)
