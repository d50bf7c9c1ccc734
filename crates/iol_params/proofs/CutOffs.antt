-- What is left of a download that silence cut off: the clause of `cut_offs_stay_out`.
-- For the clauses of `laws::cut_offs_stay_out`.
use Rattle.std.specs.Prelude.{is_some, ◌&&◌, ◌||◌, filter}
use Rattle.std.specs.List.{list_all, list_any}
use Rattle.std.proofs.Common.{◌≡◌, ℕ, Bool, true, false, refl, List, [], ◌∷◌, Option, Some, None, ap, ◌∙◌, sym}
use Rattle.iol_isdu.specs.declared.values.Place.{Place}
use Rattle.iol_params.specs.declared.error_type.ErrorType.{ErrorType}
use Rattle.iol_params.specs.declared.state.Activity.{Activity}
use Rattle.iol_params.specs.declared.state.Activity.TheVariants.{CutOff}
use Rattle.iol_params.specs.declared.state.Command.{Command}
use Rattle.iol_params.specs.declared.state.Command.TheVariants.{DownloadEnd, DownloadStore, FactoryReset}
use Rattle.iol_params.specs.declared.state.Scope.{Scope}
use Rattle.iol_params.specs.declared.state.Scope.TheVariants.{Block}
use Rattle.iol_params.specs.Values.{overlay}
use Rattle.iol_params.specs.Table.{ParamTable}
use Rattle.iol_params.specs.State.{ParamState, left_in_silence, after_end, after_quiet}
use Rattle.iol_params.specs.Carry.{local_settled, local_refusal, is_stored_at, with_flag_if, write_settled, write_refusal, place_refusal, content_refusal, alone_refusal, first_refusal, is_read_only_at, command}
use Rattle.iol_params.specs.Laws.{ParamChange, Writing, Setting, Commanding, Resetting, Over, Silent, after_change, after_changes, is_left_over, is_between, all_refused, CutOffsStayOut}
use Rattle.iol_params.proofs.Downloads.{refused-anyway}
use Rattle.iol_params.proofs.Sets.{and-parts}

-- a state behind silence in a download
abbrev cut : ParamState → ParamState
cut k = record k { activity = CutOff }

-- a change is refused, and the state is as it was
abbrev StaysOut : ParamTable → ParamState → ParamChange → Type 0
StaysOut table s c = (why : ErrorType) × (after_change table s c ≡ (Some why, s))

-- a change leaves a state behind silence
abbrev StaysCut : ParamTable → ParamState → ParamChange → Type 0
StaysCut table s c = (l : ParamState) × ((after_change table s c).1 ≡ cut l)

-- what a list of changes comes to
abbrev Stays : ParamTable → ParamState → List ParamChange → Type 0
Stays table s cs = (all_refused table s cs ≡ true)
    × (after_changes table s cs ≡ after_changes table s (filter is_between cs))

module _ (table : ParamTable) where
  module _ (k : ParamState) where
    pub writing-stays_out : (place : Place) (octets : List ℕ)
        → StaysOut table (cut k) (Writing place octets)
    writing-stays_out place octets =
        let refused = refused-anyway (place_refusal table.members place)
        (k.locks.parameters || list_any (is_read_only_at place) table.members)
        (first_refusal (content_refusal table.members place octets)
        (alone_refusal table (cut k) place octets)) in (
          refused.0,
          ap (λ (r : Option ErrorType). write_settled r table (cut k) place octets) refused.1,
        )

    pub ending-stays_out : (scope : Scope) (asked : Command)
        → is_left_over (Commanding scope asked) ≡ true
        → StaysOut table (cut k) (Commanding scope asked)
    ending-stays_out scope DownloadEnd h = (_, refl)
    ending-stays_out scope DownloadStore h = (_, refl)
    ending-stays_out scope _ h = absurd (cc)

    flag-stays_cut : (b : Bool) (l : ParamState)
        → (m : ParamState) × (with_flag_if b (cut l) ≡ cut m)
    flag-stays_cut true l = (record l { flag = true; event_due = true }, refl)
    flag-stays_cut false l = (l, refl)

    setting-stays_cut : (place : Place) (octets : List ℕ)
        → StaysCut table (cut k) (Setting place octets)
    setting-stays_cut place octets = by (local_refusal table (cut k) place octets)
      where
        by : (r : Option ErrorType) → (l : ParamState)
            × ((local_settled r table (cut k) place octets).1 ≡ cut l)
        by (Some why) = (k, refl)
        by None = flag-stays_cut (list_any (is_stored_at place) table.members)
            (record k { values = overlay table.members k.values place octets })

    out-stays : (c : ParamChange) (cs : List ParamChange) → StaysOut table (cut k) c
        → Stays table (cut k) cs
        → ((is_some (after_change table (cut k) c).0
        && all_refused table (after_change table (cut k) c).1 cs) ≡ true)
        × (after_changes table (cut k) (c ∷ cs)
        ≡ after_changes table (cut k) (filter is_between cs))
    out-stays c cs one more = (
      ap (λ (r : Option ErrorType × ParamState). is_some r.0 && all_refused table r.1 cs) one.1
          ∙ more.0,
      ap (λ (r : Option ErrorType × ParamState). after_changes table r.1 cs) one.1 ∙ more.1,
    )

    between-stays : (c : ParamChange) (cs : List ParamChange) (one : StaysCut table (cut k) c)
        → Stays table (cut one.0) cs → Stays table (after_change table (cut k) c).1 cs
    between-stays c cs one more = (
      ap (λ (t : ParamState). all_refused table t cs) one.1 ∙ more.0,
      ap (λ (t : ParamState). after_changes table t cs) one.1 ∙ (more.1
          ∙ sym (ap (λ (t : ParamState). after_changes table t (filter is_between cs)) one.1)),
    )

  pub changes-stay_out : (k : ParamState) (cs : List ParamChange)
      → list_all (λ c. is_between c || is_left_over c) cs ≡ true → Stays table (cut k) cs
  changes-stay_out k [] h = (refl, refl)
  changes-stay_out k (Writing place octets ∷ cs) h =
      out-stays k (Writing place octets) cs (writing-stays_out k place octets)
      (changes-stay_out k cs h)
  changes-stay_out k (Commanding scope asked ∷ cs) h =
      let parts = and-parts (is_left_over (Commanding scope asked))
      (list_all (λ c. is_between c || is_left_over c) cs) h in
      out-stays k (Commanding scope asked) cs (ending-stays_out k scope asked parts.0)
      (changes-stay_out k cs parts.1)
  changes-stay_out k (Setting place octets ∷ cs) h =
      let one = setting-stays_cut k place octets in
      between-stays k (Setting place octets) cs one (changes-stay_out one.0 cs h)
  changes-stay_out k (Resetting ∷ cs) h =
      let one : StaysCut table (cut k) Resetting
      = ((command table (cut k) Block FactoryReset).1, refl) in
      between-stays k Resetting cs one (changes-stay_out one.0 cs h)
  changes-stay_out k (Silent ∷ cs) h =
      let one : StaysCut table (cut k) Silent = (after_end (cut k), refl) in
      between-stays k Silent cs one (changes-stay_out one.0 cs h)
  changes-stay_out k (Over ∷ cs) h = absurd (cc)

pub cut_offs-stay_out : CutOffsStayOut
cut_offs-stay_out table s scope writes cs under left =
    let at : after_quiet s ≡ cut (after_quiet s)
    = ap (λ (a : Activity). record (after_quiet s) { activity = left_in_silence a }) under in
    let stays = changes-stay_out table (after_quiet s) cs left in (
      refl,
      ap (λ (t : ParamState). all_refused table t cs) at ∙ stays.0,
      ap (λ (t : ParamState). after_changes table t cs) at ∙ (stays.1
          ∙ sym (ap (λ (t : ParamState). after_changes table t (filter is_between cs)) at)),
    )
