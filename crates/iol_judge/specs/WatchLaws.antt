-- What the watch promises of each capture.
use Rattle.std.specs.Prelude.{◌≡◌, ℕ, Bool, true, false, List, Option, is_some}
use Rattle.iol_judge.specs.declared.verdict.Wake.{Wake}
use Rattle.iol_judge.specs.declared.blame.Blame.{Blame}
use Rattle.iol_judge.specs.declared.master_verdict.MasterVerdict.TheVariants.{ByTheRules, NotByTheRules}
use Rattle.iol_judge.specs.Watched.{WatchState, watch_after_exchange, watch_with_page, watch_after_wake}

-- the last message had no good reply, and no wake-up request is due
abbrev pub is_out : WatchState → Bool
is_out watched = elim watched.verdict [
  | ByTheRules ↦ is_some watched.master.out
  | verdict ↦ false
]

-- the same octets again, behind an exchange that left the message out, are never blamed
abbrev pub RepeatsAreFair : Type 0
RepeatsAreFair = (watched : WatchState) (octets : List ℕ) (answer repeat : Option (List ℕ))
    → is_out (watch_after_exchange watched octets answer) ≡ true
    → (watch_after_exchange (watch_after_exchange watched octets answer) octets repeat).verdict
    ≡ ByTheRules

-- a wake-up request is never blamed
abbrev pub WakesAreFair : Type 0
WakesAreFair = (watched : WatchState) (wake : Wake)
    → watched.verdict ≡ ByTheRules → (watch_after_wake watched wake).verdict ≡ ByTheRules

-- the first fault stays the verdict, whatever comes
pub record FaultStays (watched : WatchState) (number : ℕ) (fault : Blame) : Type 0 where
  pub page : (page : List (Option ℕ))
      → (watch_with_page watched page).verdict ≡ NotByTheRules number fault
  pub wake : (wake : Wake) → (watch_after_wake watched wake).verdict ≡ NotByTheRules number fault
  pub exchange : (octets : List ℕ) (answer : Option (List ℕ))
      → (watch_after_exchange watched octets answer).verdict ≡ NotByTheRules number fault

abbrev pub FaultsStay : Type 0
FaultsStay = (watched : WatchState) (number : ℕ) (fault : Blame)
    → watched.verdict ≡ NotByTheRules number fault → FaultStays watched number fault
