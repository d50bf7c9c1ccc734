-- A watch of the master's side, told the calls that a judge is told.
use Rattle.std.specs.Prelude.{◌≡◌, ℕ, Bool, true, false, ◌&&◌, ◌||◌, ◌==◌, if◌then◌else◌, List, ◌∷◌, Option, Some, None, is_none, unwrap_or}
use Rattle.iol_link.specs.Honest.{test_read}
use Rattle.iol_judge.specs.declared.verdict.Wake.{Wake}
use Rattle.iol_judge.specs.declared.verdict.Wake.TheVariants.{Answered}
use Rattle.iol_judge.specs.Observed.{whole_page}
use Rattle.iol_judge.specs.declared.master_verdict.MasterVerdict.{MasterVerdict}
use Rattle.iol_judge.specs.declared.master_verdict.MasterVerdict.TheVariants.{NotByTheRules}
use Rattle.iol_judge.specs.Watched.{WatchState, watch_after_exchange, new_watch, watch_with_page, watch_after_wake}

pub record Watching : Type 0 where
  -- what the watch was told, up to the master's first fault
  pub watched : WatchState
  -- the call of the exchange told last: that of the fault, where there is one
  pub call : ℕ
  -- a command into another mode was sent since the last wake-up request
  pub asked : Bool
  -- the next exchange may be the test read of a wake-up request that isn't shown
  pub tests : Bool
  -- The first call since then that may be one, though the device had left STARTUP: from here on
  -- its mode isn't known
  pub unsure : Option ℕ
  -- the first call since then behind octets that were passed over
  pub unheard : Option ℕ

abbrev pub new_watching : Watching
new_watching = record {
  watched = new_watch;
  call = 0;
  asked = false;
  tests = false;
  unsure = None;
  unheard = None;
}

abbrev pub is_blamed : MasterVerdict → Bool
is_blamed (NotByTheRules number fault) = true
is_blamed verdict = false

-- the device has this page
abbrev pub page_watched : Watching → List ℕ → Watching
page_watched watching octets =
    record watching { watched = watch_with_page watching.watched (whole_page octets) }

-- a wake-up request was made
abbrev pub wake_watched : Watching → Wake → Watching
wake_watched watching answer = if is_blamed watching.watched.verdict then watching else
    record new_watching { watched = watch_after_wake watching.watched answer; call = watching.call }

-- behind octets that were passed over this call is next
abbrev pub watching_unheard : Watching → ℕ → Watching
watching_unheard watching call =
    if is_blamed watching.watched.verdict then watching else
    record watching { unheard = Some (unwrap_or watching.unheard call) }

-- octets of a write of DeviceOperate or DevicePreoperate to page address 0x00 in STARTUP
abbrev pub asks_mode : List ℕ → Bool
asks_mode (control ∷ check ∷ command ∷ rest) =
    (control == 0x20) && ((command == 0x99) || (command == 0x9A))
asks_mode octets = false

-- an exchange was made
abbrev pub watching_after_exchange : Watching → ℕ → List ℕ → Option (List ℕ) → Watching
watching_after_exchange watching call sent received = record watching {
  watched = watch_after_exchange watching.watched sent received;
  call = call;
  asked = watching.asked || asks_mode sent;
}

-- An exchange was made that is a read, or the test read of a wake-up request. It is the latter
-- where no master by the rules would read there. In STARTUP a master that reads may do all that one
-- may which was woken; else it is noted that the mode isn't known.
abbrev pub read_or_woken : Watching → ℕ → List ℕ → Option (List ℕ) → Watching
read_or_woken watching call sent received =
    let read = watching_after_exchange (record watching { tests = false }) call sent received in
    if is_blamed read.watched.verdict
    then watching_after_exchange (wake_watched new_watching Answered) call sent received
    else record read {
      unsure = if read.asked && is_none read.unsure then Some call else read.unsure;
    }

-- an exchange was made in this call; behind the first fault nothing is told
abbrev pub exchange_watched : Watching → ℕ → List ℕ → Option (List ℕ) → Watching
exchange_watched watching call sent received =
    if is_blamed watching.watched.verdict then watching else
    if watching.tests then read_or_woken watching call sent received
    else watching_after_exchange watching call sent received

-- the law: a test read is never blamed, where a wake-up request may be before it that isn't shown
abbrev pub UnseenWakesAreFair : Type 0
UnseenWakesAreFair = (watching : Watching) (call : ℕ) (received : Option (List ℕ))
    → watching.tests ≡ true → is_blamed watching.watched.verdict ≡ false
    → is_blamed (exchange_watched watching call test_read received).watched.verdict ≡ false
