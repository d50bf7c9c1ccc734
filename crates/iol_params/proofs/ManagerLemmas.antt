-- What a manager does with a write and the end of a download.
-- For the clauses of `Manager::alone_refusal`, `Manager::write`, `manager::end_download` and 2
--     more.
use Rattle.std.specs.Prelude.{nat_lt, length}
use Rattle.std.proofs.Common.{◌≡◌, ℕ, Bool, true, false, refl, List, Some, None, ap}
use Rattle.iol_isdu.specs.declared.values.Place.{Place}
use Rattle.iol_params.specs.declared.error_type.ErrorType.TheVariants.{AccessDenied, TooLong, TooShort, ValueOutOfRange, InvalidSet, FunctionUnavailable, InconsistentSet}
use Rattle.iol_params.specs.declared.member.Member.{Member}
use Rattle.iol_params.specs.declared.state.WritesSoFar.TheVariants.{AllTaken, OneRefused}
use Rattle.iol_params.specs.declared.state.Activity.{Activity}
use Rattle.iol_params.specs.declared.state.Activity.TheVariants.{Idle, Upload, Download, CutOff}
use Rattle.iol_params.specs.Values.{overlay, fits_place, most_at, least_at}
use Rattle.iol_params.specs.Table.{ParamTable}
use Rattle.iol_params.specs.State.{ParamState, is_at_rest, is_downloading, took_each_write, after_end}
use Rattle.iol_params.specs.Carry.{is_consistent, first_refusal, place_refusal, access_refusal, content_refusal, alone_refusal, write_refusal, local_access_refusal, local_refusal, download_settled}
use Rattle.iol_params.proofs.Consistency.{first_refusal-none, third-none, second-none, alone-none}

-- octets without a refusal are values of their place
pub content-fits : (ms : List Member) (place : Place) (octets : List ℕ)
    → content_refusal ms place octets ≡ None → fits_place ms place octets ≡ true
content-fits ms place octets h = third-none (nat_lt (most_at ms place) (length octets))
    (nat_lt (length octets) (least_at ms place)) (fits_place ms place octets)
    TooLong TooShort ValueOutOfRange h

module _ (table : ParamTable) (s : ParamState) (place : Place) (octets : List ℕ) where
  -- a write that is taken
  pub write-taken : write_refusal table s place octets ≡ None
      → (fits_place table.members place octets ≡ true)
      × (is_at_rest s.activity ≡ true
      → is_consistent table (overlay table.members s.values place octets) ≡ true)
  write-taken h =
      let content = content_refusal table.members place octets in
      let alone = alone_refusal table s place octets in
      let first = first_refusal-none (place_refusal table.members place)
      (first_refusal (access_refusal table s place) (first_refusal content alone)) h in
      let second = first_refusal-none (access_refusal table s place)
      (first_refusal content alone) first.1 in
      let third = first_refusal-none content alone second.1 in (
        content-fits table.members place octets third.0,
        λ resting. alone-none (is_at_rest s.activity)
            (is_consistent table (overlay table.members s.values place octets)) InvalidSet third.1
            resting,
      )

  -- a change at the device that is taken
  pub local-taken : local_refusal table s place octets ≡ None
      → (fits_place table.members place octets ≡ true)
      × (is_consistent table (overlay table.members s.values place octets) ≡ true)
  local-taken h =
      let content = content_refusal table.members place octets in
      let alone = alone_refusal table s place octets in
      let access = local_access_refusal s in
      let first = first_refusal-none (place_refusal table.members place)
      (first_refusal access (first_refusal content alone)) h in
      let second = first_refusal-none access (first_refusal content alone) first.1 in
      let third = first_refusal-none content alone second.1 in (
        content-fits table.members place octets third.0,
        alone-none (is_at_rest s.activity)
            (is_consistent table (overlay table.members s.values place octets)) InvalidSet third.1
            (second-none s.locks.local (is_at_rest s.activity) AccessDenied FunctionUnavailable
            second.0),
      )

-- what a write needs, and what a change at the device needs
pub write-fits : (table : ParamTable) (s : ParamState) (place : Place) (octets : List ℕ)
    → write_refusal table s place octets ≡ None → fits_place table.members place octets ≡ true
write-fits table s place octets h = (write-taken table s place octets h).0

pub write-holds : (table : ParamTable) (s : ParamState) (place : Place) (octets : List ℕ)
    → write_refusal table s place octets ≡ None → s.activity ≡ Idle
    → is_consistent table (overlay table.members s.values place octets) ≡ true
write-holds table s place octets h resting =
    (write-taken table s place octets h).1 (ap is_at_rest resting)

pub local-fits : (table : ParamTable) (s : ParamState) (place : Place) (octets : List ℕ)
    → local_refusal table s place octets ≡ None → fits_place table.members place octets ≡ true
local-fits table s place octets h = (local-taken table s place octets h).0

pub local-holds : (table : ParamTable) (s : ParamState) (place : Place) (octets : List ℕ)
    → local_refusal table s place octets ≡ None
    → is_consistent table (overlay table.members s.values place octets) ≡ true
local-holds table s place octets h = (local-taken table s place octets h).1

pub ruleset write_taken = (write-fits, write-holds)

pub ruleset local_taken = (local-fits, local-holds)

-- the ways that the end of a download goes
module _ (a : Activity) (c : Bool) (s : ParamState) (applied : ParamState → ParamState) where
  pub settled-none : is_downloading a ≡ false
      → download_settled a c s applied ≡ (Some FunctionUnavailable, s)
  settled-none h = by a h
    where
      by : (b : Activity) → is_downloading b ≡ false
          → download_settled b c s applied ≡ (Some FunctionUnavailable, s)
      by Idle k = refl
      by CutOff k = refl
      by (Upload scope) k = refl
      by (Download scope writes) k = absurd (cc)

  pub settled-refused : is_downloading a ≡ true → took_each_write a ≡ false
      → download_settled a c s applied ≡ (Some InconsistentSet, after_end s)
  settled-refused h w = by a h w
    where
      by : (b : Activity) → is_downloading b ≡ true → took_each_write b ≡ false
          → download_settled b c s applied ≡ (Some InconsistentSet, after_end s)
      by Idle k l = absurd (cc)
      by CutOff k l = absurd (cc)
      by (Upload scope) k l = absurd (cc)
      by (Download scope OneRefused) k l = refl
      by (Download scope AllTaken) k l = absurd (cc)

  pub settled-broken : is_downloading a ≡ true → c ≡ false
      → download_settled a c s applied ≡ (Some InconsistentSet, after_end s)
  settled-broken h w = by a c h w
    where
      by : (b : Activity) (d : Bool) → is_downloading b ≡ true → d ≡ false
          → download_settled b d s applied ≡ (Some InconsistentSet, after_end s)
      by Idle d k l = absurd (cc)
      by CutOff d k l = absurd (cc)
      by (Upload scope) d k l = absurd (cc)
      by (Download scope OneRefused) d k l = refl
      by (Download scope AllTaken) false k l = refl
      by (Download scope AllTaken) true k l = absurd (cc)

  pub settled-whole : took_each_write a ≡ true → c ≡ true → download_settled a c s applied
      ≡ (None, applied (after_end (record s { values = s.copy })))
  settled-whole h w = by a c h w
    where
      by : (b : Activity) (d : Bool) → took_each_write b ≡ true → d ≡ true
          → download_settled b d s applied
          ≡ (None, applied (after_end (record s { values = s.copy })))
      by Idle d k l = absurd (cc)
      by CutOff d k l = absurd (cc)
      by (Upload scope) d k l = absurd (cc)
      by (Download scope OneRefused) d k l = absurd (cc)
      by (Download scope AllTaken) false k l = absurd (cc)
      by (Download scope AllTaken) true k l = refl

pub ruleset download_ways = (settled-none, settled-refused, settled-broken, settled-whole)
