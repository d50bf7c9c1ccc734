-- What a table without a fault is.
-- For the clauses of `Table::is_sound`, `cells::read_into`, `table::check_members` and 3 more.
use Rattle.std.specs.Prelude.{if◌then◌else◌, ◌&&◌, not, nat_le, length}
use Rattle.std.specs.List.{list_any}
use Rattle.std.proofs.Common.{◌≡◌, ℕ, ◌+◌, ◌≤◌, Bool, true, false, refl, List, [], ◌∷◌, Option, Some, None, arith, length-append}
use Rattle.std.proofs.lemmas.Grind.{common_steps}
use Rattle.iol_isdu.specs.declared.values.Place.{Place}
use Rattle.iol_params.specs.declared.member.Member.{Member}
use Rattle.iol_params.specs.declared.table.OrderRule.{OrderRule}
use Rattle.iol_params.specs.declared.table.TableFault.{TableFault}
use Rattle.iol_params.specs.declared.table.Flaw.TheVariants.{TooManyMembers, TooMuchStored, NoStoredNumber, BrokenAtFirst}
use Rattle.iol_params.specs.Values.{all_fit, defaults, most_at, value_at, holds_rule}
use Rattle.iol_params.specs.Table.{table_fault, members_fault, rules_fault, rule_flaw, is_of_index, whole, is_stored_number, index_list, set_size}
use Rattle.iol_params.specs.Carry.{rules_hold}
use Rattle.iol_params.specs.SoundTable.{IsSoundTable}
use Rattle.iol_params.proofs.Consistency.{members-fit, members-length, reset-rules, table-none, storage-none, fault_or-none, rule-none, and-both}

-- a value is at most as long as its place
pub value-length : (ms : List Member) (values : List (List ℕ)) (place : Place)
    → all_fit ms values ≡ true → length (value_at ms values place) ≤ most_at ms place
value-length [] values place fit = omega arith
value-length (m ∷ ms) [] place fit = absurd (cc)
value-length (m ∷ ms) (v ∷ values) place fit =
    grind (
      arith,
      common_steps,
      value-length ms values place,
      length-append v
          (value_at ms values place),
    )

pub ruleset value_length = value-length

pub most-whole : (ms : List Member) (place : Place)
    → most_at ms place ≤ most_at ms (whole place.index)
most-whole [] place = omega arith
most-whole (m ∷ ms) place = grind (arith, common_steps, most-whole ms place)

pub none-none : (ms : List Member) (index : ℕ) → list_any (is_of_index index) ms ≡ false
    → most_at ms (whole index) ≡ 0
none-none [] index h = refl
none-none (m ∷ ms) index h = grind (arith, common_steps, none-none ms index)

pub few-of : (b : Bool) (fault : TableFault) (other : Option TableFault)
    → (if not b then Some fault else other) ≡ None → b ≡ true
few-of true fault other h = refl
few-of false fault other h = absurd (cc)

pub defaults-rules : (ms : List Member) (row : ℕ) (rules : List OrderRule)
    → rules_fault ms row rules ≡ None → rules_hold ms rules (defaults ms) ≡ true
defaults-rules ms row [] none = refl
defaults-rules ms row (rule ∷ rules) none =
    let parts = fault_or-none row (rule_flaw ms rule) (rules_fault ms (row + 1) rules) none in
    let here = rule-none (is_stored_number ms rule.low) (is_stored_number ms rule.high)
    (holds_rule ms (defaults ms) rule) NoStoredNumber BrokenAtFirst parts.0 in
    and-both (holds_rule ms (defaults ms) rule) (rules_hold ms rules (defaults ms)) here.2
    (defaults-rules ms (row + 1) rules parts.1)

pub short-of : (ms : List Member) (place : Place) (any : Bool)
    → list_any (is_of_index place.index) ms ≡ any → members_fault ms [] 0 ms ≡ None
    → most_at ms place ≤ 232
short-of ms place true e none =
    omega (arith, most-whole ms place, members-length ms [] 0 ms place.index none e)
short-of ms place false e none =
    omega (arith, most-whole ms place, none-none ms place.index e)

pub members-short : (ms : List Member) (place : Place) → members_fault ms [] 0 ms ≡ None
    → most_at ms place ≤ 232
members-short ms place none =
    short-of ms place (list_any (is_of_index place.index) ms) refl none

pub stored-of : (a b : Bool) (fault : TableFault)
    → (if a && b then None else Some fault) ≡ None → (a ≡ true) × (b ≡ true)
stored-of true true fault h = (refl, refl)
stored-of true false fault h = absurd (cc)
stored-of false b fault h = absurd (cc)

pub sound-table : (members : List Member) (rules : List OrderRule)
    → table_fault members rules ≡ None
    → IsSoundTable (record { members = members; rules = rules })
sound-table members rules none =
    let parts = table-none members rules none in
    let stored = stored-of (nat_le (length (index_list members)) 232)
    (nat_le (set_size members members) 2048)
    (record { row = length members; flaw = TooMuchStored }) (storage-none members rules none) in
    record {
      listed = let b : nat_le (length (index_list members)) 232 ≡ true = stored.0 in
          grind (arith, b);
      stored = let b : nat_le (set_size members members) 2048 ≡ true = stored.1 in
          grind (arith, b);
      few = let b : nat_le (length members) 1000 ≡ true = few-of (nat_le (length members) 1000)
          (record { row = 1000; flaw = TooManyMembers }) _ none in grind (arith, b);
      short = λ place. members-short members place parts.0;
      fit = members-fit members [] 0 members parts.0;
      consistent = defaults-rules members 0 rules parts.1;
      resets = λ values fit. reset-rules members 0 rules values parts.1 fit;
    }

pub ruleset sound_table = sound-table
