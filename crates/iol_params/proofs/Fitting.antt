-- A set of one device fits each device of its table: its table, and the writes.
-- For the clauses of `laws::sets_fit`.
use Rattle.std.specs.Prelude.{if◌then◌else◌, ◌&&◌, ◌||◌, ◌==◌, not, nat_le, nat_lt, length, count_by, ◌+◌, cond, is_none}
use Rattle.std.specs.List.{list_all, list_any}
use Rattle.std.proofs.Common.{◌≡◌, ◌≤◌, ℕ, Bool, true, false, refl, List, [], ◌∷◌, ◌++◌, Option, Some, None, ap, sym, ◌∙◌, arith, take, drop}
use Rattle.std.proofs.lemmas.Grind.{common_steps}
use Rattle.iol_isdu.specs.declared.values.Place.{Place}
use Rattle.iol_params.specs.declared.error_type.ErrorType.{ErrorType}
use Rattle.iol_params.specs.declared.error_type.ErrorType.TheVariants.{IndexNotAvailable, SubindexNotAvailable, AccessDenied, TooLong, TooShort, ValueOutOfRange, FunctionUnavailable}
use Rattle.iol_params.specs.declared.member.Member.{Member}
use Rattle.iol_params.specs.declared.member.Access.{Access}
use Rattle.iol_params.specs.declared.member.Access.TheVariants.{ReadOnly, ReadWrite, Stored}
use Rattle.iol_params.specs.declared.table.OrderRule.{OrderRule}
use Rattle.iol_params.specs.declared.table.Flaw.{Flaw}
use Rattle.iol_params.specs.declared.table.Flaw.TheVariants.{ManagedIndex, SubindexOutOfTurn, MixedAccess, BadLength, BadDefault, NoStoredNumber, BrokenAtFirst}
use Rattle.iol_params.specs.declared.state.Scope.TheVariants.{Storage}
use Rattle.iol_params.specs.declared.state.WritesSoFar.TheVariants.{AllTaken}
use Rattle.iol_params.specs.declared.state.Command.TheVariants.{DownloadStart, DownloadEnd}
use Rattle.iol_params.specs.Members.{fits_type, selects, big_endian}
use Rattle.iol_params.specs.Values.{all_fit, value_at, fits_place, overlay, defaults, most_of, most_at, least_at, is_stored, is_writable, has_stored_number, holds_rule}
use Rattle.iol_params.specs.Table.{ParamTable, table_fault, whole, is_managed, is_of_index, same_access, differs, sub_in_turn, may_stand, has_length, member_flaw, members_fault, rules_fault, rule_flaw, is_stored_number, begins_stored}
use Rattle.iol_params.specs.State.{ParamState, is_at_rest, is_in, is_foreign, after_end, with_flag_cleared}
use Rattle.iol_params.specs.Storage.{set_octets, crc32}
use Rattle.iol_params.specs.Carry.{is_read_only_at, rules_hold, is_consistent, first_refusal, place_refusal, access_refusal, content_refusal, alone_refusal, write_refusal, write_settled, write, own_command, unless_foreign, command, download_settled}
use Rattle.iol_params.specs.Laws.{ParamChange, after_changes, all_written, writings, stored_set, set_of, SetsFit}
use Rattle.iol_params.proofs.Consistency.{and-both, fault_or-none, rule-none, stored-all, table-none}
use Rattle.iol_params.proofs.TableLemmas.{value-length}
use Rattle.iol_params.proofs.Downloads.{downloading}
use Rattle.iol_params.proofs.Sets.{entries_of, set-entries, count-first, count-none, and-parts, or-parts, or-first, or-second, or-then, is_fixed, stands-fixed, Parses, fixed-parses, one-parses, parses-fit, least-length}

-- what a member without a flaw is
pub record Stands (all before : List Member) (m : Member) : Type 0 where
  pub turn : m.place.sub ≡ sub_in_turn (count_by (is_of_index m.place.index) all)
      (count_by (is_of_index m.place.index) before)
  pub same : list_any (differs m) all ≡ false
  pub alone : may_stand m.data_type m.place.sub ≡ true

pub flaw-none : (a b c d e : Bool) (v w x y z : Flaw)
    → (if a then Some v else if not b then Some w else if c then Some x else
    if not d then Some y else if not e then Some z else None) ≡ None
    → (b ≡ true) × (c ≡ false) × (d ≡ true)
flaw-none true b c d e v w x y z h = absurd (cc)
flaw-none false false c d e v w x y z h = absurd (cc)
flaw-none false true true d e v w x y z h = absurd (cc)
flaw-none false true false true e v w x y z h = (refl, refl, refl)
flaw-none false true false false e v w x y z h = absurd (cc)

pub stands : (all before : List Member) (m : Member) → member_flaw all before m ≡ None
    → Stands all before m
stands all before m h =
    let turn = sub_in_turn (count_by (is_of_index m.place.index) all)
    (count_by (is_of_index m.place.index) before) in
    let parts = flaw-none (is_managed m.place.index) (m.place.sub == turn)
    (list_any (differs m) all) (has_length all m) (fits_type m.data_type m.default.now)
    ManagedIndex SubindexOutOfTurn MixedAccess BadLength BadDefault h in
    let long = nat_le 1 (most_of m) && nat_le (most_at all (whole m.place.index)) 232 in
    record {
      turn = let e : (m.place.sub == turn) ≡ true = parts.0 in grind (arith, e);
      same = parts.1;
      alone = (and-parts long (may_stand m.data_type m.place.sub) parts.2).1;
    }

pub first-stands : (all before : List Member) (row : ℕ) (m : Member) (ms : List Member)
    → members_fault all before row (m ∷ ms) ≡ None
    → Stands all before m × (members_fault all (before ++ m ∷ []) (row + 1) ms ≡ None)
first-stands all before row m ms h =
    let parts = fault_or-none row (member_flaw all before m)
    (members_fault all (before ++ m ∷ []) (row + 1) ms) h in
    (stands all before m parts.0, parts.1)

-- a place of a whole parameter
pub whole-selects : (index : ℕ) (m : Member)
    → selects (whole index) m ≡ is_of_index index m
whole-selects index m = grind (arith, common_steps)

pub index-back : (first m : Member)
    → is_of_index m.place.index first ≡ is_of_index first.place.index m
index-back first m = grind (arith, common_steps)

pub index-same : (index : ℕ) (m : Member) → is_of_index index m ≡ true → m.place.index ≡ index
index-same index m h = grind (arith, h)

-- where an Index has several members, none is a text
pub fixed-all : (all before : List Member) (row : ℕ) (ms : List Member) (index : ℕ)
    → members_fault all before row ms ≡ None
    → (count_by (is_of_index index) all == 1) ≡ false
    → list_all (λ m. not (selects (whole index) m) || is_fixed m.data_type) ms ≡ true
fixed-all all before row [] index h several = refl
fixed-all all before row (m ∷ ms) index h several =
    let parts = first-stands all before row m ms h in
    let test : Member → Bool = λ m. not (selects (whole index) m) || is_fixed m.data_type in
    and-both (test m) (list_all test ms) (by (selects (whole index) m) refl parts.0)
    (fixed-all all (before ++ m ∷ []) (row + 1) ms index parts.1 several)
  where
    by : (b : Bool) → selects (whole index) m ≡ b → Stands all before m
        → (not (selects (whole index) m) || is_fixed m.data_type) ≡ true
    by true e good =
        let here = index-same index m (sym (whole-selects index m) ∙ e) in
        let later : ℕ = count_by (is_of_index m.place.index) before in
        let several-here : (count_by (is_of_index m.place.index) all == 1) ≡ false =
        ap (λ i. count_by (is_of_index i) all == 1) here ∙ several in
        let sub : m.place.sub ≡ later + 1 = good.turn
        ∙ ap (λ (b : Bool). if b then 0 else later + 1) several-here in
        let fixed = stands-fixed m.data_type later
        (ap (may_stand m.data_type) (sym sub) ∙ good.alone) in
        ap (λ (b : Bool). not b || is_fixed m.data_type) e ∙ fixed
    by false e good = ap (λ (b : Bool). not b || is_fixed m.data_type) e

pub count-whole : (ms : List Member) (index : ℕ)
    → count_by (selects (whole index)) ms ≡ count_by (is_of_index index) ms
count-whole [] index = refl
count-whole (m ∷ ms) index =
    let count = count_by (selects (whole index)) ms in
    count-first (selects (whole index)) m ms
    ∙ (ap (λ (b : Bool). cond b (1 + count) count) (whole-selects index m)
    ∙ (ap (λ (n : ℕ). cond (is_of_index index m) (1 + n) n) (count-whole ms index)
    ∙ sym (count-first (is_of_index index) m ms)))

pub any-whole : (ms : List Member) (index : ℕ)
    → list_any (selects (whole index)) ms ≡ list_any (is_of_index index) ms
any-whole [] index = refl
any-whole (m ∷ ms) index =
    ap (λ (b : Bool). b || list_any (selects (whole index)) ms) (whole-selects index m)
    ∙ ap (λ (b : Bool). is_of_index index m || b) (any-whole ms index)

-- the value of a whole parameter can be told apart again
pub whole-parses : (ms : List Member) (values : List (List ℕ)) (index : ℕ)
    → members_fault ms [] 0 ms ≡ None → all_fit ms values ≡ true
    → Parses (whole index) ms values
whole-parses ms values index none fit = by (count_by (is_of_index index) ms == 1) refl
  where
    by : (b : Bool) → (count_by (is_of_index index) ms == 1) ≡ b → Parses (whole index) ms values
    by true e =
        let one : count_by (is_of_index index) ms ≡ 1 = grind (arith, e) in
        one-parses (whole index) ms values fit (count-whole ms index ∙ one)
    by false e = fixed-parses (whole index) ms values fit (fixed-all ms [] 0 ms index none e)

-- the first member of a parameter has Subindex 0 or 1
pub count-append : (p : Member → Bool) (xs : List Member) (x : Member)
    → count_by p xs ≡ 0 → p x ≡ false → count_by p (xs ++ x ∷ []) ≡ 0
count-append p [] x none other = count-first p x [] ∙ ap (λ (b : Bool). cond b 1 0) other
count-append p (y ∷ xs) x none other =
    let parts = count-none (p y) (count_by p xs) (sym (count-first p y xs) ∙ none) in
    let last = count-append p xs x parts.1 other in
    let count = count_by p (xs ++ x ∷ []) in
    count-first p y (xs ++ x ∷ [])
    ∙ (ap (λ (b : Bool). cond b (1 + count) count) parts.0 ∙ last)

pub first-member : (all before : List Member) (row : ℕ) (ms : List Member) (index : ℕ)
    → members_fault all before row ms ≡ None → count_by (is_of_index index) before ≡ 0
    → list_any (is_of_index index) ms ≡ true
    → list_any (λ m. is_of_index index m && nat_le m.place.sub 1) ms ≡ true
first-member all before row [] index h none found = absurd (cc)
first-member all before row (m ∷ ms) index h none found =
    by (is_of_index index m) refl (first-stands all before row m ms h).0
    (λ other later. first-member all (before ++ m ∷ []) (row + 1) ms index
    (first-stands all before row m ms h).1
    (count-append (is_of_index index) before m none other) later)
  where
    begins : Member → Bool
    begins = λ m. is_of_index index m && nat_le m.place.sub 1

    by : (b : Bool) → is_of_index index m ≡ b → Stands all before m
        → (is_of_index index m ≡ false → list_any (is_of_index index) ms ≡ true
        → list_any begins ms ≡ true)
        → (begins m || list_any begins ms) ≡ true
    by true e good more =
        let same = index-same index m e in
        let before-none : count_by (is_of_index m.place.index) before ≡ 0 =
        ap (λ i. count_by (is_of_index i) before) same ∙ none in
        let low : m.place.sub ≤ 1 = low-sub (count_by (is_of_index m.place.index) all == 1)
        (count_by (is_of_index m.place.index) before) before-none good.turn in
        let small : nat_le m.place.sub 1 ≡ true = grind (arith, low) in
        let here : begins m ≡ true
        = and-both (is_of_index index m) (nat_le m.place.sub 1) e small in
        or-first (begins m) (list_any begins ms) here
      where
        low-sub : (b : Bool) (n : ℕ) → n ≡ 0 → m.place.sub ≡ (if b then 0 else n + 1)
            → m.place.sub ≤ 1
        low-sub true n z t = omega (arith, t)
        low-sub false n z t = omega (arith, z, t)
    by false e good more =
        let later : list_any (is_of_index index) ms ≡ true =
        sym (ap (λ (b : Bool). b || list_any (is_of_index index) ms) e) ∙ found in
        let rest = more e later in
        ap (λ (b : Bool). (b && nat_le m.place.sub 1) || list_any begins ms) e ∙ rest

pub same-stored : (a b : Access) → same_access a b ≡ true → is_stored a ≡ true
    → is_stored b ≡ true
same-stored Stored Stored h k = refl
same-stored Stored ReadOnly h k = absurd (cc)
same-stored Stored ReadWrite h k = absurd (cc)
same-stored ReadOnly b h k = absurd (cc)
same-stored ReadWrite b h k = absurd (cc)

pub stored-written : (a : Access) → is_stored a ≡ true → is_writable a ≡ true
stored-written Stored h = refl
stored-written ReadOnly h = absurd (cc)
stored-written ReadWrite h = absurd (cc)

pub other-stored : (m x : Member) → is_stored m.access ≡ true → differs m x ≡ false
    → is_of_index m.place.index x ≡ true → is_stored x.access ≡ true
other-stored m x stored same here =
    same-stored m.access x.access (by (same_access m.access x.access)
    (ap (λ (b : Bool). b && not (same_access m.access x.access)) (sym here) ∙ same)) stored
  where
    by : (b : Bool) → (true && not b) ≡ false → b ≡ true
    by true h = refl
    by false h = absurd (cc)

-- where one member is stored, each of its parameter is
pub begun-stored : (m : Member) (xs : List Member) → is_stored m.access ≡ true
    → list_any (differs m) xs ≡ false
    → list_any (λ x. is_of_index m.place.index x && nat_le x.place.sub 1) xs ≡ true
    → list_any (λ x. begins_stored x && is_of_index m.place.index x) xs ≡ true
begun-stored m [] stored same found = absurd (cc)
begun-stored m (x ∷ xs) stored same found =
    let others = or-parts (differs m x) (list_any (differs m) xs) same in
    by (is_of_index m.place.index x) (nat_le x.place.sub 1) refl refl
    (other-stored m x stored others.0) (begun-stored m xs stored others.1)
  where
    first : Member → Bool
    first = λ x. is_of_index m.place.index x && nat_le x.place.sub 1

    begun : Member → Bool
    begun = λ x. begins_stored x && is_of_index m.place.index x

    by : (b c : Bool) → is_of_index m.place.index x ≡ b → nat_le x.place.sub 1 ≡ c
        → (is_of_index m.place.index x ≡ true → is_stored x.access ≡ true)
        → (list_any first xs ≡ true → list_any begun xs ≡ true)
        → (begun x || list_any begun xs) ≡ true
    by true true e f is more =
        let here : begun x ≡ true = and-both (begins_stored x) (is_of_index m.place.index x)
        (and-both (is_stored x.access) (nat_le x.place.sub 1) (is e) f) e in
        or-first (begun x) (list_any begun xs) here
    by true false e f is more =
        let none : first x ≡ false = ap (λ (b : Bool). is_of_index m.place.index x && b) f
        ∙ ap (λ (b : Bool). b && false) e in
        or-second (begun x) (list_any begun xs)
        (more (sym (ap (λ (b : Bool). b || list_any first xs) none) ∙ found))
    by false c e f is more =
        let none : first x ≡ false = ap (λ (b : Bool). b && nat_le x.place.sub 1) e in
        or-second (begun x) (list_any begun xs)
        (more (sym (ap (λ (b : Bool). b || list_any first xs) none) ∙ found))

pub no-read_only : (m : Member) (xs : List Member) → is_stored m.access ≡ true
    → list_any (differs m) xs ≡ false
    → list_any (is_read_only_at (whole m.place.index)) xs ≡ false
no-read_only m [] stored same = refl
no-read_only m (x ∷ xs) stored same =
    let others = or-parts (differs m x) (list_any (differs m) xs) same in
    let rest = list_any (is_read_only_at (whole m.place.index)) xs in
    by (selects (whole m.place.index) x) refl others.0 (no-read_only m xs stored others.1)
  where
    by : (b : Bool) → selects (whole m.place.index) x ≡ b → differs m x ≡ false
        → list_any (is_read_only_at (whole m.place.index)) xs ≡ false
        → (is_read_only_at (whole m.place.index) x
        || list_any (is_read_only_at (whole m.place.index)) xs) ≡ false
    by true e other more =
        let here = other-stored m x stored other
        (sym (whole-selects m.place.index x) ∙ e) in
        let written = stored-written x.access here in
        ap (λ (b : Bool). (selects (whole m.place.index) x && not b)
        || list_any (is_read_only_at (whole m.place.index)) xs) written
        ∙ (ap (λ (b : Bool). (b && false)
        || list_any (is_read_only_at (whole m.place.index)) xs) e ∙ more)
    by false e other more = ap (λ (b : Bool). (b && not (is_writable x.access))
        || list_any (is_read_only_at (whole m.place.index)) xs) e ∙ more

-- the values that are written: those of one device for the parameters of these members, those that
-- another had for the others
abbrev pub mixed : List Member → List Member → List (List ℕ) → List (List ℕ) → List (List ℕ)
mixed done [] from prior = []
mixed done (m ∷ ms) [] prior = []
mixed done (m ∷ ms) (v ∷ from) [] = []
mixed done (m ∷ ms) (v ∷ from) (w ∷ prior) =
    (if list_any (is_of_index m.place.index) done then v else w) ∷ mixed done ms from prior

pub mixed-none : (ms : List Member) (from prior : List (List ℕ)) → all_fit ms from ≡ true
    → all_fit ms prior ≡ true → mixed [] ms from prior ≡ prior
mixed-none [] [] [] f h = refl
mixed-none [] [] (w ∷ prior) f h = absurd (cc)
mixed-none [] (v ∷ from) prior f h = absurd (cc)
mixed-none (m ∷ ms) [] prior f h = absurd (cc)
mixed-none (m ∷ ms) (v ∷ from) [] f h = absurd (cc)
mixed-none (m ∷ ms) (v ∷ from) (w ∷ prior) f h = ap (λ l. w ∷ l)
    (mixed-none ms from prior (and-parts (fits_type m.data_type v) (all_fit ms from) f).1
    (and-parts (fits_type m.data_type w) (all_fit ms prior) h).1)

-- a write of a parameter more
pub overlay-mixed : (done : List Member) (first : Member) (ms : List Member)
    (from prior : List (List ℕ)) → all_fit ms from ≡ true → all_fit ms prior ≡ true
    → Parses (whole first.place.index) ms from
    → overlay ms (mixed done ms from prior) (whole first.place.index)
    (value_at ms from (whole first.place.index)) ≡ mixed (first ∷ done) ms from prior
overlay-mixed done first [] from prior f h parses = refl
overlay-mixed done first (m ∷ ms) [] prior f h parses = absurd (cc)
overlay-mixed done first (m ∷ ms) (v ∷ from) [] f h parses = absurd (cc)
overlay-mixed done first (m ∷ ms) (v ∷ from) (w ∷ prior) f h parses =
    by (selects place m) refl parses.0 (overlay-mixed done first ms from prior
    (and-parts (fits_type m.data_type v) (all_fit ms from) f).1
    (and-parts (fits_type m.data_type w) (all_fit ms prior) h).1 parses.1)
  where
    place : Place
    place = whole first.place.index

    rest : List ℕ
    rest = value_at ms from place

    most : ℕ
    most = most_of m

    old : List (List ℕ)
    old = mixed done ms from prior

    here : List ℕ
    here = if list_any (is_of_index m.place.index) done then v else w

    read : Bool → List ℕ
    read b = if b then v ++ rest else rest

    over : Bool → List (List ℕ)
    over b =
        if b then take most (read b) ∷ overlay ms old place (drop most (read b))
        else here ∷ overlay ms old place (read b)

    new : Bool → List (List ℕ)
    new b =
        (if b || list_any (is_of_index m.place.index) done then v else w)
        ∷ mixed (first ∷ done) ms from prior

    turned : is_of_index m.place.index first ≡ selects place m
    turned = index-back first m ∙ sym (whole-selects first.place.index m)

    by : (b : Bool) → selects place m ≡ b
        → (selects place m ≡ true → (take most (v ++ rest) ≡ v) × (drop most (v ++ rest) ≡ rest))
        → overlay ms old place rest ≡ mixed (first ∷ done) ms from prior
        → over (selects place m) ≡ new (is_of_index m.place.index first)
    by true e parts more =
        let got = parts e in
        ap over e ∙ (ap (λ l. l ∷ overlay ms old place (drop most (v ++ rest))) got.0
        ∙ (ap (λ l. v ∷ overlay ms old place l) got.1 ∙ (ap (λ l. v ∷ l) more
        ∙ sym (ap new (turned ∙ e)))))
    by false e parts more =
        ap over e ∙ (ap (λ l. here ∷ l) more ∙ sym (ap new (turned ∙ e)))

-- a place of which each member was written
pub value-mixed : (done : List Member) (place : Place) (ms : List Member)
    (from prior : List (List ℕ)) → all_fit ms from ≡ true → all_fit ms prior ≡ true
    → list_all (λ m. not (selects place m) || list_any (is_of_index m.place.index) done) ms ≡ true
    → value_at ms (mixed done ms from prior) place ≡ value_at ms from place
value-mixed done place [] from prior f h all = refl
value-mixed done place (m ∷ ms) [] prior f h all = absurd (cc)
value-mixed done place (m ∷ ms) (v ∷ from) [] f h all = absurd (cc)
value-mixed done place (m ∷ ms) (v ∷ from) (w ∷ prior) f h all =
    let test : Member → Bool =
    λ m. not (selects place m) || list_any (is_of_index m.place.index) done in
    let parts = and-parts (test m) (list_all test ms) all in
    by (selects place m) refl
    (or-then (selects place m) (list_any (is_of_index m.place.index) done) parts.0)
    (value-mixed done place ms from prior
    (and-parts (fits_type m.data_type v) (all_fit ms from) f).1
    (and-parts (fits_type m.data_type w) (all_fit ms prior) h).1 parts.1)
  where
    old : List ℕ
    old = value_at ms (mixed done ms from prior) place

    rest : List ℕ
    rest = value_at ms from place

    here : Bool → List ℕ
    here c = if c then v else w

    by : (b : Bool) → selects place m ≡ b
        → (selects place m ≡ true → list_any (is_of_index m.place.index) done ≡ true)
        → old ≡ rest
        → (if selects place m then here (list_any (is_of_index m.place.index) done) ++ old else old)
        ≡ (if selects place m then v ++ rest else rest)
    by true e taken more =
        let now = here (list_any (is_of_index m.place.index) done) in
        ap (λ (b : Bool). if b then now ++ old else old) e
        ∙ (ap (λ (c : Bool). here c ++ old) (taken e) ∙ (ap (λ l. v ++ l) more
        ∙ sym (ap (λ (b : Bool). if b then v ++ rest else rest) e)))
    by false e taken more =
        let now = here (list_any (is_of_index m.place.index) done) in
        ap (λ (b : Bool). if b then now ++ old else old) e
        ∙ (more ∙ sym (ap (λ (b : Bool). if b then v ++ rest else rest) e))

-- the members whose parameters are written
abbrev pub taken : List Member → List Member → List Member
taken done [] = done
taken done (m ∷ ms) = if begins_stored m then taken (m ∷ done) ms else taken done ms

or-nothing : (a : Bool) → a ≡ (a || false)
or-nothing true = refl
or-nothing false = refl

or-next : (a b c : Bool) → ((a || b) || c) ≡ (b || ((true && a) || c))
or-next true true c = refl
or-next true false c = refl
or-next false b c = or-same b c
  where
    or-same : (b c : Bool) → (b || c) ≡ (b || c)
    or-same b c = refl

pub taken-any : (index : ℕ) (done ms : List Member)
    → list_any (is_of_index index) (taken done ms)
    ≡ (list_any (is_of_index index) done
    || list_any (λ m. begins_stored m && is_of_index index m) ms)
taken-any index done [] = or-nothing (list_any (is_of_index index) done)
taken-any index done (m ∷ ms) = by (begins_stored m) refl
    (taken-any index (m ∷ done) ms) (taken-any index done ms)
  where
    any : List Member → Bool
    any list = list_any (is_of_index index) list

    later : Bool
    later = list_any (λ m. begins_stored m && is_of_index index m) ms

    left : Bool → Bool
    left b = any (if b then taken (m ∷ done) ms else taken done ms)

    right : Bool → Bool
    right b = any done || ((b && is_of_index index m) || later)

    by : (b : Bool) → begins_stored m ≡ b
        → any (taken (m ∷ done) ms) ≡ ((is_of_index index m || any done) || later)
        → any (taken done ms) ≡ (any done || later)
        → left (begins_stored m) ≡ right (begins_stored m)
    by true e with without = ap left e ∙ (with
        ∙ (or-next (is_of_index index m) (any done) later ∙ sym (ap right e)))
    by false e with without = ap left e ∙ (without ∙ sym (ap right e))

-- each Index of a member is one of the table
abbrev pub AreInside : List Member → List Member → Type 0
AreInside ms all = (index : ℕ) → list_any (is_of_index index) ms ≡ true
    → list_any (is_of_index index) all ≡ true

pub inside-rest : (m : Member) (ms all : List Member) → AreInside (m ∷ ms) all
    → AreInside ms all
inside-rest m ms all inside index found =
    inside index (or-second (is_of_index index m) (list_any (is_of_index index) ms) found)

pub inside-first : (m : Member) (ms all : List Member) → AreInside (m ∷ ms) all
    → list_any (is_of_index m.place.index) all ≡ true
inside-first m ms all inside =
    let same : is_of_index m.place.index m ≡ true = grind arith in
    inside m.place.index (or-first (is_of_index m.place.index m)
    (list_any (is_of_index m.place.index) ms) same)

-- each stored member is one of them
pub stored-taken : (all before : List Member) (row : ℕ) (ms : List Member)
    → members_fault all [] 0 all ≡ None → members_fault all before row ms ≡ None
    → AreInside ms all
    → list_all (λ m. not (is_stored m.access)
    || list_any (is_of_index m.place.index) (taken [] all)) ms ≡ true
stored-taken all before row [] sound h inside = refl
stored-taken all before row (m ∷ ms) sound h inside =
    let parts = first-stands all before row m ms h in
    let test : Member → Bool = λ m. not (is_stored m.access)
    || list_any (is_of_index m.place.index) (taken [] all) in
    and-both (test m) (list_all test ms) (by (is_stored m.access) refl parts.0)
    (stored-taken all (before ++ m ∷ []) (row + 1) ms sound parts.1
    (inside-rest m ms all inside))
  where
    by : (b : Bool) → is_stored m.access ≡ b → Stands all before m
        → (not (is_stored m.access) || list_any (is_of_index m.place.index) (taken [] all)) ≡ true
    by true e good =
        let first = first-member all [] 0 all m.place.index sound refl
        (inside-first m ms all inside) in
        let found = taken-any m.place.index [] all
        ∙ begun-stored m all e good.same first in
        or-second (not (is_stored m.access))
        (list_any (is_of_index m.place.index) (taken [] all)) found
    by false e good = or-first (not (is_stored m.access))
        (list_any (is_of_index m.place.index) (taken [] all)) (ap not e)

pub stored-places : (done : List Member) (place : Place) (ms : List Member)
    → list_all (λ m. not (is_stored m.access) || list_any (is_of_index m.place.index) done) ms
    ≡ true
    → list_all (λ m. not (selects place m) || has_stored_number m) ms ≡ true
    → list_all (λ m. not (selects place m) || list_any (is_of_index m.place.index) done) ms ≡ true
stored-places done place [] all numbers = refl
stored-places done place (m ∷ ms) all numbers =
    let stored : Member → Bool =
    λ m. not (is_stored m.access) || list_any (is_of_index m.place.index) done in
    let number : Member → Bool = λ m. not (selects place m) || has_stored_number m in
    let wanted : Member → Bool =
    λ m. not (selects place m) || list_any (is_of_index m.place.index) done in
    let a = and-parts (stored m) (list_all stored ms) all in
    let n = and-parts (number m) (list_all number ms) numbers in
    and-both (wanted m) (list_all wanted ms) (by (selects place m) refl a.0 n.0)
    (stored-places done place ms a.1 n.1)
  where
    by : (b : Bool) → selects place m ≡ b
        → (not (is_stored m.access) || list_any (is_of_index m.place.index) done) ≡ true
        → (not (selects place m) || has_stored_number m) ≡ true
        → (not (selects place m) || list_any (is_of_index m.place.index) done) ≡ true
    by true e s n =
        let number = or-then (selects place m) (has_stored_number m) n e in
        let stored : is_stored m.access ≡ true = grind (arith, number) in
        or-second (not (selects place m)) (list_any (is_of_index m.place.index) done)
        (or-then (is_stored m.access) (list_any (is_of_index m.place.index) done) s stored)
    by false e s n = or-first (not (selects place m))
        (list_any (is_of_index m.place.index) done) (ap not e)

pub whole-taken : (done : List Member) (index : ℕ) (ms : List Member)
    → list_any (is_of_index index) done ≡ true
    → list_all (λ m. not (selects (whole index) m) || list_any (is_of_index m.place.index) done) ms
    ≡ true
whole-taken done index [] h = refl
whole-taken done index (m ∷ ms) h =
    let test : Member → Bool =
    λ m. not (selects (whole index) m) || list_any (is_of_index m.place.index) done in
    and-both (test m) (list_all test ms) (by (selects (whole index) m) refl)
    (whole-taken done index ms h)
  where
    by : (b : Bool) → selects (whole index) m ≡ b
        → (not (selects (whole index) m) || list_any (is_of_index m.place.index) done) ≡ true
    by true e =
        let same = index-same index m (sym (whole-selects index m) ∙ e) in
        or-second (not (selects (whole index) m)) (list_any (is_of_index m.place.index) done)
        (ap (λ i. list_any (is_of_index i) done) same ∙ h)
    by false e = or-first (not (selects (whole index) m))
        (list_any (is_of_index m.place.index) done) (ap not e)

-- the values of two devices of a table
module _ (ms : List Member) (from prior : List (List ℕ)) (done : List Member)
    (fit-from : all_fit ms from ≡ true) (fit-prior : all_fit ms prior ≡ true)
    (stored : list_all (λ m. not (is_stored m.access)
    || list_any (is_of_index m.place.index) done) ms ≡ true) where
  -- what Data Storage reads is what was written
  pub set-same : (rest : List Member)
      → list_all (λ m. not (is_stored m.access) || list_any (is_of_index m.place.index) done) rest
      ≡ true
      → stored_set ms (mixed done ms from prior) rest ≡ stored_set ms from rest
  set-same [] all = refl
  set-same (m ∷ rest) all =
      let test : Member → Bool =
      λ m. not (is_stored m.access) || list_any (is_of_index m.place.index) done in
      let parts = and-parts (test m) (list_all test rest) all in
      by (begins_stored m) refl parts.0 (set-same rest parts.1)
    where
      place : Place
      place = whole m.place.index

      set : List (List ℕ) → Bool → List (Place × List ℕ)
      set values b =
          if b then (place, value_at ms values place) ∷ stored_set ms values rest
          else stored_set ms values rest

      by : (b : Bool) → begins_stored m ≡ b
          → (not (is_stored m.access) || list_any (is_of_index m.place.index) done) ≡ true
          → stored_set ms (mixed done ms from prior) rest ≡ stored_set ms from rest
          → set (mixed done ms from prior) (begins_stored m) ≡ set from (begins_stored m)
      by true e here more =
          let in_set = (and-parts (is_stored m.access) (nat_le m.place.sub 1) e).0 in
          let written = or-then (is_stored m.access)
          (list_any (is_of_index m.place.index) done) here in_set in
          let same = value-mixed done place ms from prior fit-from fit-prior
          (whole-taken done m.place.index ms written) in
          ap (set (mixed done ms from prior)) e
          ∙ (ap (λ v. (place, v) ∷ stored_set ms (mixed done ms from prior) rest) same
          ∙ (ap (λ l. (place, value_at ms from place) ∷ l) more ∙ sym (ap (set from) e)))
      by false e here more = ap (set (mixed done ms from prior)) e
          ∙ (more ∙ sym (ap (set from) e))

  -- and each order rule holds that held there
  pub rules-same : (row : ℕ) (rules : List OrderRule) → rules_fault ms row rules ≡ None
      → rules_hold ms rules from ≡ true → rules_hold ms rules (mixed done ms from prior) ≡ true
  rules-same row [] none holds = refl
  rules-same row (rule ∷ rules) none holds =
      let parts = fault_or-none row (rule_flaw ms rule) (rules_fault ms (row + 1) rules) none in
      let here = rule-none (is_stored_number ms rule.low) (is_stored_number ms rule.high)
      (holds_rule ms (defaults ms) rule) NoStoredNumber BrokenAtFirst parts.0 in
      let held = and-parts (holds_rule ms from rule) (rules_hold ms rules from) holds in
      let numbers = λ (place : Place).
      list_all (λ m. not (selects place m) || has_stored_number m) ms in
      let low = value-mixed done rule.low ms from prior fit-from fit-prior
      (stored-places done rule.low ms stored
      (stored-all (count_by (selects rule.low) ms == 1) (numbers rule.low) here.0)) in
      let high = value-mixed done rule.high ms from prior fit-from fit-prior
      (stored-places done rule.high ms stored
      (stored-all (count_by (selects rule.high) ms == 1) (numbers rule.high) here.1)) in
      let same : holds_rule ms (mixed done ms from prior) rule ≡ holds_rule ms from rule
      = ap (λ (v : List ℕ). nat_le (big_endian v)
      (big_endian (value_at ms (mixed done ms from prior) rule.high))) low
      ∙ ap (λ (v : List ℕ). nat_le (big_endian (value_at ms from rule.low))
      (big_endian v)) high in
      and-both (holds_rule ms (mixed done ms from prior) rule)
      (rules_hold ms rules (mixed done ms from prior)) (same ∙ held.0)
      (rules-same (row + 1) rules parts.1 held.1)

-- a refusal has four reasons
pub four-none : (a b c d : Option ErrorType) → a ≡ None → b ≡ None → c ≡ None → d ≡ None
    → first_refusal a (first_refusal b (first_refusal c d)) ≡ None
four-none a b c d p q r t = rw (p, q, r, t) refl

none-if : (a b : Bool) (x y : ErrorType) → a ≡ true → b ≡ true
    → (if not a then Some x else if not b then Some y else None) ≡ None
none-if a b x y h k = rw (h, k) refl

none-access : (a b c : Bool) (x y : ErrorType) → a ≡ false → b ≡ false → c ≡ false
    → (if a || b then Some x else if c then Some y else None) ≡ None
none-access a b c x y h k l = rw (h, k, l) refl

none-content : (a b c : Bool) (x y z : ErrorType) → a ≡ false → b ≡ false → c ≡ true
    → (if a then Some x else if b then Some y else if not c then Some z else None) ≡ None
none-content a b c x y z h k l = rw (h, k, l) refl

module _ (table : ParamTable) (from to : ParamState)
    (sound : table_fault table.members table.rules ≡ None)
    (fit-from : all_fit table.members from.values ≡ true)
    (fit-to : all_fit table.members to.values ≡ true)
    (unlocked : to.locks.parameters ≡ false) where
  abbrev rows : List Member
  rows = table.members

  abbrev at : List Member → ParamState
  at done = downloading to Storage AllTaken (mixed done rows from.values to.values)

  members-sound : members_fault rows [] 0 rows ≡ None
  members-sound = (table-none rows table.rules sound).0

  -- a write of a parameter that is stored is taken
  pub set-taken : (before : List Member) (m : Member) (done : List Member) → Stands rows before m
      → is_stored m.access ≡ true → list_any (is_of_index m.place.index) rows ≡ true
      → write_refusal table (at done) (whole m.place.index)
      (value_at rows from.values (whole m.place.index)) ≡ None
  set-taken before m done good stored found =
      let place = whole m.place.index in
      let octets = value_at rows from.values place in
      let long = value-length rows from.values place fit-from in
      let least = least-length rows from.values place fit-from in
      let not-long : nat_lt (most_at rows place) (length octets) ≡ false = grind (arith, long) in
      let not-short : nat_lt (length octets) (least_at rows place) ≡ false = grind (arith, least) in
      let fits = parses-fit place rows from.values fit-from
      (whole-parses rows from.values m.place.index members-sound fit-from) in
      four-none (place_refusal rows place) (access_refusal table (at done) place)
      (content_refusal rows place octets) (alone_refusal table (at done) place octets)
      (none-if (list_any (is_of_index m.place.index) rows) (list_any (selects place) rows)
      IndexNotAvailable SubindexNotAvailable found
      (any-whole rows m.place.index ∙ found))
      (none-access to.locks.parameters (list_any (is_read_only_at place) rows) false
      AccessDenied FunctionUnavailable unlocked
      (no-read_only m rows stored good.same) refl)
      (none-content (nat_lt (most_at rows place) (length octets))
      (nat_lt (length octets) (least_at rows place)) (fits_place rows place octets)
      TooLong TooShort ValueOutOfRange not-long not-short fits)
      refl

  pub set-step : (before : List Member) (m : Member) (done : List Member) → Stands rows before m
      → is_stored m.access ≡ true → list_any (is_of_index m.place.index) rows ≡ true
      → write table (at done) (whole m.place.index)
      (value_at rows from.values (whole m.place.index)) ≡ (None, at (m ∷ done))
  set-step before m done good stored found =
      let place = whole m.place.index in
      let octets = value_at rows from.values place in
      let put : List (List ℕ) → Option ErrorType × ParamState =
      λ copy. (None, downloading to Storage AllTaken copy) in
      ap (λ (r : Option ErrorType). write_settled r table (at done) place octets)
      (set-taken before m done good stored found)
      ∙ ap put (overlay-mixed done m rows from.values to.values fit-from fit-to
      (whole-parses rows from.values m.place.index members-sound fit-from))

  -- so are all of them
  pub set-written : (before : List Member) (row : ℕ) (rest done : List Member)
      → members_fault rows before row rest ≡ None → AreInside rest rows
      → (after_changes table (at done) (writings (stored_set rows from.values rest))
      ≡ at (taken done rest))
      × (all_written table (at done) (writings (stored_set rows from.values rest)) ≡ true)
  set-written before row [] done h inside = (refl, refl)
  set-written before row (m ∷ rest) done h inside =
      let parts = first-stands rows before row m rest h in
      by (begins_stored m) refl
      (λ in_set. set-step before m done parts.0 in_set (inside-first m rest rows inside))
      (λ next. set-written (before ++ m ∷ []) (row + 1) rest next parts.1
      (inside-rest m rest rows inside))
    where
      place : Place
      place = whole m.place.index

      octets : List ℕ
      octets = value_at rows from.values place

      more : List (Place × List ℕ)
      more = stored_set rows from.values rest

      later : List ParamChange
      later = writings more

      set : Bool → List ParamChange
      set b = writings (if b then (place, octets) ∷ more else more)

      last : Bool → ParamState
      last b = at (if b then taken (m ∷ done) rest else taken done rest)

      by : (b : Bool) → begins_stored m ≡ b
          → (is_stored m.access ≡ true → write table (at done) place octets ≡ (None, at (m ∷ done)))
          → ((next : List Member) → (after_changes table (at next) later ≡ at (taken next rest))
          × (all_written table (at next) later ≡ true))
          → (after_changes table (at done) (set (begins_stored m)) ≡ last (begins_stored m))
          × (all_written table (at done) (set (begins_stored m)) ≡ true)
      by true e step all =
          let in_set = (and-parts (is_stored m.access) (nat_le m.place.sub 1) e).0 in
          let now = step in_set in
          let left = all (m ∷ done) in (
            ap (λ (b : Bool). after_changes table (at done) (set b)) e
                ∙ (ap (λ (r : Option ErrorType × ParamState). after_changes table r.1 later) now
                ∙ (left.0 ∙ sym (ap last e))),
            ap (λ (b : Bool). all_written table (at done) (set b)) e
                ∙ (ap (λ (r : Option ErrorType × ParamState).
                is_none r.0 && all_written table r.1 later) now ∙ left.1),
          )
      by false e step all =
          let left = all done in (
            ap (λ (b : Bool). after_changes table (at done) (set b)) e ∙ (left.0 ∙ sym (ap last e)),
            ap (λ (b : Bool). all_written table (at done) (set b)) e ∙ left.1,
          )

pub foreign-none : (to : ParamState) → is_at_rest to.activity ≡ true
    → is_foreign Storage to.activity ≡ false
foreign-none to h = ap (λ (b : Bool). not b && not (is_in Storage to.activity)) h

pub sets-fit : SetsFit
sets-fit table from to sound a b resting unlocked =
    let ms = table.members in
    let parts = table-none ms table.rules sound in
    let all = set-written table from to sound a.fit b.fit unlocked [] 0 ms [] parts.0
    (λ index found. found) in
    let done = taken [] ms in
    let new = mixed done ms from.values to.values in
    let stored = stored-taken ms [] 0 ms parts.0 parts.0 (λ index found. found) in
    let set = set_of table from in
    let at : List (List ℕ) → ParamState = λ copy. downloading to Storage AllTaken copy in
    let own : ParamState → Option ErrorType × ParamState =
    λ (s : ParamState). command table s Storage DownloadEnd in
    let begun : command table to Storage DownloadStart ≡ (None, at to.values)
    = ap (λ (f : Bool). unless_foreign f to (own_command table to Storage DownloadStart))
    (foreign-none to resting) in
    let first : at to.values ≡ at (mixed [] ms from.values to.values)
    = ap at (sym (mixed-none ms from.values to.values a.fit b.fit)) in
    let start : (command table to Storage DownloadStart).1
    ≡ at (mixed [] ms from.values to.values)
    = ap (λ (r : Option ErrorType × ParamState). r.1) begun ∙ first in
    let inside : after_changes table (command table to Storage DownloadStart).1 (writings set)
    ≡ at new = ap (λ (s : ParamState). after_changes table s (writings set)) start ∙ all.0 in
    let holds : is_consistent table new ≡ true
    = rules-same ms from.values to.values done a.fit b.fit stored 0 table.rules parts.1 a.rules in
    let last : ParamState = with_flag_cleared Storage (after_end (record to { values = new })) in
    let ends : own (at new) ≡ (
      None,
      with_flag_cleared Storage
          (after_end (record (at new) { values = new })),
    )
    = ap (λ (c : Bool). download_settled (at new).activity c (at new)
    (with_flag_cleared Storage)) holds in
    let done-now = ap own inside ∙ ends in
    let values = ap (λ (r : Option ErrorType × ParamState). r.1.values) done-now in
    let same = ap (λ (v : List (List ℕ)). stored_set ms v ms) values
    ∙ set-same ms from.values to.values done a.fit b.fit stored ms stored in
    record {
      begins = ap (λ (r : Option ErrorType × ParamState). r.0) begun;
      written = ap (λ (s : ParamState). all_written table s (writings set)) start ∙ all.1;
      ends = ap (λ (r : Option ErrorType × ParamState). r.0) done-now;
      same = same;
      checksum =
          let octets : ParamState → List ℕ = λ (s : ParamState). set_octets ms s.values ms in
          ap crc32 (set-entries ms (own (after_changes table
          (command table to Storage DownloadStart).1 (writings set))).1.values ms
          ∙ (ap entries_of same ∙ sym (set-entries ms from.values ms)));
    }
