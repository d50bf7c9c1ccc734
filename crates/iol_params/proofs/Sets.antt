-- A set of one device fits each device of its table.
-- For the clauses of `laws::cut_offs_stay_out`, `laws::downloads_are_whole`, `laws::sets_fit` and
--     2 more.
use Rattle.std.specs.Prelude.{if◌then◌else◌, ◌&&◌, ◌||◌, not, length, count_by, ◌+◌, cond}
use Rattle.std.specs.List.{list_all}
use Rattle.std.proofs.Common.{◌≡◌, ◌≤◌, ℕ, Bool, true, false, refl, List, [], ◌∷◌, ◌++◌, ap, sym, ◌∙◌, arith, take, drop}
use Rattle.std.proofs.lemmas.Grind.{common_steps}
use Rattle.std.proofs.lemmas.List.Recursion.{is_count_by}
use Rattle.std.proofs.lemmas.List.{append-nil, length-append, take_at, drop_at, take_all, drop_all}
use Rattle.iol_isdu.specs.declared.values.Place.{Place}
use Rattle.iol_params.specs.declared.member.Member.{Member}
use Rattle.iol_params.specs.declared.member.DataType.{DataType}
use Rattle.iol_params.specs.declared.member.DataType.TheVariants.{UInteger, OctetString, Text}
use Rattle.iol_params.specs.Members.{fits_type, longest, selects}
use Rattle.iol_params.specs.Values.{all_fit, value_at, fits_place, most_of, least_at}
use Rattle.iol_params.specs.Table.{whole, may_stand, begins_stored}
use Rattle.iol_params.specs.Storage.{set_entry, set_octets}
use Rattle.iol_params.specs.Laws.{stored_set}
use Rattle.iol_params.proofs.Consistency.{and-both}

pub and-parts : (a b : Bool) → (a && b) ≡ true → (a ≡ true) × (b ≡ true)
and-parts true true h = (refl, refl)
and-parts true false h = absurd (cc)
and-parts false b h = absurd (cc)

pub or-parts : (a b : Bool) → (a || b) ≡ false → (a ≡ false) × (b ≡ false)
or-parts false false h = (refl, refl)
or-parts false true h = absurd (cc)
or-parts true b h = absurd (cc)

pub or-first : (a b : Bool) → a ≡ true → (a || b) ≡ true
or-first a b h = ap (λ (c : Bool). c || b) h

pub or-second : (a b : Bool) → b ≡ true → (a || b) ≡ true
or-second true b h = refl
or-second false b h = h

pub or-then : (a b : Bool) → (not a || b) ≡ true → a ≡ true → b ≡ true
or-then true b h k = h
or-then false b h k = absurd (cc)

-- whether a value of this type has one length
abbrev pub is_fixed : DataType → Bool
is_fixed (UInteger width least most) = true
is_fixed (OctetString count) = true
is_fixed (Text count) = false

pub fits-short : (kind : DataType) (v : List ℕ) → fits_type kind v ≡ true
    → length v ≤ longest kind
fits-short kind v h = grind (arith, common_steps)

pub fixed-length : (kind : DataType) (v : List ℕ) → is_fixed kind ≡ true
    → fits_type kind v ≡ true → length v ≡ longest kind
fixed-length (UInteger width least most) v f h = grind (arith, common_steps)
fixed-length (OctetString count) v f h = grind (arith, common_steps)
fixed-length (Text count) v f h = absurd (cc)

pub stands-fixed : (kind : DataType) (sub : ℕ) → may_stand kind (sub + 1) ≡ true
    → is_fixed kind ≡ true
stands-fixed (UInteger width least most) sub h = refl
stands-fixed (OctetString count) sub h = refl
stands-fixed (Text count) sub h = grind (arith, common_steps)

-- what is read at a place can be told apart again
abbrev pub Parses : Place → List Member → List (List ℕ) → Type 0
Parses place [] values = Unit {0}
Parses place (m ∷ ms) [] = Unit {0}
Parses place (m ∷ ms) (v ∷ values) = (selects place m ≡ true
    → (take (most_of m) (v ++ value_at ms values place) ≡ v)
    × (drop (most_of m) (v ++ value_at ms values place) ≡ value_at ms values place))
    × Parses place ms values

pub fixed-parses : (place : Place) (ms : List Member) (values : List (List ℕ))
    → all_fit ms values ≡ true
    → list_all (λ m. not (selects place m) || is_fixed m.data_type) ms ≡ true
    → Parses place ms values
fixed-parses place [] values fit fixed = tt
fixed-parses place (m ∷ ms) [] fit fixed = tt
fixed-parses place (m ∷ ms) (v ∷ values) fit fixed =
    let fits = and-parts (fits_type m.data_type v) (all_fit ms values) fit in
    let test : Member → Bool = λ m. not (selects place m) || is_fixed m.data_type in
    let all = and-parts (test m) (list_all test ms) fixed in
    let rest = value_at ms values place in (
      λ here.
          let long : length v ≡ most_of m = fixed-length m.data_type v
          (or-then (selects place m) (is_fixed m.data_type) all.0 here) fits.0 in
          (take_at v rest (most_of m) long, drop_at v rest (most_of m) long),
      fixed-parses place ms values fits.1 all.1,
    )

abbrev counted : (Member → Bool) → List Member → ℕ
counted p [] = 0
counted p (m ∷ ms) = cond (p m) (1 + counted p ms) (counted p ms)

-- one member more
pub count-first : (p : Member → Bool) (m : Member) (ms : List Member)
    → count_by p (m ∷ ms) ≡ cond (p m) (1 + count_by p ms) (count_by p ms)
count-first p m ms =
    let same = is_count_by (counted p) p refl (λ x xs. refl) in
    sym (same (m ∷ ms)) ∙ ap (λ (n : ℕ). cond (p m) (1 + n) n) (same ms)

pub count-none : (b : Bool) (n : ℕ) → cond b (1 + n) n ≡ 0 → (b ≡ false) × (n ≡ 0)
count-none true n h = absurd (omega (arith, h))
count-none false n h = (refl, h)

pub count-rest : (b : Bool) (n : ℕ) → cond b (1 + n) n ≡ 1 → b ≡ true → n ≡ 0
count-rest true n h k = omega (arith, h)
count-rest false n h k = absurd (cc)

pub count-later : (b : Bool) (n : ℕ) → cond b (1 + n) n ≡ 1 → b ≡ false → n ≡ 1
count-later true n h k = absurd (cc)
count-later false n h k = h

pub none-parses : (place : Place) (ms : List Member) (values : List (List ℕ))
    → count_by (selects place) ms ≡ 0
    → (value_at ms values place ≡ []) × Parses place ms values
none-parses place [] values none = (refl, tt)
none-parses place (m ∷ ms) [] none = (refl, tt)
none-parses place (m ∷ ms) (v ∷ values) none =
    let parts = count-none (selects place m) (count_by (selects place) ms)
    (sym (count-first (selects place) m ms) ∙ none) in
    let rest = none-parses place ms values parts.1 in (
      ap (λ (b : Bool). if b then v ++ value_at ms values place else value_at ms values place)
          parts.0 ∙ rest.0,
      (λ here. absurd (cc), rest.1),
    )

pub one-parses : (place : Place) (ms : List Member) (values : List (List ℕ))
    → all_fit ms values ≡ true → count_by (selects place) ms ≡ 1 → Parses place ms values
one-parses place [] values fit one = tt
one-parses place (m ∷ ms) [] fit one = tt
one-parses place (m ∷ ms) (v ∷ values) fit one =
    let fits = and-parts (fits_type m.data_type v) (all_fit ms values) fit in
    let later = count_by (selects place) ms in
    let counts = sym (count-first (selects place) m ms) ∙ one in
    by (selects place m) refl fits.0
    (λ here. none-parses place ms values (count-rest (selects place m) later counts here))
    (λ other. one-parses place ms values fits.1 (count-later (selects place m) later counts other))
  where
    by : (b : Bool) → selects place m ≡ b → fits_type m.data_type v ≡ true
        → (selects place m ≡ true → (value_at ms values place ≡ []) × Parses place ms values)
        → (selects place m ≡ false → Parses place ms values)
        → Parses place (m ∷ ms) (v ∷ values)
    by true e fits last more =
        let none = (last e).0 in
        let most = most_of m in
        let short : length v ≤ most = fits-short m.data_type v fits in (
          λ here. (
            ap (λ l. take most (v ++ l)) none
                ∙ (ap (take most) (append-nil v) ∙ take_all most v short),
            ap (λ l. drop most (v ++ l)) none
                ∙ (ap (drop most) (append-nil v) ∙ (drop_all most v short ∙ sym none)),
          ),
          (last e).1,
        )
    by false e fits last more = (λ here. absurd (cc), more e)

-- so they are values of the place again
pub parses-fit : (place : Place) (ms : List Member) (values : List (List ℕ))
    → all_fit ms values ≡ true → Parses place ms values
    → fits_place ms place (value_at ms values place) ≡ true
parses-fit place [] values fit parses = refl
parses-fit place (m ∷ ms) [] fit parses = absurd (cc)
parses-fit place (m ∷ ms) (v ∷ values) fit parses =
    let fits = and-parts (fits_type m.data_type v) (all_fit ms values) fit in
    by (selects place m) refl fits.0 (parses-fit place ms values fits.1 parses.1) parses.0
  where
    rest : List ℕ
    rest = value_at ms values place

    most : ℕ
    most = most_of m

    joined : Bool → Bool
    joined b =
        if b then fits_type m.data_type (take most (if b then v ++ rest else rest))
        && fits_place ms place (drop most (if b then v ++ rest else rest))
        else fits_place ms place (if b then v ++ rest else rest)

    by : (b : Bool) → selects place m ≡ b → fits_type m.data_type v ≡ true
        → fits_place ms place rest ≡ true
        → (selects place m ≡ true → (take most (v ++ rest) ≡ v) × (drop most (v ++ rest) ≡ rest))
        → joined (selects place m) ≡ true
    by true e fits more parts =
        let got = parts e in
        ap joined e ∙ (ap (λ l. fits_type m.data_type l
        && fits_place ms place (drop most (v ++ rest))) got.0
        ∙ (ap (λ l. fits_type m.data_type v && fits_place ms place l) got.1
        ∙ and-both (fits_type m.data_type v) (fits_place ms place rest) fits more))
    by false e fits more parts = ap joined e ∙ more

pub least-length : (ms : List Member) (values : List (List ℕ)) (place : Place)
    → all_fit ms values ≡ true → least_at ms place ≤ length (value_at ms values place)
least-length [] values place fit = omega arith
least-length (m ∷ ms) [] place fit = absurd (cc)
least-length (m ∷ ms) (v ∷ values) place fit = grind (
  arith,
  common_steps,
  least-length ms values place,
  length-append v (value_at ms values place),
)

-- what the checksum is over, by the set
abbrev pub entries_of : List (Place × List ℕ) → List ℕ
entries_of [] = []
entries_of (w ∷ ws) = set_entry w.0.index w.1 ++ entries_of ws

pub set-entries : (ms : List Member) (values : List (List ℕ)) (rest : List Member)
    → set_octets ms values rest ≡ entries_of (stored_set ms values rest)
set-entries ms values [] = refl
set-entries ms values (m ∷ rest) = by (begins_stored m) refl (set-entries ms values rest)
  where
    place : Place
    place = whole m.place.index

    more : List (Place × List ℕ)
    more = stored_set ms values rest

    left : Bool → List ℕ
    left b =
        if b then set_entry m.place.index (value_at ms values place)
        ++ set_octets ms values rest
        else set_octets ms values rest

    right : Bool → List ℕ
    right b = entries_of (if b then (place, value_at ms values place) ∷ more else more)

    by : (b : Bool) → begins_stored m ≡ b → set_octets ms values rest ≡ entries_of more
        → left (begins_stored m) ≡ right (begins_stored m)
    by true e same = ap left e
        ∙ (ap (λ l. set_entry m.place.index (value_at ms values place) ++ l) same
        ∙ sym (ap right e))
    by false e same = ap left e ∙ (same ∙ sym (ap right e))
