-- How values lie in their cells.
-- For the clauses of `cells::read_into`, `cells::reset`, `cells::set_defaults` and 2 more.
use Rattle.std.proofs.Common.{true, false, get_or, ◌≡◌, ℕ, ◌+◌, ◌-◌, ◌≤◌, ◌<◌, refl, List, [], ◌∷◌, ◌++◌, ap, arith, drop, take, length, ◌∙◌, sym, min}
use Rattle.std.proofs.lemmas.Grind.{common_steps}
use Rattle.std.proofs.lemmas.List.{append_assoc, drop-drop, drop-take, drop_at, take_at, take-take, length-append, length-drop, length-take, length-take-le, take_more, drop_more}
use Rattle.std.proofs.Math.Seq.{take-append_seam}
use Rattle.iol_params.specs.declared.member.Member.{Member}
use Rattle.iol_isdu.specs.declared.values.Place.{Place}
use Rattle.iol_params.specs.declared.member.DataType.TheVariants.{UInteger}
use Rattle.iol_params.specs.declared.member.IntegerWidth.TheVariants.{One}
use Rattle.iol_params.specs.declared.member.Access.TheVariants.{ReadOnly}
use Rattle.iol_params.specs.Members.{selects}
use Rattle.iol_params.specs.Values.{room_for, values_in, cell_value, most_of, all_fit, defaults, reset_values, overlay, is_writable, value_at}

-- what indexing answers beyond the members
abbrev pub no_member : Member
no_member = record {
  place = record { index = 0; sub = 0 };
  data_type = UInteger One 0 0;
  access = ReadOnly;
  default = record { ref_ptr = (0, 0); now = [] };
}

-- the cells once a value was put into the one that begins there
abbrev pub cells_with : ℕ → List ℕ → List ℕ → List ℕ
cells_with at value cells =
    take at cells ++ (length value ∷ value) ++ drop (at + 1 + length value) cells

module _ (at n : ℕ) (cells value : List ℕ) (room : at + 1 + n ≤ length cells)
    (short : length value ≤ n) where
  -- the parts of it
  front_length : length (take at cells) ≡ at
  front_length = length-take-le at cells (omega arith)

  both_length : length (take at cells ++ (length value ∷ value)) ≡ at + 1 + length value
  both_length =
      omega (arith, length-append (take at cells) (length value ∷ value), front_length)

  joined : cells_with at value cells
      ≡ take at cells ++ ((length value ∷ value) ++ drop (at + 1 + length value) cells)
  joined = append_assoc (take at cells) (length value ∷ value) (drop (at + 1 + length value) cells)

  pub cells_with-length : length (cells_with at value cells) ≡ length cells
  cells_with-length = omega (
    arith,
    length-append (take at cells ++ (length value ∷ value)) (drop (at + 1 + length value) cells),
    both_length,
    length-drop (at + 1 + length value) cells,
  )

  pub cells_with-front : take at (cells_with at value cells) ≡ take at cells
  cells_with-front = ap (take at) joined ∙ take_at (take at cells) _ at front_length

  pub cells_with-here : drop at (cells_with at value cells)
      ≡ (length value ∷ value) ++ drop (at + 1 + length value) cells
  cells_with-here = ap (drop at) joined ∙ drop_at (take at cells) _ at front_length

  pub cells_with-value : cell_value n (drop at (cells_with at value cells)) ≡ value
  cells_with-value =
      let least : min (length value) n ≡ length value = omega arith in
      let rest = drop (at + 1 + length value) cells in
      let cell : List ℕ → List ℕ = λ octets. cell_value n octets in
      let first : ℕ → List ℕ = λ k. take k (value ++ rest) in
      ap cell cells_with-here ∙ (ap first least ∙ take-append_seam value rest)

  pub cells_with-rest : drop (at + 1 + n) (cells_with at value cells) ≡ drop (at + 1 + n) cells
  cells_with-rest =
      let more = n - length value in
      let behind = at + 1 + length value in
      let split : at + 1 + n ≡ behind + more = omega arith in
      let new : ℕ → List ℕ = λ k. drop k (cells_with at value cells) in
      let old : ℕ → List ℕ = λ k. drop k cells in
      ap new split ∙ (sym (drop-drop more behind (cells_with at value cells))
      ∙ (ap (drop more) (drop_at _ (drop behind cells) behind both_length)
      ∙ (drop-drop more behind cells ∙ sym (ap old split))))

-- a cell is what it is, whatever follows
pub cell_value-take : (most k : ℕ) (cells : List ℕ)
    → cell_value most (take (1 + most + k) cells) ≡ cell_value most cells
cell_value-take most k [] = grind (arith, common_steps)
cell_value-take most k (size ∷ cells) =
    let count : 1 + most + k ≡ (most + k) + 1 = omega arith in
    let few : min size most ≤ most + k = omega arith in
    grind (arith, common_steps, count, take-take (min size most) (most + k) cells few)

pub values_in-take : (ms : List Member) (k : ℕ) (cells : List ℕ)
    → values_in ms (take (room_for ms + k) cells) ≡ values_in ms cells
values_in-take [] k cells = refl
values_in-take (m ∷ ms) k cells =
    let size = 1 + most_of m in
    let count : size + room_for ms + k ≡ size + (room_for ms + k) = omega arith in
    grind (
      arith,
      count,
      cell_value-take (most_of m) (room_for ms + k) cells,
      drop-take size (room_for ms + k) cells,
      values_in-take ms k (drop size cells),
    )

-- the first members have the same values in cells that begin alike
pub values_in-front : (ms : List Member) (new old : List ℕ)
    → take (room_for ms) new ≡ take (room_for ms) old → values_in ms new ≡ values_in ms old
values_in-front ms new old same =
    let none : room_for ms + 0 ≡ room_for ms = omega arith in
    grind (arith, none, same, values_in-take ms 0 new, values_in-take ms 0 old)

-- one member more
pub values_in-append : (ms : List Member) (m : Member) (cells : List ℕ)
    → values_in (ms ++ m ∷ []) cells
    ≡ values_in ms cells ++ cell_value (most_of m) (drop (room_for ms) cells) ∷ []
values_in-append [] m cells = refl
values_in-append (first ∷ ms) m cells = grind (
  arith,
  common_steps,
  values_in-append ms m (drop (1 + most_of first) cells),
  drop-drop (room_for ms) (1 + most_of first) cells,
)

module _ (ms : List Member) (m : Member) (cells : List ℕ) (tail : List (List ℕ)) where
  -- what is in front, once the next cell has this value
  pub put-step : (value : List ℕ) → room_for ms + 1 + most_of m ≤ length cells
      → length value ≤ most_of m
      → values_in (ms ++ m ∷ []) (cells_with (room_for ms) value cells) ++ tail
      ≡ values_in ms cells ++ (value ∷ tail)
  put-step value room short =
      let here = room_for ms in
      let n = most_of m in
      let new = cells_with here value cells in
      grind (
        arith,
        common_steps,
        append_assoc (values_in ms cells) (value ∷ []) tail,
        values_in-append ms m new,
        values_in-front ms new cells (cells_with-front here n cells value room short),
        cells_with-value here n cells value room short,
      )

  -- and once it stays as it is
  pub keep-step : values_in (ms ++ m ∷ []) cells ++ tail
      ≡ values_in ms cells ++ (cell_value (most_of m) (drop (room_for ms) cells) ∷ tail)
  keep-step = grind (
    arith,
    common_steps,
    append_assoc (values_in ms cells)
        (cell_value (most_of m) (drop (room_for ms) cells) ∷ []) tail,
    values_in-append ms m cells,
  )

room_for-append : (ms : List Member) (m : Member)
    → room_for (ms ++ m ∷ []) ≡ room_for ms + (1 + most_of m)
room_for-append [] m = omega arith
room_for-append (first ∷ ms) m = omega (arith, room_for-append ms m)

-- one member on in the cells: `m` is the one with this index
module _ (ms : List Member) (i at : ℕ) (none : Member) (cells : List ℕ)
    (within : i < length ms) (front : at ≡ room_for (take i ms))
    (room : at + room_for (drop i ms) ≡ length cells) where
  abbrev m : Member
  m = get_or ms i none

  abbrev rest : List Member
  rest = drop (i + 1) ms

  left : drop i ms ≡ m ∷ rest
  left = drop_more ms i none within

  more : take (i + 1) ms ≡ take i ms ++ m ∷ []
  more = take_more ms i none within

  size : room_for (drop i ms) ≡ 1 + most_of m + room_for rest
  size = ap room_for left

  pub room-more : at + (1 + most_of m) + room_for rest ≡ length cells
  room-more = omega (arith, size)

  pub front-more : at + (1 + most_of m) ≡ room_for (take (i + 1) ms)
  front-more = omega (arith, ap room_for more, room_for-append (take i ms) m)

  fits-here : at + 1 + most_of m ≤ length cells
  fits-here = omega (arith, size)

  pub length-put : (value : List ℕ) → length value ≤ most_of m
      → length (cells_with at value cells) ≡ length cells
  length-put value short = cells_with-length at (most_of m) cells value fits-here short

  pub put-more : (value : List ℕ) (tail : List (List ℕ)) → length value ≤ most_of m
      → values_in (take (i + 1) ms) (cells_with at value cells) ++ tail
      ≡ values_in (take i ms) cells ++ (value ∷ tail)
  put-more value tail short =
      let new : ℕ → List Member → List (List ℕ) =
      λ place members. values_in members (cells_with place value cells) ++ tail in
      ap (new at) more ∙ (ap (λ place. new place (take i ms ++ m ∷ [])) front
      ∙ put-step (take i ms) m cells tail value (omega (arith, size)) short)

  pub keep-more : (tail : List (List ℕ))
      → values_in (take (i + 1) ms) cells ++ tail
      ≡ values_in (take i ms) cells ++ (cell_value (most_of m) (drop at cells) ∷ tail)
  keep-more tail =
      ap (λ members. values_in members cells ++ tail) more
      ∙ (keep-step (take i ms) m cells tail
      ∙ ap (λ place. values_in (take i ms) cells
      ++ (cell_value (most_of m) (drop place cells) ∷ tail)) (sym front))

  behind : at + 1 + most_of m ≡ at + (1 + most_of m)
  behind = omega arith

  pub rest-put : (value : List ℕ) → length value ≤ most_of m
      → drop (at + (1 + most_of m)) (cells_with at value cells)
      ≡ drop (1 + most_of m) (drop at cells)
  rest-put value short =
      ap (λ k. drop k (cells_with at value cells)) (sym behind)
      ∙ (cells_with-rest at (most_of m) cells value fits-here short
      ∙ (ap (λ k. drop k cells) behind ∙ sym (drop-drop (1 + most_of m) at cells)))

  pub rest-same : drop (at + (1 + most_of m)) cells ≡ drop (1 + most_of m) (drop at cells)
  rest-same = sym (drop-drop (1 + most_of m) at cells)

  -- the defaults
  pub defaults-fit : all_fit (drop i ms) (defaults (drop i ms)) ≡ true
      → (length m.default.now ≤ most_of m) × (all_fit rest (defaults rest) ≡ true)
  defaults-fit fit = fit-parts m.default.now (defaults rest)
      (sym (ap (λ members. all_fit members (defaults members)) left) ∙ fit)
    where
      fit-parts : (v : List ℕ) (vs : List (List ℕ)) → all_fit (m ∷ rest) (v ∷ vs) ≡ true
          → (length v ≤ most_of m) × (all_fit rest vs ≡ true)
      fit-parts v vs h = (grind (arith, common_steps), grind (arith, common_steps))

  pub defaults-more : length m.default.now ≤ most_of m
      → values_in (take (i + 1) ms) (cells_with at m.default.now cells) ++ defaults rest
      ≡ values_in (take i ms) cells ++ defaults (drop i ms)
  defaults-more short = put-more m.default.now (defaults rest) short
      ∙ ap (λ members. values_in (take i ms) cells ++ defaults members) (sym left)

  -- a reset
  abbrev reset_left : List Member → List ℕ → List (List ℕ)
  reset_left members octets = reset_values members (values_in members octets)

  pub reset-put : is_writable m.access ≡ true → length m.default.now ≤ most_of m
      → values_in (take (i + 1) ms) (cells_with at m.default.now cells)
      ++ reset_left rest (drop (at + (1 + most_of m)) (cells_with at m.default.now cells))
      ≡ values_in (take i ms) cells ++ reset_left (drop i ms) (drop at cells)
  reset-put writable short =
      let tail : List ℕ → List (List ℕ) = λ octets. reset_left rest octets in
      put-more m.default.now (tail (drop (at + (1 + most_of m))
      (cells_with at m.default.now cells))) short
      ∙ (ap (λ octets. values_in (take i ms) cells ++ (m.default.now ∷ tail octets))
      (rest-put m.default.now short)
      ∙ sym (ap (λ members. values_in (take i ms) cells ++ reset_left members (drop at cells)) left
      ∙ rw writable refl))

  pub reset-keep : is_writable m.access ≡ false
      → values_in (take (i + 1) ms) cells
      ++ reset_left rest (drop (at + (1 + most_of m)) cells)
      ≡ values_in (take i ms) cells ++ reset_left (drop i ms) (drop at cells)
  reset-keep fixed =
      let tail : List ℕ → List (List ℕ) = λ octets. reset_left rest octets in
      keep-more (tail (drop (at + (1 + most_of m)) cells))
      ∙ (ap (λ octets. values_in (take i ms) cells
      ++ (cell_value (most_of m) (drop at cells) ∷ tail octets)) rest-same
      ∙ sym (ap (λ members. values_in (take i ms) cells ++ reset_left members (drop at cells)) left
      ∙ rw fixed refl))

  -- a write
  module _ (place : Place) (octets : List ℕ) where
    abbrev written : List Member → List ℕ → List ℕ → List (List ℕ)
    written members prior new = overlay members (values_in members prior) place new

    pub write-put : selects place m ≡ true
        → length (take (most_of m) octets) ≤ most_of m
        → values_in (take (i + 1) ms) (cells_with at (take (most_of m) octets) cells)
        ++ written rest (drop (at + (1 + most_of m))
        (cells_with at (take (most_of m) octets) cells)) (drop (most_of m) octets)
        ≡ values_in (take i ms) cells ++ written (drop i ms) (drop at cells) octets
    write-put here short =
        let value = take (most_of m) octets in
        let tail : List ℕ → List (List ℕ) =
        λ prior. written rest prior (drop (most_of m) octets) in
        put-more value (tail (drop (at + (1 + most_of m)) (cells_with at value cells))) short
        ∙ (ap (λ prior. values_in (take i ms) cells ++ (value ∷ tail prior)) (rest-put value short)
        ∙ sym (ap (λ members. values_in (take i ms) cells
        ++ written members (drop at cells) octets) left ∙ rw here refl))

    pub write-keep : selects place m ≡ false
        → values_in (take (i + 1) ms) cells
        ++ written rest (drop (at + (1 + most_of m)) cells) octets
        ≡ values_in (take i ms) cells ++ written (drop i ms) (drop at cells) octets
    write-keep other =
        let tail : List ℕ → List (List ℕ) = λ prior. written rest prior octets in
        keep-more (tail (drop (at + (1 + most_of m)) cells))
        ∙ (ap (λ prior. values_in (take i ms) cells
        ++ (cell_value (most_of m) (drop at cells) ∷ tail prior)) rest-same
        ∙ sym (ap (λ members. values_in (take i ms) cells
        ++ written members (drop at cells) octets) left ∙ rw other refl))

-- what is put behind what was there before is no longer than all of it
pub within-whole : (prior value tail whole : List ℕ) (most : ℕ) → prior ++ (value ++ tail) ≡ whole
    → length whole ≤ most → length prior + length value ≤ most
within-whole prior value tail whole most e h =
    omega (arith, ap length e, length-append prior (value ++ tail), length-append value tail)

module _ (ms : List Member) (i : ℕ) (none : Member) (place : Place) (within : i < length ms)
    (here : selects place (get_or ms i none) ≡ true) where
  -- what is read at a place from here on
  pub read-here : (cells : List ℕ)
      → value_at (drop i ms) (values_in (drop i ms) cells) place
      ≡ cell_value (most_of (get_or ms i none)) cells
      ++ value_at (drop (i + 1) ms)
      (values_in (drop (i + 1) ms) (drop (1 + most_of (get_or ms i none)) cells)) place
  read-here cells = ap (λ members. value_at members (values_in members cells) place)
      (drop_more ms i none within) ∙ rw here refl

  pub defaults-here : value_at (drop i ms) (defaults (drop i ms)) place
      ≡ (get_or ms i none).default.now
      ++ value_at (drop (i + 1) ms) (defaults (drop (i + 1) ms)) place
  defaults-here = ap (λ members. value_at members (defaults members) place)
      (drop_more ms i none within) ∙ rw here refl

pub take-most : (n : ℕ) (xs : List ℕ) → length (take n xs) ≤ n
take-most n xs = omega (arith, length-take n xs)
