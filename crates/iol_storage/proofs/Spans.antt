-- The spans of values among octets: what one more at the end leaves (the clauses of `push`), and
-- that each lies within (those of `get`).
-- For the clauses of `Objects::are_few`, `Objects::push`, `objects::object_at` and
--     `laws::attempts_ask_few`.
use Rattle.std.proofs.Common.{◌≡◌, ◌≤◌, ◌<◌, get_or, ◌+◌, ◌-◌, ◌*◌, ◌∷◌, ◌++◌, ◌∙◌, [], ℕ, zero, suc, List, Some, refl, sym, ap, arith, length, take, drop, length-append, length-drop}
use Rattle.std.specs.Prelude.{slice_range, slice_get, true}
use Rattle.std.specs.Option.{option_map}
use Rattle.std.proofs.Math.Seq.{drop-append_seam, take-length}
use Rattle.std.proofs.lemmas.List.{take-append-le, drop-append-le, length-take-le, length-map, map-append}
use Rattle.std.proofs.lemmas.Grind.{common_steps}
use Rattle.std.proofs.lemmas.Option.{slice_get-map, slice_get_read}
use Rattle.iol_isdu.specs.declared.values.Place.{Place}
use Rattle.iol_storage.specs.declared.objects.Span.{Span}
use Rattle.iol_storage.specs.Objects.{object_in, objects_in, AreSpans, values_size, fits_behind, fits_beside}

pub spans-append : (from : ℕ) (ss : List Span) (end : ℕ) (s : Span) → AreSpans from ss end
    → s.from ≡ end → s.from ≤ s.end → s.end ≤ s.from + 232
    → AreSpans from (ss ++ s ∷ []) s.end
spans-append from [] end s are begins order short = (begins ∙ sym are, order, short, refl)
spans-append from (x ∷ ss) end s are begins order short =
    (are.0, are.1, are.2, spans-append x.end ss end s are.3 begins order short)

spans-order : (from : ℕ) (ss : List Span) (end : ℕ) → AreSpans from ss end → from ≤ end
spans-order from [] end are = omega (arith, are)
spans-order from (s ∷ ss) end are =
    omega (arith, are.0, are.1, spans-order s.end ss end are.3)

range-append : (xs ys : List ℕ) (from end : ℕ) → from ≤ end → end ≤ length xs
    → slice_range (xs ++ ys) from end ≡ slice_range xs from end
range-append xs ys from end order within =
    let rest : length (drop from xs) + from ≡ length xs = grind (arith, length-drop) in
    ap (take (end - from)) (drop-append-le from xs ys (omega (arith, order, within)))
    ∙ take-append-le (end - from) (drop from xs) ys (omega (arith, order, within, rest))

objects-append : (from : ℕ) (ss : List Span) (end : ℕ) (xs ys : List ℕ) → AreSpans from ss end
    → end ≤ length xs → objects_in (xs ++ ys) ss ≡ objects_in xs ss
objects-append from [] end xs ys are within = refl
objects-append from (s ∷ ss) end xs ys are within =
    let order = spans-order s.end ss end are.3 in
    let first = range-append xs ys s.from s.end are.1 (omega (arith, order, within)) in
    rw (first, objects-append s.end ss end xs ys are.3 within) refl

range-new : (xs ys : List ℕ) (from end : ℕ) → from ≡ length xs → end ≡ length xs + length ys
    → slice_range (xs ++ ys) from end ≡ ys
range-new xs ys from end begins ends =
    let size : end - from ≡ length ys = omega (arith, begins, ends) in
    ap (λ n. take (end - from) (drop n (xs ++ ys))) begins
    ∙ (ap (take (end - from)) (drop-append_seam xs ys)
    ∙ (ap (λ n. take n ys) size ∙ take-length ys))

-- one more object
pub objects-push : (ss : List Span) (s : Span) (xs ys : List ℕ) → AreSpans 0 ss (length xs)
    → s.from ≡ length xs → s.end ≡ length xs + length ys
    → objects_in (xs ++ ys) (ss ++ s ∷ [])
    ≡ objects_in xs ss ++ (record { index = s.index; sub = s.sub }, ys) ∷ []
objects-push ss s xs ys are begins ends =
    map-append (object_in (xs ++ ys)) ss (s ∷ [])
    ∙ rw (
      objects-append 0 ss (length xs) xs ys are (omega arith),
      range-new xs ys s.from s.end begins ends,
    ) refl

range-length : (xs : List ℕ) (from end : ℕ) → from ≤ end → end ≤ length xs
    → length (slice_range xs from end) + from ≡ end
range-length xs from end order within =
    let rest : length (drop from xs) + from ≡ length xs = grind (arith, length-drop) in
    let size = length-take-le (end - from) (drop from xs) (omega (arith, order, within, rest)) in
    omega (arith, size, order)

values-size : (from : ℕ) (ss : List Span) (end : ℕ) (xs : List ℕ) → AreSpans from ss end
    → end ≤ length xs → values_size (objects_in xs ss) + from ≡ end
values-size from [] end xs are within = omega (arith, are)
values-size from (s ∷ ss) end xs are within =
    let order = spans-order s.end ss end are.3 in
    let own = range-length xs s.from s.end are.1 (omega (arith, order, within)) in
    omega (arith, are.0, own, values-size s.end ss end xs are.3 within)

-- each lies within
pub record IsWithin (s : Span) (end : ℕ) : Type 0 where
  pub order : s.from ≤ s.end
  pub short : s.end ≤ s.from + 232
  pub within : s.end ≤ end

pub span-within : (from : ℕ) (ss : List Span) (end i : ℕ) (s : Span) → AreSpans from ss end
    → slice_get ss i ≡ Some s → IsWithin s end
span-within from [] end i s are is = absurd (cc)
span-within from (x ∷ ss) end zero s are is =
    let order = spans-order x.end ss end are.3 in
    let same : x ≡ s = cc in
    rw (sym same) (record { order = are.1; short = are.2; within = order })
span-within from (x ∷ ss) end (suc i) s are is = span-within x.end ss end i s are.3 is

pub object-at : (xs : List ℕ) (ss : List Span) (i : ℕ)
    → slice_get (objects_in xs ss) i ≡ option_map (object_in xs) (slice_get ss i)
object-at xs ss i = slice_get-map (object_in xs) ss i

pub span-found : (ss : List Span) (i : ℕ) (s : Span) → s ≡ get_or ss i s → i < length ss
    → slice_get ss i ≡ Some s
span-found ss i s is within = slice_get_read ss (length ss) i s refl within is

pub span-read : (ss : List Span) (end i : ℕ) (s : Span) → AreSpans 0 ss end → s ≡ get_or ss i s
    → i < length ss → IsWithin s end
span-read ss end i s are is within = span-within 0 ss end i s are (span-found ss i s is within)

-- the size of all, and whether there is room for more
pub size-of-all : (xs : List ℕ) (ss : List Span) → AreSpans 0 ss (length xs)
    → values_size (objects_in xs ss) ≡ length xs
size-of-all xs ss are = omega (arith, values-size 0 ss (length xs) xs are (omega arith))

pub room-is : (xs : List ℕ) (ss : List Span) (more : List ℕ) → AreSpans 0 ss (length xs)
    → fits_behind (objects_in xs ss) more ≡ fits_beside (length xs) (length ss) (length more)
room-is xs ss more are = rw (size-of-all xs ss are, length-map ss (object_in xs)) refl

-- what is left behind one more
pub record Pushed (ss ss_new : List Span) (xs ys xs_new : List ℕ) (place : Place) : Type 0 where
  pub spans : AreSpans 0 ss_new (length xs_new)
  pub fits : length xs_new + 4 * length ss_new ≤ 2048
  pub objects : objects_in xs_new ss_new ≡ objects_in xs ss ++ (place, ys) ∷ []

pub pushed : (ss ss_new : List Span) (xs ys xs_new : List ℕ) (place : Place) (from : ℕ)
    → AreSpans 0 ss (length xs)
    → ss_new ≡ ss ++ record {
      index = place.index;
      sub = place.sub;
      from = from;
      end = from + length ys;
    } ∷ []
    → xs_new ≡ xs ++ ys → from ≡ length xs
    → fits_beside (length xs) (length ss) (length ys) ≡ true
    → Pushed ss ss_new xs ys xs_new place
pushed ss ss_new xs ys xs_new place from are spans octets begins room =
    let s : Span = record {
      index = place.index;
      sub = place.sub;
      from = from;
      end = from + length ys;
    } in
    let ends : s.end ≡ length xs + length ys = ap (λ n. n + length ys) begins in
    let size : length xs_new ≡ s.end = ap length octets ∙ (length-append xs ys ∙ sym ends) in
    let most : length xs + 4 * (length ss + 1) + length ys ≤ 2048 =
    grind (arith, common_steps, room) in
    let short : length ys ≤ 232 = grind (arith, common_steps, room) in
    let count : length ss_new ≡ length ss + 1 = ap length spans ∙ length-append ss (s ∷ []) in
    record {
      spans = rw (spans, size)
          (spans-append 0 ss (length xs) s are begins (omega (arith, begins, ends))
          (omega (arith, short)));
      fits = omega (arith, most, count, size, ends);
      objects = rw (spans, octets) (objects-push ss s xs ys are begins ends);
    }

-- all of them fit into a set
pub few : (xs : List ℕ) (ss : List Span) → AreSpans 0 ss (length xs)
    → length xs + 4 * length ss ≤ 2048
    → values_size (objects_in xs ss) + 4 * length (objects_in xs ss) ≤ 2048
few xs ss are fits = rw (size-of-all xs ss are, length-map ss (object_in xs)) fits
