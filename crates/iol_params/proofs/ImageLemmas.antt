-- An image says what it keeps.
-- For the clauses of `Manager::image_into`.
use borrow.Rule.Slice.PartMut.{put_mid}
use Rattle.std.proofs.Math.Seq.{drop-length}
use Rattle.std.proofs.lemmas.List.{append-nil}
use Rattle.std.proofs.Common.{◌≡◌, ◌∙◌, ◌+◌, ◌-◌, [], ◌∷◌, ◌++◌, ◌&&◌, drop, ℕ, List, Bool, true, false, Option, Some, refl, ap, arith, length}
use Rattle.std.specs.Prelude.{nat_le, nat_lt, ◌==◌, slice_set}
use Rattle.iol_params.specs.declared.state.Locks.{Locks}
use Rattle.iol_params.specs.Values.{values_in, room_for, all_fit}
use Rattle.iol_params.specs.Table.{ParamTable}
use Rattle.iol_params.specs.State.{ParamState, locks_in}
use Rattle.iol_params.specs.Carry.{is_consistent}
use Rattle.iol_params.specs.Image.{LastingState, lasting_of, lasting_octet, image_size, is_image, lasting_if, lasting_in}

abbrev locks_of : Bool → Bool → Bool → Bool → Locks
locks_of p s l u = record { parameters = p; storage = s; local = l; user_interface = u }

pub record OctetSays (prior : Locks) (up : Bool) : Type 0 where
  pub small : nat_lt (lasting_octet prior up) 32 ≡ true
  pub locks : locks_in (lasting_octet prior up) ≡ prior
  pub flag : nat_le 16 (lasting_octet prior up) ≡ up

says : (p s l u f : Bool) → OctetSays (locks_of p s l u) f
says true true true true true = record { small = refl; locks = refl; flag = refl }
says true true true true false = record { small = refl; locks = refl; flag = refl }
says true true true false true = record { small = refl; locks = refl; flag = refl }
says true true true false false = record { small = refl; locks = refl; flag = refl }
says true true false true true = record { small = refl; locks = refl; flag = refl }
says true true false true false = record { small = refl; locks = refl; flag = refl }
says true true false false true = record { small = refl; locks = refl; flag = refl }
says true true false false false = record { small = refl; locks = refl; flag = refl }
says true false true true true = record { small = refl; locks = refl; flag = refl }
says true false true true false = record { small = refl; locks = refl; flag = refl }
says true false true false true = record { small = refl; locks = refl; flag = refl }
says true false true false false = record { small = refl; locks = refl; flag = refl }
says true false false true true = record { small = refl; locks = refl; flag = refl }
says true false false true false = record { small = refl; locks = refl; flag = refl }
says true false false false true = record { small = refl; locks = refl; flag = refl }
says true false false false false = record { small = refl; locks = refl; flag = refl }
says false true true true true = record { small = refl; locks = refl; flag = refl }
says false true true true false = record { small = refl; locks = refl; flag = refl }
says false true true false true = record { small = refl; locks = refl; flag = refl }
says false true true false false = record { small = refl; locks = refl; flag = refl }
says false true false true true = record { small = refl; locks = refl; flag = refl }
says false true false true false = record { small = refl; locks = refl; flag = refl }
says false true false false true = record { small = refl; locks = refl; flag = refl }
says false true false false false = record { small = refl; locks = refl; flag = refl }
says false false true true true = record { small = refl; locks = refl; flag = refl }
says false false true true false = record { small = refl; locks = refl; flag = refl }
says false false true false true = record { small = refl; locks = refl; flag = refl }
says false false true false false = record { small = refl; locks = refl; flag = refl }
says false false false true true = record { small = refl; locks = refl; flag = refl }
says false false false true false = record { small = refl; locks = refl; flag = refl }
says false false false false true = record { small = refl; locks = refl; flag = refl }
says false false false false false = record { small = refl; locks = refl; flag = refl }

pub octet-says : (locks : Locks) (flag : Bool) → OctetSays locks flag
octet-says locks flag =
    says locks.parameters locks.storage locks.local locks.user_interface flag

all-true : (a b c d : Bool) → a ≡ true → b ≡ true → c ≡ true → d ≡ true
    → (a && b && c && d) ≡ true
all-true a b c d p q r t = rw (p, q, r, t) refl

module _ (table : ParamTable) (s : ParamState) (cells : List ℕ)
    (values : values_in table.members cells ≡ s.values)
    (size : length cells ≡ room_for table.members)
    (fit : all_fit table.members s.values ≡ true)
    (rules : is_consistent table s.values ≡ true) where
  abbrev octets : List ℕ
  octets = lasting_octet s.locks s.flag ∷ cells

  says-all : OctetSays s.locks s.flag
  says-all = octet-says s.locks s.flag

  good : is_image table octets ≡ true
  good =
      let long : length octets ≡ image_size table = omega (arith, size) in
      let whole : (length octets == image_size table) ≡ true = grind (arith, long) in
      all-true (length octets == image_size table) (nat_lt (lasting_octet s.locks s.flag) 32)
      (all_fit table.members (values_in table.members cells))
      (is_consistent table (values_in table.members cells))
      whole says-all.small (ap (all_fit table.members) values ∙ fit)
      (ap (is_consistent table) values ∙ rules)

  -- the image of a state, by its cells
  pub image-says : lasting_in table octets ≡ Some (lasting_of s)
  image-says =
      let lasting : List (List ℕ) → Locks → Bool → Option LastingState =
      λ v l f. Some (record { values = v; locks = l; flag = f }) in
      ap (λ b. lasting_if b table octets) good
      ∙ (ap (λ v. lasting v (locks_in (lasting_octet s.locks s.flag))
      (nat_le 16 (lasting_octet s.locks s.flag))) values
      ∙ (ap (λ l. lasting s.values l (nat_le 16 (lasting_octet s.locks s.flag))) says-all.locks
      ∙ ap (λ f. lasting s.values s.locks f) says-all.flag))

-- the octets of an image, once the first and the others are written
pub image-octets : (prior cells : List ℕ) (head : ℕ) → length prior ≡ 1 + length cells
    → put_mid 1 (length (slice_set prior 0 head) - 1) (slice_set prior 0 head) cells ≡ head ∷ cells
image-octets [] cells head e = absurd (omega (arith, e))
image-octets (x ∷ xs) cells head e =
    let size : length (head ∷ xs) - 1 ≡ length xs = omega arith in
    let none : drop (length (head ∷ xs) - 1) xs ≡ [] =
    ap (λ n. drop n xs) size ∙ drop-length xs in
    ap (λ l. head ∷ (cells ++ l)) none ∙ ap (λ l. head ∷ l) (append-nil cells)
