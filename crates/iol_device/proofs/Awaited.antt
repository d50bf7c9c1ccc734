-- A message that the device accepts is as long as it awaits.
-- For the clauses of `Device::expects`.
use Rattle.std.proofs.Common.{◌≡◌, ℕ, List, [], ◌∷◌, ◌++◌, length, Bool, true, false, refl, sym, ap, ◌∙◌, arith}
use Rattle.std.proofs.lemmas.Bool.Decides.{Decides-eqb}
use Rattle.std.proofs.lemmas.Grind.{common_steps}
use Rattle.std.proofs.lemmas.Slice.Eq.{starts_is, bytes_eq-Decides}
use Rattle.std.specs.Prelude.{Option, Some, None, IsSome, IsFalse, bytes_eq, slice_index, if◌then◌else◌}
use Rattle.std.specs.Option.{option_map}
use Rattle.iol_mseq.specs.Shape.{Shape}
use Rattle.iol_far.specs.Codec.{message_in, layout_in}
use Rattle.iol_far.specs.Far.{Far, WaitingCommand, accepted_by, accepted_now, far_in_mode, layout_of}
use Rattle.iol_device.specs.Awaited.{AwaitsWhole, awaited_length, begins_command, length_behind, shorter_left, whole_length}

-- what is mapped is there
of_map : {A B : Type 0} (f : A → B) (o : Option A) → IsSome (option_map f o) → IsSome o
of_map f None is = is
of_map f (Some a) is = is

-- a message in a layout has its length there
whole_in : (layout : Shape) (octets : List ℕ) → IsSome (message_in layout octets)
    → length octets ≡ whole_length layout (slice_index octets 0)
unfolding message_in
whole_in layout octets is = grind (arith, common_steps)

-- nothing is both
clash : {A : Type 0} (b : Bool) → b ≡ true → b ≡ false → A
clash true one other = absurd (cc)
clash false one other = absurd (cc)

-- by whether the octets are those of the command that waits
whole_behind : (far : Far) (command : WaitingCommand) (control : ℕ) (others rest : List ℕ)
    → begins_command (Some command) (control ∷ others) ≡ false
    → (same : Bool) → bytes_eq ((control ∷ others) ++ rest) command.octets ≡ same
    → IsSome (if same then accepted_now far ((control ∷ others) ++ rest)
    else accepted_now (far_in_mode far command.into) ((control ∷ others) ++ rest))
    → length ((control ∷ others) ++ rest)
    ≡ whole_length (layout_in far.page command.into) control
whole_behind far command control others rest not true e is =
    clash _ ((starts_is Decides-eqb command.octets (control ∷ others) _ refl).1 rest
    (sym ((bytes_eq-Decides ((control ∷ others) ++ rest) command.octets).0 e))) not
whole_behind far command control others rest not false e is =
    whole_in (layout_in far.page command.into) (control ∷ (others ++ rest)) (of_map _ _ is)

-- octets that don't begin as the command that waits are in the new layout
behind_other : (far : Far) (command : WaitingCommand) (control : ℕ) (others : List ℕ)
    → begins_command (Some command) (control ∷ others) ≡ false
    → length_behind (Some command) far (control ∷ others)
    ≡ whole_length (layout_in far.page command.into) control
behind_other far command control others not =
    let other = whole_length (layout_in far.page command.into) control in
    let both = shorter_left (length (control ∷ others)) (length command.octets) other in
    ap (λ (b : Bool). if b then both else other) not

whole_by : (far : Far) (waits : Option WaitingCommand) (control : ℕ) (others rest : List ℕ)
    → begins_command waits (control ∷ others) ≡ false
    → IsSome (accepted_by waits far ((control ∷ others) ++ rest))
    → length ((control ∷ others) ++ rest) ≡ length_behind waits far (control ∷ others)
whole_by far None control others rest not is =
    whole_in (layout_of far) (control ∷ (others ++ rest)) (of_map _ _ is)
whole_by far (Some command) control others rest not is =
    whole_behind far command control others rest not _ refl is
    ∙ sym (behind_other far command control others not)

whole_awake : (awake : Bool) (far : Far) (control : ℕ) (others rest : List ℕ)
    → begins_command far.waits (control ∷ others) ≡ false
    → IsSome (if awake then accepted_by far.waits far ((control ∷ others) ++ rest) else None)
    → length ((control ∷ others) ++ rest)
    ≡ (if awake then length_behind far.waits far (control ∷ others) else 0)
whole_awake true far control others rest not is = whole_by far far.waits control others rest not is
whole_awake false far control others rest not is = clash _ is refl

pub whole : (far : Far) (begun : List ℕ) (count : ℕ) → count ≡ awaited_length far begun
    → AwaitsWhole far begun count
whole far [] count is rest accepted some not = absurd (some refl)
whole far (control ∷ others) count is rest accepted some not =
    whole_awake far.awake far control others rest not accepted ∙ sym is
