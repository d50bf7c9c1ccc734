-- Whether words fit a form, of which no value is built: `write_fits`, `are_pairs` and
-- `take_call` need these.
-- For the clauses of `Draft::take_call`, `call_check::write_fits` and `numerals::are_pairs`.
use Rattle.std.proofs.Common.{◌≡◌, true, false, Option, Some, None, is_some, ◌&&◌, refl}
use Rattle.iol_port.specs.declared.call.Call.{Call}
use Rattle.iol_script.specs.DraftInside.{after_form}
use Rattle.iol_script.specs.Numerals.{of_both}
use Rattle.iol_script.specs.RunLines.{one_call}
use Rattle.iol_script.specs.Script.{DraftValue, in_bounds, with_calls}

pub both_fit : {X Y Z : Type 0} (make : X → Y → Z) (x : Option X) (y : Option Y)
    → is_some (of_both make x y) ≡ is_some x && is_some y
both_fit make (Some x) (Some y) = refl
both_fit make (Some x) None = refl
both_fit make None y = refl

-- no call, and one more
pub no_call : (draft : DraftValue) (call : Option Call) → is_some call ≡ false
    → None ≡ after_form one_call draft call
no_call draft (Some call) e = cc
no_call draft None e = refl

pub one_more : (draft : DraftValue) (call : Option Call) → is_some call ≡ true
    → in_bounds (with_calls draft 1 0) ≡ after_form one_call draft call
one_more draft (Some call) e = refl
one_more draft None e = cc
