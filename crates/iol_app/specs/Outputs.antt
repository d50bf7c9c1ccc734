-- The process data out.
use Rattle.std.specs.Prelude.{◌≡◌, ℕ, true, false, ◌==◌, if◌then◌else◌, List, [], length, replicate, None, unwrap_or, IfSome}
use Rattle.iol_app.specs.declared.output.OutputState.{OutputState}
use Rattle.iol_app.specs.declared.session.Purpose.{Purpose}
use Rattle.iol_app.specs.declared.session.Purpose.TheVariants.{EnableOutput, DropOutput}

abbrev pub new_output : OutputState
new_output = record { wanted = None; acknowledged = false; carried = record { items = [] } }

-- what a new message carries: the output wanted, else what the message before carried
-- PD-4
abbrev pub output_to_carry : OutputState → List ℕ
output_to_carry output = unwrap_or output.wanted output.carried.items

-- once it was made
abbrev pub output_once_carried : OutputState → OutputState
output_once_carried output = record output { carried = record { items = output_to_carry output } }

-- a start-up told this length: another one than before makes the wanted output none
-- PD-6
abbrev pub output_resized : ℕ → OutputState → OutputState
output_resized size output =
    if length output.carried.items == size then output
    else record output { wanted = None; carried = record { items = replicate size 0 } }

-- after the good reply to a message that was sent for this
-- PD-5
abbrev pub output_after : Purpose → OutputState → OutputState
output_after EnableOutput output = record output { acknowledged = true }
output_after DropOutput output = record output { acknowledged = false }
output_after any output = output

-- what always holds of the output, of the length that was told
pub record IsOutput (size : ℕ) (output : OutputState) : Type 0 where
  pub carried : length output.carried.items ≡ size
  pub wanted : IfSome output.wanted (λ image. length image ≡ size)
