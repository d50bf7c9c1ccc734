-- How many octets the message has that is on its way to a device.
use Rattle.std.specs.Prelude.{◌≡◌, ◌≢◌, ℕ, ◌+◌, Bool, false, nat_eq, nat_lt, if◌then◌else◌, min, List, [], ◌∷◌, ◌++◌, length, slice_index, Option, Some, None, IsSome, IsFalse}
use Rattle.std.specs.List.{starts_with}
use Rattle.iol_mseq.specs.Shape.{Shape}
use Rattle.iol_mseq.specs.Master.{sent_od}
use Rattle.iol_far.specs.Codec.{layout_in}
use Rattle.iol_far.specs.Far.{Far, WaitingCommand, accepted_message, layout_of}

-- the octets of a message in this layout that has this first octet
abbrev pub whole_length : Shape → ℕ → ℕ
whole_length layout control = 2 + layout.pd_out + sent_od layout control

-- whether these octets begin the command that waits
abbrev pub begins_command : Option WaitingCommand → List ℕ → Bool
begins_command None begun = false
begins_command (Some command) begun = starts_with nat_eq command.octets begun

-- of two messages that begin alike the shorter one, until as many came
abbrev pub shorter_left : ℕ → ℕ → ℕ → ℕ
shorter_left received command other = if nat_lt received other then min command other else command

-- behind a command that waits another message is in the new layout, and the command may come again
abbrev pub length_behind : Option WaitingCommand → Far → List ℕ → ℕ
length_behind None far begun = whole_length (layout_of far) (slice_index begun 0)
length_behind (Some command) far begun =
    if begins_command (Some command) begun
    then shorter_left (length begun) (length command.octets)
    (whole_length (layout_in far.page command.into) (slice_index begun 0))
    else whole_length (layout_in far.page command.into) (slice_index begun 0)

-- how many octets the message has that begins so: one has to come first, and none is heard asleep
abbrev pub awaited_length : Far → List ℕ → ℕ
awaited_length far [] = if far.awake then 1 else 0
awaited_length far (control ∷ others) =
    if far.awake then length_behind far.waits far (control ∷ others) else 0

-- a message that the device accepts has so many octets, if it begins so and not as the command that
-- waits
abbrev pub AwaitsWhole : Far → List ℕ → ℕ → Type 0
AwaitsWhole far begun count = (rest : List ℕ) → IsSome (accepted_message far (begun ++ rest))
    → begun ≢ [] → IsFalse (begins_command far.waits begun) → length (begun ++ rest) ≡ count
