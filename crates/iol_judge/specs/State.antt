-- What is kept of a device.
use Rattle.std.specs.Prelude.{ℕ, Bool, false, ◌&&◌, if◌then◌else◌, bytes_eq, List, [], ◌∷◌, ◌++◌, map, slice_index, Option, None}
use Rattle.std.specs.Option.{option_eq}
use Rattle.iol_octets.specs.Control.{control_of}
use Rattle.iol_octets.specs.declared.control.Mc.{Mc}
use Rattle.iol_far.specs.declared.kind.Kind.{Kind}
use Rattle.iol_far.specs.declared.kind.HandsOver.TheVariants.{FirstRead, LastSegment}
use Rattle.iol_far.specs.declared.kind.Recalls.TheVariants.{UntilLeft, UntilSent}
use Rattle.iol_far.specs.Codec.{flow_of}
use Rattle.iol_far.specs.declared.mode.DeviceMode.{DeviceMode}
use Rattle.iol_far.specs.declared.mode.DeviceMode.TheVariants.{Startup}
use Rattle.iol_far.specs.Far.{WaitingCommand, is_mode}
use Rattle.iol_far.specs.Level.{FarLink}
use Rattle.iol_judge.specs.declared.events.ShownEvents.{ShownEvents}
use Rattle.iol_judge.specs.declared.events.ShownEvents.TheVariants.{Any, Fresh}
use Rattle.iol_judge.specs.declared.kinds.Kinds.{Kinds}
use Rattle.iol_judge.specs.declared.transfer.Transfer.{Transfer}
use Rattle.iol_judge.specs.declared.transfer.Transfer.TheVariants.{Free, Quiet}
use Rattle.iol_judge.specs.Octets.{is_known_in}
use Rattle.iol_judge.specs.Events.{covers_events, shown_after}
use Rattle.iol_judge.specs.Family.{all_kinds, admits_kind, kinds_within, only_kind}
use Rattle.iol_judge.specs.Transfers.{apart, covers_transfer, is_apart}

-- what is kept of a device: its mode with the mode command that waits there, the octet
-- of page address 0x01, where it is known, and what is known of its events, while it is awake, and
-- of its ISDU transfer; and of which kinds it may be
pub record KnownState : Type 0 where
  pub kinds : Kinds
  pub link : FarLink
  pub cycle : Option ℕ
  pub events : ShownEvents
  pub transfer : Transfer

-- after a wake-up request
abbrev pub startup_state : Kinds → Option ℕ → ShownEvents → KnownState
startup_state kinds cycle events = record {
  kinds = kinds;
  link = record { mode = Startup; waits = None };
  cycle = cycle;
  events = events;
  transfer = Quiet;
}

-- of a device that was awake
abbrev pub woken_state : KnownState → KnownState
woken_state state = startup_state state.kinds state.cycle (shown_after state.events false)

-- of one that had a power cycle
abbrev pub powered_state : KnownState → KnownState
powered_state state = startup_state state.kinds state.cycle Fresh

-- after the first wake-up request that was answered
abbrev pub first_state : KnownState
first_state = startup_state all_kinds None Any

-- of a device that is awake in this mode, of which no more is known than that no command waits
abbrev pub resumed_state : DeviceMode → ShownEvents → KnownState
resumed_state mode events = record {
  kinds = all_kinds;
  link = record { mode = mode; waits = None };
  cycle = None;
  events = events;
  transfer = Free;
}

-- States for the kinds that a message tells apart

-- of one kind, with this transfer
abbrev pub state_of_kind : KnownState → Kind → Transfer → KnownState
state_of_kind state kind transfer = record state { kinds = only_kind kind; transfer = transfer }

abbrev pub parts_of : KnownState → Kind → List KnownState
parts_of state kind =
    if admits_kind state.kinds kind then map (state_of_kind state kind) (apart state.transfer)
    else []

abbrev pub all_parts : KnownState → List KnownState
all_parts state = parts_of state (record { hands_over = FirstRead; recalls = UntilLeft })
    ++ parts_of state (record { hands_over = FirstRead; recalls = UntilSent })
    ++ parts_of state (record { hands_over = LastSegment; recalls = UntilLeft })
    ++ parts_of state (record { hands_over = LastSegment; recalls = UntilSent })

abbrev pub tells_apart : KnownState → Mc → Bool
tells_apart state mc = is_apart state.transfer mc.channel mc.read (flow_of mc.address)

-- states that stand for what one does, so that all devices of each do the same on these octets
abbrev pub parts : KnownState → List ℕ → List KnownState
parts state sent =
    if tells_apart state (control_of (slice_index sent 0)) then all_parts state else state ∷ []

-- What the first stands for whatever the second does

abbrev pub is_command : WaitingCommand → WaitingCommand → Bool
is_command a b = is_mode a.into b.into && bytes_eq a.octets b.octets

-- of devices of the same kind
abbrev pub covers_alike : KnownState → KnownState → Bool
covers_alike a b = is_mode a.link.mode b.link.mode && is_known_in a.cycle b.cycle
    && option_eq is_command a.link.waits b.link.waits && covers_events a.events b.events
    && covers_transfer a.transfer b.transfer

abbrev pub covers : KnownState → KnownState → Bool
covers a b = kinds_within b.kinds a.kinds && covers_alike a b

-- both stand for the same, but for their kinds
abbrev pub are_alike : KnownState → KnownState → Bool
are_alike a b = covers_alike a b && covers_alike b a
