-- What a client may conclude of a whole run, of events, images and outputs: they are of what
-- happened at the device.
use Rattle.std.specs.Prelude.{◌≡◌, ◌⊎◌, ℕ, Bool, true, false, ◌||◌, List, [], ◌∷◌, ◌++◌, Option, Some, None}
use Rattle.std.specs.List.{list_any}
use Rattle.iol_event.specs.declared.event.Event.{Event}
use Rattle.iol_far.specs.Far.{Far}
use Rattle.iol_far.specs.History.{HistoryEntry, Raised, InputSet, PowerCycled}
use Rattle.iol_app.specs.Abstract.Steps.{PortStep, ImageOctets, Unreport, Start, Reset}
use Rattle.iol_app.specs.Abstract.Events.{frozen_events, unreported_events}
use Rattle.iol_mode.specs.declared.configuration.Devices.{Devices}
use Rattle.iol_book.specs.declared.limits.Limits.{Limits}
use Rattle.iol_port.specs.declared.call.Call.TheVariants as call
use Rattle.iol_port.specs.declared.call.Answered.{Answered}
use Rattle.iol_port.specs.declared.call.Answered.TheVariants as answered
use Rattle.iol_port.specs.Owners.{IsOneOf}
use Rattle.iol_port.specs.CarriesOut.{Happens}
use Rattle.iol_port.specs.Run.{PortState, port_at_opening, ReceiveOf, Piece, Whole, Receive, PieceOf, Pieces}

-- Of a history

-- the input behind it, where it was this before
abbrev pub input_behind : List HistoryEntry → Option ImageOctets → Option ImageOctets
input_behind [] input = input
input_behind (InputSet next ∷ history) input = input_behind history next
input_behind (PowerCycled ∷ history) input = input_behind history None
input_behind (Raised event ∷ history) input = input_behind history input

-- this was the input at a moment of it
pub record WasInput (history : List HistoryEntry) (input : Option ImageOctets)
    (image : ImageOctets) : Type 0 where
  pub earlier : List HistoryEntry
  pub later : List HistoryEntry
  pub is : history ≡ earlier ++ later
  pub was : input_behind earlier input ≡ Some image

-- the events that were raised in it, in order
abbrev pub raised_in : List HistoryEntry → List Event
raised_in [] = []
raised_in (Raised event ∷ history) = event ∷ raised_in history
raised_in (entry ∷ history) = raised_in history

-- Of a run

-- the events that calls handed out, in order
abbrev pub events_handed_out : List Answered → List Event
events_handed_out [] = []
events_handed_out (answered.Event event ∷ replies) = event ∷ events_handed_out replies
events_handed_out (reply ∷ replies) = events_handed_out replies

-- the events that the device's memory holds
abbrev pub held_events : PortState → List Event
held_events a = frozen_events a.frozen ++ a.past.waiting

-- A run from here led there. The device's history went on by some entries, by which its input is
-- what it is. The image that is shown, and each that was handed out, was the input at a moment of
-- them. Each event that the
-- port reported was raised in them, or was in the device's memory before. The output that the
-- device has is the one of before, or one that a client set.
pub record FitsHistory (from : PortState) (pieces : List Piece) (replies : List Answered)
    (a : PortState) : Type 0 where
  pub entries : List HistoryEntry
  pub history_is : a.past.history ≡ from.past.history ++ entries
  pub input_is : a.images.input ≡ input_behind entries from.images.input
  pub shown : (image : ImageOctets) → a.images.image ≡ Some image
      → WasInput entries from.images.input image
  pub images : (image : ImageOctets)
      → Happens pieces replies (Whole call.Look) (answered.Image (Some image))
      → WasInput entries from.images.input image
  pub outputs : (image : ImageOctets) → a.images.output ≡ Some image
      → (from.images.output ≡ Some image)
      ⊎ Happens pieces replies (Whole (call.SetOutput image)) answered.Nothing
  pub events : (event : Event) → IsOneOf event (events_handed_out replies ++ a.queued)
      → IsOneOf event (held_events from ++ raised_in entries)

-- So it is in every run of a port that is opened, across losses, restarts and power cycles
abbrev pub EachFitsHistory : Type 0
EachFitsHistory =
    (devices : Devices) (limits : Limits) (far : Far) (silence : ℕ) (pieces : List Piece)
    (replies : List Answered) (b : PortState)
    → Pieces (port_at_opening devices limits far silence) pieces replies b
    → FitsHistory (port_at_opening devices limits far silence) pieces replies b

-- Once, and in order

-- a list is the other, but that some may be left out
pub data IsPartOf {X : Type 0} : List X → List X → Type 0 where
  nothing : IsPartOf [] []
  takes : {x : X} {xs ys : List X} → IsPartOf xs ys → IsPartOf (x ∷ xs) (x ∷ ys)
  leaves : {y : X} {xs ys : List X} → IsPartOf xs ys → IsPartOf xs (y ∷ ys)

-- what was reported counts as unreported again: behind a wake or a reset of the device, and, at a
-- port for any device, where a confirm had no good reply
abbrev pub step_may_repeat : PortStep → Bool
step_may_repeat Unreport = true
step_may_repeat Start = true
step_may_repeat Reset = true
step_may_repeat step = false

abbrev pub receive_may_repeat : {m b : PortState} → ReceiveOf m b → Bool
receive_may_repeat r = list_any step_may_repeat r.turn.steps

-- whether it does in a run
abbrev pub piece_may_repeat : (a : PortState) (piece : Piece) (reply : Answered) (b : PortState)
    → PieceOf a piece reply b → Bool
piece_may_repeat a (Whole call.Turn) reply b (is, (m, sends, receives)) =
    receive_may_repeat receives
piece_may_repeat a Receive reply b (is, receives) = receive_may_repeat receives
piece_may_repeat a piece reply b p = false

abbrev pub run_may_repeat : (a : PortState) (pieces : List Piece) (replies : List Answered)
    (b : PortState) → Pieces a pieces replies b → Bool
run_may_repeat a [] [] b run = false
run_may_repeat a (piece ∷ pieces) (reply ∷ replies) b (mid, p, run) =
    piece_may_repeat a piece reply mid p || run_may_repeat mid pieces replies b run
run_may_repeat a pieces replies b run = false

-- those that the device holds and that were not reported
abbrev pub unreported_in : PortState → List Event
unreported_in a = unreported_events a.frozen ++ a.past.waiting

-- A run in which nothing counts as unreported again: of the events that were unreported at its
-- beginning, and of those raised in it, each is reported at most once, in the order of raising
pub record ReportsOnce (a : PortState) (replies : List Answered) (b : PortState) : Type 0 where
  pub entries : List HistoryEntry
  pub history_is : b.past.history ≡ a.past.history ++ entries
  pub reported : List Event
  pub reported_is : a.queued ++ reported ≡ events_handed_out replies ++ b.queued
  pub in_order : IsPartOf (reported ++ unreported_in b) (unreported_in a ++ raised_in entries)

abbrev pub EachIsReportedOnce : Type 0
EachIsReportedOnce =
    (a b : PortState) (pieces : List Piece) (replies : List Answered)
    (run : Pieces a pieces replies b) → run_may_repeat a pieces replies b run ≡ false
    → ReportsOnce a replies b
