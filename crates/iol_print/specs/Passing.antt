-- What `trace` prints for one call of a line.
use Rattle.std.specs.Prelude.{◌≡◌, ℕ, ◌+◌, ◌*◌, Bool, nat_le, Option, Some, None, List, ◌++◌, length, slice_index, codes}
use Rattle.std.specs.Fmt.{decimal}
use Rattle.iol_mseq.specs.Shape.{Shape}
use Rattle.iol_link.specs.declared.wire.Rate.{Rate}
use Rattle.iol_link.specs.declared.wire.Rate.TheVariants.{Com1, Com2, Com3}
use Rattle.iol_print.specs.Printed.{octets_text}
use Rattle.iol_print.specs.Meanings.{PrintsMessage, PrintsReply}

-- the rate that a wake was answered with
abbrev pub rate_name : Option Rate → List ℕ
rate_name None = codes "none"
rate_name (Some Com1) = codes "COM1"
rate_name (Some Com2) = codes "COM2"
rate_name (Some Com3) = codes "COM3"

-- the line of a wake
abbrev pub wake_text : ℕ → Option Rate → List ℕ
wake_text number rate = decimal number ++ codes " wake " ++ rate_name rate ++ codes "\n"

-- the number of a call, the way that octets went, and they themselves
abbrev pub line_front : ℕ → List ℕ → List ℕ → List ℕ
line_front number way octets =
    decimal number ++ codes " " ++ way ++ octets_text octets ++ codes ": "

-- whether a message asks to read, by its first octet
abbrev pub asks_read : List ℕ → Bool
asks_read octets = nat_le 128 (slice_index octets 0)

-- the line of the octets that the master sent: behind them stands what `check` prints of them
abbrev pub PrintsSent : ℕ → Shape → List ℕ → List ℕ → Type 0
PrintsSent number layout octets text = (meaning : List ℕ) × PrintsMessage layout octets meaning
    × (text ≡ line_front number (codes ">") octets ++ meaning)

-- the line of what came back: behind the octets stands what `check` prints of them
-- as the reply to a read or to a write
abbrev pub PrintsReceived : ℕ → Shape → Bool → Option (List ℕ) → List ℕ → Type 0
PrintsReceived number layout read None text = text ≡ decimal number ++ codes " < none\n"
PrintsReceived number layout read (Some octets) text = (meaning : List ℕ)
    × PrintsReply layout read octets meaning
    × (text ≡ line_front number (codes "<") octets ++ meaning)

-- the lines of an exchange, its octets being messages of this layout
abbrev pub PrintsExchange : ℕ → Shape → List ℕ → Option (List ℕ) → List ℕ → Type 0
PrintsExchange number layout sent answer text =
    (first : List ℕ) × (later : List ℕ) × (text ≡ first ++ later)
    × PrintsSent number layout sent first
    × PrintsReceived number layout (asks_read sent) answer later

-- no line of so many octets has more bytes
abbrev pub line_room : List ℕ → ℕ
line_room octets = 52 + 6 * length octets

-- and none of 66, which a message has at most
abbrev pub most_line : ℕ
most_line = 448
