-- The lines of a trace.
use Rattle.std.specs.Prelude.{ℕ, ◌-◌, ◌^◌, Bool, false, ◌==◌, ◌||◌, ◌&&◌, nat_le, Option, Some, None, option_copied, option_map, option_and_then, List, [], ◌∷◌, length, take, if◌then◌else◌, codes}
use Rattle.std.specs.List.{position}
use Rattle.std.specs.Option.{option_map_or}
use Rattle.std.specs.Str.{bytes_eq}
use Rattle.arrayvec.specs.ArrayVec.{ArrayVec}
use Rattle.iol_judge.specs.declared.verdict.Wake.{Wake as WakeAnswer}
use Rattle.iol_judge.specs.declared.verdict.Wake.TheVariants as wake
use Rattle.iol_script.specs.Numerals.{octets_of_words, number_in, octets_within}
use Rattle.iol_script.specs.Text.{text_words, words_of}
use Rattle.iol_capture.specs.declared.trace_line.TraceLine.{TraceLine}
use Rattle.iol_capture.specs.declared.trace_line.TraceLine.TheVariants.{Other, Skipped, Page, Wake, Sent, Received}
use Rattle.iol_capture.specs.declared.trace_line.WordedLine.{WordedLine}
use Rattle.iol_capture.specs.declared.trace_line.WordedLine.TheVariants as worded

-- The words of a line

-- words of two digits each, up to 128
abbrev pub octets_form : List (List ℕ) → Option (ArrayVec ℕ)
octets_form words = option_map (λ octets. record { items = octets })
    (option_and_then (octets_within 0 128) (octets_of_words words))

-- the one word `none`
abbrev pub are_none : List (List ℕ) → Bool
are_none (word ∷ []) = bytes_eq word (codes "none")
are_none words = false

-- octets, where there are ten
abbrev pub ten_of : List ℕ → Option (List ℕ)
ten_of octets = if length octets == 10 then Some octets else None

-- the ten octets of a page
abbrev pub ten_octets : List (List ℕ) → Option (List ℕ)
ten_octets words = option_and_then (λ (octets : ArrayVec ℕ). ten_of octets.items)
    (octets_form words)

-- the words behind `page`: ten octets; without them the line says nothing of a page
abbrev pub page_form : List (List ℕ) → Option TraceLine
page_form words =
    if are_none words then Some Other else option_map Page (ten_octets words)

-- whether a wake-up request was answered, by the rate
abbrev pub rate_form : List (List ℕ) → Option WakeAnswer
rate_form (rate ∷ []) =
    if bytes_eq rate (codes "none") then Some wake.Unanswered else
    if bytes_eq rate (codes "COM1") || bytes_eq rate (codes "COM2")
    || bytes_eq rate (codes "COM3") then Some wake.Answered else None
rate_form words = None

-- what came back
abbrev pub received_form : List (List ℕ) → Option (Option (ArrayVec ℕ))
received_form words = if are_none words then Some None else option_map Some (octets_form words)

-- the words behind the number of a call
abbrev pub trace_call_form : ℕ → List (List ℕ) → Option TraceLine
trace_call_form number (way ∷ words) =
    if bytes_eq way (codes "wake") then option_map (Wake number) (rate_form words) else
    if bytes_eq way (codes ">") then option_map (Sent number) (octets_form words) else
    if bytes_eq way (codes "<") then option_map (Received number) (received_form words) else None
trace_call_form number [] = None

-- a line that begins with a digit is of a call; each other than `page` says nothing of the line
abbrev pub begins_with_digit : List ℕ → Bool
begins_with_digit [] = false
begins_with_digit (c ∷ word) = nat_le 48 c && nat_le c 57

abbrev pub named_form : List ℕ → List (List ℕ) → Option TraceLine
named_form name words =
    if bytes_eq name (codes "page") then page_form words else
    if begins_with_digit name
    then option_and_then (λ number. trace_call_form number words) (number_in 1 (2 ^ 64 - 1) name)
    else Some Skipped

abbrev pub trace_words_form : List (List ℕ) → Option TraceLine
trace_words_form [] = Some Other
trace_words_form (name ∷ words) = named_form name words

-- A line

-- behind a colon the octets are only explained
abbrev pub before_colon : List ℕ → List ℕ
before_colon line = option_map_or (λ place. take place line) (position (λ b. b == 58) line) line

-- what a line says, where it fits a form
abbrev pub trace_form : List ℕ → Option TraceLine
trace_form line =
    if nat_le (length line) 1024 then trace_words_form (text_words (before_colon line)) else None

-- Words that are still to be read

-- a word ends so: at a space, or with the text at a colon
abbrev pub ends_word : ℕ → Bool
ends_word b = (b == 32) || (b == 58)

-- the words of a text up to its first colon
abbrev pub colon_words : List ℕ → List (List ℕ)
colon_words text = words_of (before_colon text)

-- those behind a space, where there is one
abbrev pub words_behind : Option (List ℕ) → List (List ℕ)
words_behind text = option_map_or colon_words text []

-- the octets of words behind the two digits of one
abbrev pub octets_after : List ℕ → Option (List ℕ)
octets_after [] = Some []
octets_after (c ∷ text) = if c == 58 then Some [] else
    if c == 32 then octets_of_words (colon_words text) else None

-- what a line says, once its octets are read
abbrev pub octets_read : WordedLine → Option TraceLine
octets_read worded.Other = Some Other
octets_read worded.Skipped = Some Skipped
octets_read (worded.Page octets) = Some (Page octets)
octets_read (worded.Wake number answer) = Some (Wake number answer)
octets_read (worded.Sent number words) =
    option_map (Sent number) (octets_form (words_behind (option_copied words)))
octets_read (worded.Received number words) =
    option_map (Received number) (received_form (words_behind (option_copied words)))
