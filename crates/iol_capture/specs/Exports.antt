-- How tools write the octets of a line: sigrok-cli and PulseView, Logic 1, Logic 2.
use Rattle.std.specs.Prelude.{ℕ, ◌+◌, ◌-◌, ◌*◌, ◌/◌, ◌%◌, ◌^◌, Bool, false, ◌&&◌, ◌||◌, ◌==◌, nat_lt, nat_le, if◌then◌else◌, Option, Some, None, is_some, option_map, option_and_then, List, [], ◌∷◌, length, take, drop, codes}
use Rattle.std.specs.List.{position}
use Rattle.std.specs.Option.{option_map_or, option_or}
use Rattle.std.specs.Str.{bytes_eq}
use Rattle.iol_script.specs.Numerals.{number_in}
use Rattle.iol_capture.specs.declared.export.ExportForm.{ExportForm}
use Rattle.iol_capture.specs.declared.export.ExportForm.TheVariants.{Timed, Sampled, Events, Logic1, Logic2}
use Rattle.iol_capture.specs.declared.octet_line.OctetLine.{OctetLine}
use Rattle.iol_capture.specs.declared.octet_line.OctetLine.TheVariants.{Other, Skipped, Form, Octet, Damaged, DamagedBefore, Page, Unsampled, Untimed}
use Rattle.iol_capture.specs.declared.export.TheConstants.{PAGE, SAMPLE_RATE}
use Rattle.iol_capture.specs.declared.trace_event.TheConstants.{EVENT_BEGIN, EVENT_END, EVENTS, EVENTS_END, FRAME_ERROR, PARITY_ERROR}
use Rattle.iol_script.specs.Text.{line_words}
use Rattle.iol_capture.specs.TraceLines.{are_none, ten_octets}
use Rattle.iol_capture.specs.Cells.{cells_of, cell_text, without_end}
use Rattle.iol_capture.specs.OctetLines.{digits_behind, octet_form, octet_of, parts_form, time_form}

-- without a byte order mark in front
abbrev pub without_mark : List ℕ → List ℕ
without_mark (a ∷ b ∷ c ∷ line) =
    if a == 0xEF && b == 0xBB && c == 0xBF then line else a ∷ b ∷ c ∷ line
without_mark line = line

-- and without a carriage return behind
abbrev pub bare_line : List ℕ → List ℕ
bare_line line = without_end (without_mark line) 13

-- Tables

-- no digit behind the ninth place, by where the point stands
abbrev pub cut_time : List ℕ → Option ℕ → List ℕ
cut_time word None = word
cut_time word (Some place) = if nat_lt (place + 10) (length word) then take (place + 10) word
    else word

abbrev pub table_time : List ℕ → Option ℕ
table_time word =
    let cut = cut_time word (position (λ b. b == 46) word) in
    time_form cut (position (λ b. b == 46) cut)

-- an octet with its time, which is damaged where an error is named
abbrev pub octet_row : List ℕ → List ℕ → List ℕ → Option OctetLine
octet_row time octet error = option_and_then
    (λ begins. if length (cell_text error) == 0
    then option_map (Octet begins) (octet_form (cell_text octet)) else Some (Damaged begins))
    (table_time (cell_text time))

abbrev pub first_or : List ℕ → List (List ℕ) → List ℕ
first_or cell [] = cell
first_or cell (first ∷ cells) = first

-- a parity error, or else a framing error
abbrev pub error_in : List (List ℕ) → List ℕ
error_in [] = []
error_in (parity ∷ cells) = if length parity == 0 then first_or [] cells else parity

-- time, octet, and the errors
abbrev pub logic1_form : List (List ℕ) → Option OctetLine
logic1_form (time ∷ octet ∷ cells) = octet_row time octet (error_in cells)
logic1_form cells = None

-- name, type, start, duration, octet, error; a row without an octet is of something else
abbrev pub logic2_form : List (List ℕ) → Option OctetLine
logic2_form (name ∷ kind ∷ start ∷ duration ∷ octet ∷ cells) =
    if length (cell_text octet) == 0 then Some Skipped else octet_row start octet
    (first_or [] cells)
logic2_form cells = None

abbrev pub is_cell : List ℕ → List ℕ → Bool
is_cell cell text = bytes_eq (cell_text cell) text

-- the form of the rows below a header
abbrev pub header2_form : List (List ℕ) → Option ExportForm
header2_form (name ∷ kind ∷ start ∷ duration ∷ octet ∷ cells) =
    if is_cell name (codes "name") && is_cell kind (codes "type")
    && is_cell start (codes "start_time") && is_cell duration (codes "duration")
    && is_cell octet (codes "data") && is_cell (first_or (codes "error") cells) (codes "error")
    then Some Logic2 else None
header2_form cells = None

unfoldable pub header_form : List (List ℕ) → Option ExportForm
header_form (time ∷ octet ∷ cells) =
    if is_cell time (codes "Time [s]") && is_cell octet (codes "Value") then Some Logic1
    else header2_form (time ∷ octet ∷ cells)
header_form cells = None

-- Annotations

-- When a sample was taken, in nanoseconds: whole seconds, and a part of one
abbrev pub sample_time : ℕ → ℕ → Option ℕ
sample_time rate sample =
    let time = sample / rate * 10 ^ 9 + sample % rate * 10 ^ 9 / rate in
    if rate == 0 then None else if nat_lt time (2 ^ 64) then Some time else None

-- the octet with which a line ends behind a colon
abbrev pub octet_behind_colon : List ℕ → Option ℕ
octet_behind_colon (a ∷ b ∷ high ∷ low ∷ []) =
    if a == 58 && b == 32 then octet_of high low else None
octet_behind_colon text = None

abbrev pub ending_octet : List ℕ → Option ℕ
ending_octet line =
    if nat_lt (length line) 4 then None else octet_behind_colon (drop (length line - 4) line)

abbrev pub ends_as : List ℕ → List ℕ → Bool
ends_as line text =
    if nat_lt (length line) (length text) then false
    else bytes_eq (drop (length line - length text) line) text

abbrev pub annotation_shows : ℕ → List ℕ → OctetLine
annotation_shows time line =
    if ends_as line (codes ": Frame error") || ends_as line (codes ": Parity error")
    then DamagedBefore
    else option_map_or (Octet time) (ending_octet line) Skipped

-- by where the hyphen stands between the numbers of its first and last sample
abbrev pub annotation_form : ℕ → List ℕ → ℕ → Option OctetLine
annotation_form rate line place = if place == 0 then None else
    option_map (λ time. annotation_shows time line)
    (option_and_then (sample_time rate) (digits_behind (Some 0) (take place line)))

-- whether a line begins with this text
unfoldable pub begins_as : List ℕ → List ℕ → Bool
begins_as line text =
    nat_le (length text) (length line) && bytes_eq (take (length text) line) text

-- Annotations without what tells their times

-- its first word, the decoder's name, ends with a colon
abbrev pub is_named : List ℕ → Bool
is_named line = option_map_or (λ place. ends_as (take place line) (codes ":"))
    (position (λ b. b == 32) line) false

abbrev pub untimed_form : List ℕ → Option OctetLine
untimed_form line = if is_named line then Some Untimed else None

-- it has the numbers of its samples, and nothing says how many are taken in a second
abbrev pub is_sampled : List ℕ → Bool
is_sampled line =
    is_some (option_and_then (annotation_form 1 line) (position (λ b. b == 45) line))

abbrev pub unsampled_form : List ℕ → Option OctetLine
unsampled_form line = if is_sampled line then Some Unsampled else untimed_form line

-- Trace events (JSON)

-- microseconds as nanoseconds, by where the point stands; digits behind the third aren't read
abbrev pub micro_time : List ℕ → ℕ → Option ℕ
micro_time word place = if place == 0 || nat_lt (length word) (place + 4) then None else
    digits_behind (digits_behind (Some 0) (take place word)) (take 3 (drop (place + 1) word))

abbrev pub micro_word : List ℕ → Option ℕ
micro_word word = option_and_then (micro_time word) (position (λ b. b == 46) word)

-- that before the comma
abbrev pub event_time : List ℕ → Option ℕ
event_time text = option_and_then (λ comma. micro_word (take comma text))
    (position (λ b. b == 44) text)

-- the octet that is the name with which an event ends
abbrev pub octet_in_quotes : List ℕ → Option ℕ
octet_in_quotes (a ∷ high ∷ low ∷ b ∷ c ∷ []) =
    if a == 34 && b == 34 && c == 125 then octet_of high low else None
octet_in_quotes text = None

abbrev pub named_octet : List ℕ → Option ℕ
named_octet event =
    if nat_lt (length event) 5 then None else octet_in_quotes (drop (length event - 5) event)

abbrev pub event_shows : ℕ → List ℕ → OctetLine
event_shows time event =
    if ends_as event FRAME_ERROR || ends_as event PARITY_ERROR then DamagedBefore
    else option_map_or (Octet time) (named_octet event) Skipped

-- an annotation begins, with its time, and without the comma behind it
abbrev pub begun_event_form : List ℕ → Option OctetLine
begun_event_form line = option_map (λ time. event_shows time (without_end line 44))
    (event_time (drop (length EVENT_BEGIN) line))

-- that one ends, or all of them, says nothing
abbrev pub trace_event_form : List ℕ → Option OctetLine
trace_event_form line =
    if begins_as line EVENT_BEGIN then begun_event_form line else
    if begins_as line EVENT_END || bytes_eq line EVENTS_END then Some Other else None

-- Lines

-- samples a second
abbrev pub sample_rate_form : List ℕ → Option OctetLine
sample_rate_form number = option_map (λ rate. Form (Sampled rate)) (number_in 1 (2 ^ 32 - 1) number)

-- by the form of the rows below it, if it is a header; else with its time in seconds
abbrev pub headed_form : List ℕ → Option ExportForm → Option OctetLine
headed_form line (Some form) = Some (Form form)
headed_form line None =
    option_or (parts_form line (position (λ b. b == 32) line)) (unsampled_form line)

-- `Samplerate: ` and samples a second, the begin of events, or a line that begins otherwise
abbrev pub untabled_form : List ℕ → Option OctetLine
untabled_form line =
    if begins_as line SAMPLE_RATE then sample_rate_form (drop (length SAMPLE_RATE) line) else
    if bytes_eq line EVENTS then Some (Form Events)
    else headed_form line (header_form (cells_of line))

abbrev pub written_form : ExportForm → List ℕ → Option OctetLine
written_form Timed line = untabled_form line
written_form (Sampled rate) line = option_or
    (option_and_then (annotation_form rate line) (position (λ b. b == 45) line))
    (untimed_form line)
written_form Events line = trace_event_form line
written_form Logic1 line = logic1_form (cells_of line)
written_form Logic2 line = logic2_form (cells_of line)

-- the words behind `page`: ten octets, or `none`
abbrev pub page_words_form : List (List ℕ) → Option OctetLine
page_words_form words =
    if are_none words then Some Other else option_map Page (ten_octets words)

-- a page in front, or a line of its form
abbrev pub shown_form : ExportForm → List ℕ → Option OctetLine
shown_form form line = if begins_as line PAGE
    then option_and_then page_words_form (line_words (drop (length PAGE) line))
    else written_form form line

-- a blank line and a comment say nothing
abbrev pub text_form : ExportForm → List ℕ → Option OctetLine
text_form form [] = Some Other
text_form form (c ∷ line) = if c == 35 then Some Other else shown_form form (c ∷ line)

-- what a line says in an export of this form, where it fits one
abbrev pub export_form : ExportForm → List ℕ → Option OctetLine
export_form form line = text_form form (bare_line line)
