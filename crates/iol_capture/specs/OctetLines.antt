-- The lines of a decoder's export: `SECONDS OCTET`, and `SECONDS wake`.
use Rattle.std.specs.Prelude.{ℕ, ◌+◌, ◌-◌, ◌*◌, ◌^◌, ◌&&◌, ◌||◌, ◌==◌, nat_lt, nat_le, if◌then◌else◌, Option, Some, None, option_map, option_and_then, List, [], ◌∷◌, length, take, drop, fold, codes}
use Rattle.std.specs.Char.{digit_value}
use Rattle.std.specs.List.{position}
use Rattle.std.specs.Str.{bytes_eq}
use Rattle.iol_capture.specs.declared.octet_line.TheConstants.{PLACES, ZEROS}
use Rattle.iol_capture.specs.declared.octet_line.OctetLine.{OctetLine}
use Rattle.iol_capture.specs.declared.octet_line.OctetLine.TheVariants.{Other, Octet, Wake}

-- Times

-- a number with one more decimal digit behind its own, below 2^64
abbrev pub digit_behind : Option ℕ → ℕ → Option ℕ
digit_behind None c = None
digit_behind (Some number) c =
    if nat_le 48 c && nat_le c 57 && nat_lt (number * 10 + (c - 48)) (2 ^ 64)
    then Some (number * 10 + (c - 48)) else None

abbrev pub digits_behind : Option ℕ → List ℕ → Option ℕ
digits_behind None digits = None
digits_behind (Some number) digits = fold digit_behind (Some number) digits

-- digits before and behind a point, with zeros up to the ninth place behind it, are one number
abbrev pub nanoseconds : List ℕ → List ℕ → Option ℕ
nanoseconds whole fraction =
    if length whole == 0 || nat_lt PLACES (length fraction) then None else
    digits_behind (digits_behind (digits_behind (Some 0) whole) fraction)
    (drop (length fraction) ZEROS)

-- seconds, by where the point stands
abbrev pub time_form : List ℕ → Option ℕ → Option ℕ
time_form word None = nanoseconds word []
time_form word (Some place) =
    if place + 1 == length word then None else
    nanoseconds (take place word) (drop (place + 1) word)

-- Octets

-- two hexadecimal digits, in both cases
abbrev pub octet_of : ℕ → ℕ → Option ℕ
octet_of high low =
    if nat_lt (digit_value high) 16 && nat_lt (digit_value low) 16
    then Some (digit_value high * 16 + digit_value low) else None

-- with or without `0x`
abbrev pub octet_form : List ℕ → Option ℕ
octet_form (high ∷ low ∷ []) = octet_of high low
octet_form (a ∷ b ∷ high ∷ low ∷ []) = if a == 48 && b == 120 then octet_of high low else None
octet_form word = None

-- Lines

abbrev pub word_form : List ℕ → ℕ → Option OctetLine
word_form word time =
    if bytes_eq word (codes "wake") then Some (Wake time) else
    option_map (Octet time) (octet_form word)

-- by where the space stands
abbrev pub parts_form : List ℕ → Option ℕ → Option OctetLine
parts_form line None = None
parts_form line (Some place) =
    let seconds = take place line in
    option_and_then (word_form (drop (place + 1) line))
    (time_form seconds (position (λ b. b == 46) seconds))

-- what a line says, where it fits a form; a blank line and a comment say nothing
abbrev pub line_form : List ℕ → Option OctetLine
line_form [] = Some Other
line_form (c ∷ line) =
    if c == 35 then Some Other else parts_form (c ∷ line) (position (λ b. b == 32) (c ∷ line))
