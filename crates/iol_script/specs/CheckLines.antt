-- The lines of `check`.
use Rattle.std.specs.Prelude.{ℕ, Option, Some, None, is_some, option_map, option_and_then, List, [], ◌∷◌, if◌then◌else◌, codes}
use Rattle.std.specs.Str.{bytes_eq}
use Rattle.iol_script.specs.Text.{alone, line_words}
use Rattle.iol_script.specs.Numerals.{of_three, octets_of_words, number_in, octets_within}
use Rattle.iol_script.specs.declared.check_line.LayoutLine.{LayoutLine}
use Rattle.iol_script.specs.declared.check_line.LayoutLine.TheVariants.{Startup, Preoperate, Operate}
use Rattle.iol_script.specs.declared.check_line.CheckLine.{CheckLine}
use Rattle.iol_script.specs.declared.check_line.CheckLine.TheVariants.{Skip, Layout, Master, ReadReply, WriteReply}

-- what a line says: nothing, which layout is asked for, or the octets of a master
-- message, of the reply to a read or to a write
pub data CheckForm : Type 0 where
  skip : CheckForm
  layout : LayoutLine → CheckForm
  master : List ℕ → CheckForm
  read_reply : List ℕ → CheckForm
  write_reply : List ℕ → CheckForm

-- 1 to 128 octets in words of their own
abbrev pub message_form : List (List ℕ) → Option (List ℕ)
message_form words = option_and_then (octets_within 1 128) (octets_of_words words)

-- the word behind `preoperate`: a code
abbrev pub preoperate_form : List (List ℕ) → Option LayoutLine
preoperate_form (code ∷ []) = option_map Preoperate (number_in 0 255 code)
preoperate_form _ = None

-- the words behind `operate`: a code, and how many octets go in and out
abbrev pub operate_form : List (List ℕ) → Option LayoutLine
operate_form (code ∷ input ∷ output ∷ []) =
    of_three Operate (number_in 0 255 code) (number_in 0 255 input) (number_in 0 255 output)
operate_form _ = None

-- the words behind `layout`
abbrev pub layout_form : List (List ℕ) → Option LayoutLine
layout_form [] = None
layout_form (mode ∷ words) =
    if bytes_eq mode (codes "startup") then alone (Some Startup) words else
    if bytes_eq mode (codes "preoperate") then preoperate_form words else
    if bytes_eq mode (codes "operate") then operate_form words else None

-- the form that the words of a line fit: a line without words says nothing
abbrev pub words_form : List (List ℕ) → Option CheckForm
words_form [] = Some skip
words_form (name ∷ words) =
    if bytes_eq name (codes "layout") then option_map layout (layout_form words) else
    if bytes_eq name (codes "m") then option_map master (message_form words) else
    if bytes_eq name (codes "r") then option_map read_reply (message_form words) else
    if bytes_eq name (codes "w") then option_map write_reply (message_form words) else None

-- the form that a line fits
abbrev pub check_form : List ℕ → Option CheckForm
check_form line = option_and_then words_form (line_words line)

-- what a parsed line says
abbrev pub parsed_form : CheckLine → CheckForm
parsed_form Skip = skip
parsed_form (Layout line) = layout line
parsed_form (Master octets) = master octets.items
parsed_form (ReadReply octets) = read_reply octets.items
parsed_form (WriteReply octets) = write_reply octets.items

-- the number of the first line that fits no form
abbrev pub first_bad : List (ℕ × List ℕ) → Option ℕ
first_bad [] = None
first_bad ((number, line) ∷ lines) =
    if is_some (check_form line) then first_bad lines else Some number
