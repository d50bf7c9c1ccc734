-- What `check` prints for each line.
use Rattle.std.specs.Prelude.{◌≡◌, ℕ, Bool, true, false, Result, Ok, MatchOption, MatchResult, List, [], ◌∷◌, ◌++◌, Some, None}
use Rattle.std.specs.Result.{result_unwrap_or}
use Rattle.iol_mseq.specs.Shape.{Shape, startup_shape, preoperate_shape, operate_shape}
use Rattle.iol_mseq.specs.declared.fault.MseqFault.{MseqFault}
use Rattle.iol_script.specs.CheckLines.{CheckForm, skip, layout, master, read_reply, write_reply, check_form, first_bad}
use Rattle.iol_print.specs.Printed.{refusal_text}
use Rattle.iol_print.specs.Meanings.{PrintsMessage, PrintsReply}
use Rattle.iol_commands.specs.Printed.{layout_text}
use Rattle.iol_script.specs.declared.check_line.LayoutLine.{LayoutLine}
use Rattle.iol_script.specs.declared.check_line.LayoutLine.TheVariants.{Startup, Preoperate, Operate}
use Rattle.iol_commands.specs.Input.{CommandReading}

-- the layout that a line asks for
abbrev pub asked_layout : LayoutLine → Result Shape MseqFault
asked_layout Startup = Ok startup_shape
asked_layout (Preoperate code) = preoperate_shape code
asked_layout (Operate code input output) = operate_shape code input output

-- the layout after a line: a refused one leaves it
abbrev pub layout_after : Shape → CheckForm → Shape
layout_after present (layout line) = result_unwrap_or (asked_layout line) present
layout_after present _ = present

-- what is printed for a line in the present layout
abbrev pub PrintsLine : Shape → CheckForm → List ℕ → Type 0
PrintsLine present skip text = text ≡ []
PrintsLine present (layout line) text =
    MatchResult (asked_layout line) (λ taken. text ≡ layout_text taken)
    (λ fault. text ≡ refusal_text fault)
PrintsLine present (master octets) text = PrintsMessage present octets text
PrintsLine present (read_reply octets) text = PrintsReply present true octets text
PrintsLine present (write_reply octets) text = PrintsReply present false octets text

-- what is printed for lines, one after the other; each fits a form
abbrev pub PrintsAll : Shape → List (ℕ × List ℕ) → List ℕ → Type 0
PrintsAll present [] text = text ≡ []
PrintsAll present ((number, line) ∷ lines) text =
    MatchOption (check_form line) ⊥
    (λ form. (first : List ℕ) × (later : List ℕ) × (text ≡ first ++ later)
    × PrintsLine present form first × PrintsAll (layout_after present form) lines later)

-- what `check` makes of its lines
abbrev pub check_reading : CommandReading
check_reading = record {
  bad_at = λ lines n. first_bad lines ≡ Some n;
  are_good = λ lines. first_bad lines ≡ None;
  bad_table = λ lines why. ⊥;
  prints = PrintsAll startup_shape;
}
