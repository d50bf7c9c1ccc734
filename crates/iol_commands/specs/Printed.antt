-- What `check` prints for a layout, and how some text is added.
use Rattle.std.specs.Prelude.{ℕ, Result, List, ◌++◌, String, string_bytes, codes}
use Rattle.std.specs.Fmt.{decimal}
use Rattle.iol_octets.specs.CheckOctets.{type_bits}
use Rattle.iol_mseq.specs.Shape.{Shape}
use Rattle.iol_print.specs.Sink.{PutsSome}

-- where it's `Ok`, some text was added, and this holds of it
abbrev pub PrintsSome : {T E A : Type 0} → Result T E → String A → String A
    → (List ℕ → Type 0) → Type 0
PrintsSome result old new holds = PutsSome result (string_bytes old) (string_bytes new) holds

-- a name and a decimal number
abbrev pub number_text : List ℕ → ℕ → List ℕ
number_text name number = name ++ decimal number

-- the M-sequence type, and how many octets on-request data has
abbrev pub type_text : Shape → List ℕ
type_text layout =
    number_text (codes "layout type ") (type_bits layout.kind)
    ++ number_text (codes " od ") layout.od

-- how many octets of process data go in and out
abbrev pub process_text : Shape → List ℕ
process_text layout =
    number_text (codes " in ") layout.pd_in ++ number_text (codes " out ") layout.pd_out

-- the line of a layout that is taken
abbrev pub layout_text : Shape → List ℕ
layout_text layout = type_text layout ++ process_text layout ++ codes "\n"
