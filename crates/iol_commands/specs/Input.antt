-- What a command reads: of a reader whose bytes are known, the whole input, up to its limit.
use Rattle.std.specs.Prelude.{◌≡◌, ℕ, ◌+◌, ◌<◌, ◌≤◌, List, Option, Result, Err, IfSome, OnOk, length}
use Rattle.std.specs.Io.KnownBytes.{Appends, Consumes}
use Rattle.iol_params.specs.declared.table.TableFault.{TableFault}
use Rattle.iol_script.specs.Text.{numbered_lines}
use Rattle.iol_commands.specs.declared.fault.ProgramFault.{ProgramFault}
use Rattle.iol_commands.specs.declared.fault.ProgramFault.TheVariants.{Line, Table, TooLong}
use Rattle.iol_commands.specs.declared.streams.TheConstants.{LIMIT}

-- the input is longer than the limit
abbrev pub IsTooLong : Option (List ℕ) → Type 0
IsTooLong remaining = IfSome remaining (λ input. LIMIT < length input)

-- it is within the limit, and this holds of its lines
abbrev pub OfLines : Option (List ℕ) → (List (ℕ × List ℕ) → Type 0) → Type 0
OfLines remaining holds =
    IfSome remaining (λ input. (length input ≤ LIMIT) × holds (numbered_lines input))

-- at most one byte past the limit is taken
abbrev pub TakesInput : Option (List ℕ) → Option (List ℕ) → Type 0
TakesInput before after = (bytes : List ℕ) × Consumes before after bytes
    × (length bytes ≤ LIMIT + 1)

-- a text is written behind what was written, and this holds of the lines of the input and of it
abbrev pub Writes : Option (List ℕ) → Option (List ℕ) → Option (List ℕ)
    → (List (ℕ × List ℕ) → List ℕ → Type 0) → Type 0
Writes remaining before after prints = (text : List ℕ) × Appends before after text
    × IfSome remaining (λ input. prints (numbered_lines input) text)

-- What a command makes of the lines of its input: which one is bad, by its number; whether all are
-- good; which flaw the table has that they make; and what is printed for them
pub record CommandReading : Type 1 where
  pub bad_at : List (ℕ × List ℕ) → ℕ → Type 0
  pub are_good : List (ℕ × List ℕ) → Type 0
  pub bad_table : List (ℕ × List ℕ) → TableFault → Type 0
  pub prints : List (ℕ × List ℕ) → List ℕ → Type 0

-- What is left of a command's input before and after it, and what was written, where that is known
pub record Streams : Type 0 where
  pub input : Option (List ℕ)
  pub input_left : Option (List ℕ)
  pub output : Option (List ℕ)
  pub output_new : Option (List ℕ)

-- what a command answers that reads its input whole, and then its lines
pub record AnswersInput (reading : CommandReading) (streams : Streams)
    (result : Result (Unit {0}) ProgramFault) : Type 0 where
  pub too_long : result ≡ Err TooLong → IsTooLong streams.input
  pub bad_line : (n : ℕ) → result ≡ Err (Line n)
      → OfLines streams.input (λ lines. reading.bad_at lines n)
  pub good : OnOk result (OfLines streams.input reading.are_good)
  pub flaw : (why : TableFault) → result ≡ Err (Table why)
      → OfLines streams.input (λ lines. reading.bad_table lines why)
  pub taken : TakesInput streams.input streams.input_left
  pub printed :
      OnOk result (Writes streams.input streams.output streams.output_new reading.prints)
