-- The cells of a row of a table, with a comma between two of them, each within quotes or without.
use Rattle.std.specs.Prelude.{ℕ, ◌-◌, ◌==◌, if◌then◌else◌, List, [], ◌∷◌, length, take, slice_index}
use Rattle.std.specs.List.{slice_split}
use Rattle.std.specs.Option.{option_map_or}
use Rattle.iol_capture.specs.declared.cells.Cells.{Cells}

abbrev pub cells_of : List ℕ → List (List ℕ)
cells_of row = slice_split (λ b. b == 44) row

-- those that an iterator has left
abbrev pub cells_left : Cells → List (List ℕ)
cells_left cells = option_map_or (λ text. cells_of text.now) cells.left []

-- without this octet at its end
abbrev pub without_end : List ℕ → ℕ → List ℕ
without_end [] end = []
without_end (c ∷ line) end =
    if slice_index (c ∷ line) (length (c ∷ line) - 1) == end
    then take (length (c ∷ line) - 1) (c ∷ line) else c ∷ line

abbrev pub cell_text : List ℕ → List ℕ
cell_text [] = []
cell_text (c ∷ cell) = if c == 34 then without_end cell 34 else c ∷ cell
