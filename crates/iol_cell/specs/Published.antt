-- The images that were published in a cell, in order, none among them. What its
-- users know of them is the first of these.
use Rattle.std.specs.Prelude.{◌≡◌, ℕ, true, Option, None, List, [], ◌∷◌, ◌++◌}
use mathlib.Core.Option.{some}
use lib.ListN.{get_elem?}
use Rattle.atomic_table.specs.Seated.{TableId}
use Rattle.iol_cell.specs.Packing.{image_of}
use Rattle.iol_cell.specs.declared.steps.Sight.{Sight}

-- which cell a writer or a seat is of, and the images that the writer published, or
-- that the seat has seen
pub record CellImages : Type 0 where
  pub cell : TableId
  pub images : List (Option (List ℕ))

-- the last image, none where none was published
abbrev pub last_image : List (Option (List ℕ)) → Option (List ℕ)
last_image [] = None
last_image (image ∷ []) = image
last_image (image ∷ next ∷ rest) = last_image (next ∷ rest)

-- the images begin with these
abbrev pub StartsWith : List (Option (List ℕ)) → List (Option (List ℕ)) → Type 0
StartsWith images first = (rest : List (Option (List ℕ))) × (images ≡ first ++ rest)

-- The rule of a cell: its words show the last of one list of published images. The list of
-- each user is the beginning of that one, the writer's is all of it, and there is one writer.
pub record CellRule (words : List ℕ) (users : List Sight) : Type 0 where
  pub published : List (Option (List ℕ))
  pub shows : image_of words ≡ last_image published
  pub begins : (user : ℕ) (sight : Sight) → get_elem? users user ≡ some sight
      → StartsWith published sight.observed
  pub whole : (user : ℕ) (sight : Sight) → get_elem? users user ≡ some sight → sight.writes ≡ true
      → sight.observed ≡ published
  pub one_writer : (user other : ℕ) (sight beside : Sight) → get_elem? users user ≡ some sight
      → get_elem? users other ≡ some beside
      → sight.writes ≡ true → beside.writes ≡ true → user ≡ other
