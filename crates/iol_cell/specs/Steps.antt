-- The four kinds of step of a cell. Each changes what one user knows, but a join,
-- which changes it for two.
use Rattle.std.specs.Prelude.{◌≡◌, ℕ, true, false, nat_lt, if◌then◌else◌, List, [], ◌∷◌, ◌++◌, Option, length}
use Rattle.crossbeam_utils.specs.Register.{Turns, Forks, Merges}
use Rattle.iol_cell.specs.Packing.{image_of}
use Rattle.iol_cell.specs.Published.{CellRule, StartsWith, last_image}
use Rattle.iol_cell.specs.declared.steps.Sight.{Sight}

-- the writer of a new cell
abbrev pub first_writer : Sight
first_writer = record { writes = true; observed = [] }

-- a read adds to what was seen, and finds the last image of it
pub record Reads (old : Sight) (before after : List ℕ) (new : Sight) : Type 0 where
  pub same_role : new.writes ≡ old.writes
  pub later : StartsWith new.observed old.observed
  pub found : image_of before ≡ last_image new.observed

-- a publish puts an image, or none, behind those before
pub record Publishes (old : Sight) (before after : List ℕ) (new : Sight) : Type 0 where
  pub same_role : new.writes ≡ old.writes
  pub appended : new.observed ≡ old.observed ++ image_of after ∷ []

-- a split leaves the user that is split as it is, and makes a seat that has seen the same
abbrev pub seat_beside : Sight → Sight
seat_beside old = record { writes = false; observed = old.observed }

abbrev pub longer_list : List (Option (List ℕ)) → List (Option (List ℕ)) → List (Option (List ℕ))
longer_list images others = if nat_lt (length images) (length others) then others else images

-- a join gives a seat the longer of two lists
abbrev pub joined_seat : Sight → Sight → Sight
joined_seat into from = record {
  writes = false;
  observed = longer_list into.observed from.observed;
}

-- and leaves the other one with the empty list
abbrev pub spent_seat : Sight
spent_seat = record { writes = false; observed = [] }

abbrev pub ReadsKeepTheRule : Type 0
ReadsKeepTheRule = (user : ℕ) (sight : Sight) → Turns CellRule user sight (λ words. words) Reads

abbrev pub PublishesKeepTheRule : Type 0
PublishesKeepTheRule = (user : ℕ) (sight : Sight) (words : List ℕ) → sight.writes ≡ true
    → Turns CellRule user sight (λ _. words) Publishes

abbrev pub SplitsKeepTheRule : Type 0
SplitsKeepTheRule = (user : ℕ) (sight : Sight) → Forks CellRule user sight sight (seat_beside sight)

abbrev pub JoinsKeepTheRule : Type 0
JoinsKeepTheRule = (user other : ℕ) (into from : Sight) → into.writes ≡ false
    → Merges CellRule user into other from (joined_seat into from) spent_seat
