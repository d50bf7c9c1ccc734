-- What a table without a fault is.
use Rattle.std.specs.Prelude.{◌≡◌, ℕ, ◌≤◌, true, List, length}
use Rattle.iol_isdu.specs.declared.values.Place.{Place}
use Rattle.iol_params.specs.Values.{all_fit, defaults, reset_values, most_at}
use Rattle.iol_params.specs.Table.{ParamTable, index_list, set_size}
use Rattle.iol_params.specs.Carry.{is_consistent}

-- what a table without a fault is
pub record IsSoundTable (table : ParamTable) : Type 0 where
  pub few : length table.members ≤ 1000
  -- each value fits into one ISDU
  pub short : (place : Place) → most_at table.members place ≤ 232
  pub fit : all_fit table.members (defaults table.members) ≡ true
  -- and so does the Index_List
  pub listed : length (index_list table.members) ≤ 232
  pub stored : set_size table.members table.members ≤ 2048
  pub consistent : is_consistent table (defaults table.members) ≡ true
  -- and so it is after a reset
  pub resets : (values : List (List ℕ)) → all_fit table.members values ≡ true
      → is_consistent table (reset_values table.members values) ≡ true
