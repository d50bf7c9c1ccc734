-- What lines say of the table of a device's parameters: which members these are.
use Rattle.std.specs.Prelude.{◌≡◌, ℕ, Bool, ◌==◌, ◌&&◌, nat_lt, if◌then◌else◌, Option, Some, None, is_some, option_and_then, position, slice_get, List, [], ◌∷◌, ◌++◌, length}
use Rattle.std.specs.List.{list_any, AllZip}
use Rattle.iol_isdu.specs.declared.values.Place.{Place}
use Rattle.iol_params.specs.declared.member.Access.{Access}
use Rattle.iol_params.specs.declared.member.Access.TheVariants.{ReadOnly, ReadWrite, Stored}
use Rattle.iol_params.specs.declared.member.DataType.{DataType}
use Rattle.iol_params.specs.declared.member.DataType.TheVariants.{UInteger, OctetString}
use Rattle.iol_params.specs.declared.member.IntegerWidth.{IntegerWidth}
use Rattle.iol_params.specs.declared.member.IntegerWidth.TheVariants.{One, Two, Four}
use Rattle.iol_params.specs.declared.member.Member.{Member}
use Rattle.iol_params.specs.declared.table.OrderRule.{OrderRule}
use Rattle.iol_sim.specs.Params.{same_place}
use Rattle.iol_sim.specs.declared.params.ParameterEntry.{ParameterEntry}
use Rattle.iol_script.specs.declared.table_lines.NumberRange.{NumberRange}
use Rattle.iol_script.specs.declared.table_lines.NumberOrder.{NumberOrder}

pub record TableRules : Type 0 where
  -- the Indexes that Data Storage keeps
  pub stored : List ℕ
  pub ranges : List NumberRange
  pub rules : List NumberOrder

abbrev pub no_table : TableRules
no_table = record { stored = []; ranges = []; rules = [] }

-- whether no line says anything of a table
abbrev pub has_no_table : TableRules → Bool
has_no_table t = (length t.stored == 0) && (length t.ranges == 0) && (length t.rules == 0)

-- whether Data Storage keeps an Index
abbrev pub is_stored_index : TableRules → ℕ → Bool
is_stored_index t index = list_any (λ stored. stored == index) t.stored

-- where the range of a place stands among the others
abbrev pub range_number : List NumberRange → Place → Option ℕ
range_number ranges place = position (λ range. same_place range.place place) ranges

-- the range of the number at a place, if it has one
abbrev pub range_at : List NumberRange → Place → Option NumberRange
range_at ranges place = option_and_then (slice_get ranges) (range_number ranges place)

-- One line more, of which there are at most 32 of each sort

abbrev pub one_line_more : {T : Type 0} → List T → T → (List T → TableRules) → Option TableRules
one_line_more lines line table =
    if nat_lt (length lines) 32 then Some (table (lines ++ line ∷ [])) else None

-- an Index that Data Storage keeps: each once
abbrev pub with_stored_index : TableRules → ℕ → Option TableRules
with_stored_index t index =
    if is_stored_index t index then None else one_line_more t.stored index
    (λ stored. record t { stored = stored })

-- a range: at most one a place
abbrev pub with_range : TableRules → NumberRange → Option TableRules
with_range t range =
    if is_some (range_at t.ranges range.place) then None
    else one_line_more t.ranges range (λ ranges. record t { ranges = ranges })

abbrev pub with_rule : TableRules → NumberOrder → Option TableRules
with_rule t rule = one_line_more t.rules rule (λ rules. record t { rules = rules })

abbrev pub order_rule_of : NumberOrder → OrderRule
order_rule_of order = record { low = order.low; high = order.high }

-- The member that a parameter is

-- a number of so many octets; one of another count fits no range
abbrev pub width_of_param : ParameterEntry → IntegerWidth
width_of_param param =
    if length param.value.items == 1 then One else
    if length param.value.items == 2 then Two else Four

-- a number, where it has a range, else just so many octets as it has
abbrev pub type_with : ParameterEntry → Option NumberRange → DataType
type_with param (Some range) = UInteger (width_of_param param) range.least range.most
type_with param None = OctetString (length param.value.items)

abbrev pub type_of_param : List NumberRange → ParameterEntry → DataType
type_of_param ranges param = type_with param (range_at ranges param.place)

abbrev pub access_of_param : TableRules → ParameterEntry → Access
access_of_param t param =
    if param.writable then (if is_stored_index t param.place.index then Stored else ReadWrite)
    else ReadOnly

pub record IsMember (t : TableRules) (param : ParameterEntry) (member : Member) : Type 0 where
  pub place : member.place ≡ param.place
  pub data_type : member.data_type ≡ type_of_param t.ranges param
  pub access : member.access ≡ access_of_param t param
  pub default : member.default.now ≡ param.value.items

-- one for each parameter, in their order
abbrev pub AreMembers : TableRules → List ParameterEntry → List Member → Type 0
AreMembers t params members = AllZip (IsMember t) params members
