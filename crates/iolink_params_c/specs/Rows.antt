-- The table, as C writes it.
use Rattle.std.specs.Prelude.{ℕ, Bool, ◌==◌, ◌&&◌, if◌then◌else◌, List, map, Option, Some, None, is_some, unwrap_or}
use Rattle.iol_params.specs.declared.member.Member.{Member}
use Rattle.iol_params.specs.declared.member.Access.{Access}
use Rattle.iol_params.specs.declared.member.Access.TheVariants.{ReadOnly, ReadWrite, Stored}
use Rattle.iol_params.specs.declared.member.DataType.{DataType}
use Rattle.iol_params.specs.declared.member.DataType.TheVariants.{UInteger, OctetString, Text}
use Rattle.iol_params.specs.declared.member.IntegerWidth.TheVariants.{One, Two, Four}
use Rattle.iol_params.specs.declared.table.OrderRule.{OrderRule}
use Rattle.iol_params.specs.Table.{ParamTable}
use Rattle.iolink_params_c.specs.declared.rows.IolParamRow.{IolParamRow}
use Rattle.iolink_params_c.specs.declared.rows.IolOrderRule.{IolOrderRule}

-- the data type of this number: a number of so many octets, octets, a text
abbrev pub type_numbered : ℕ → ℕ → ℕ → ℕ → Option DataType
type_numbered number count least most =
    if number == 1 then Some (UInteger One least most) else
    if number == 2 then Some (UInteger Two least most) else
    if number == 4 then Some (UInteger Four least most) else
    if number == 5 then Some (OctetString count) else
    if number == 6 then Some (Text count) else None

abbrev pub access_numbered : ℕ → Option Access
access_numbered number =
    if number == 1 then Some ReadOnly else
    if number == 2 then Some ReadWrite else
    if number == 3 then Some Stored else None

abbrev pub type_of : IolParamRow → Option DataType
type_of row = type_numbered row.data_type row.count row.least row.most

-- whether the numbers of a row mean a data type and an access
abbrev pub is_row : IolParamRow → Bool
is_row row = is_some (type_of row) && is_some (access_numbered row.access)

-- the member that a row means
abbrev pub member_of : IolParamRow → Member
member_of row = record {
  place = record { index = row.index; sub = row.sub };
  data_type = unwrap_or (type_of row) (Text 0);
  access = unwrap_or (access_numbered row.access) ReadOnly;
  default = row.octets;
}

abbrev pub rule_of : IolOrderRule → OrderRule
rule_of rule = record {
  low = record { index = rule.low; sub = rule.low_sub };
  high = record { index = rule.high; sub = rule.high_sub };
}

abbrev pub table_of : List IolParamRow → List IolOrderRule → ParamTable
table_of rows rules = record { members = map member_of rows; rules = map rule_of rules }
