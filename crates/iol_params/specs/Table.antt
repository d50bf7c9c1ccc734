-- What a table has to be.
use Rattle.std.specs.Prelude.{ℕ, ◌+◌, ◌/◌, ◌%◌, Bool, true, false, ◌==◌, ◌&&◌, ◌||◌, not, nat_le, if◌then◌else◌, List, [], ◌∷◌, ◌++◌, Option, Some, None, count_by, length}
use Rattle.std.specs.List.{list_any, list_all}
use Rattle.iol_isdu.specs.declared.values.Place.{Place}
use Rattle.iol_params.specs.declared.member.Member.{Member}
use Rattle.iol_params.specs.declared.member.Access.{Access}
use Rattle.iol_params.specs.declared.member.Access.TheVariants.{ReadOnly, ReadWrite, Stored}
use Rattle.iol_params.specs.declared.member.DataType.{DataType}
use Rattle.iol_params.specs.declared.member.DataType.TheVariants.{UInteger, OctetString, Text}
use Rattle.iol_params.specs.declared.table.OrderRule.{OrderRule}
use Rattle.iol_params.specs.declared.table.Flaw.{Flaw}
use Rattle.iol_params.specs.declared.table.Flaw.TheVariants.{TooManyMembers, ManagedIndex, SubindexOutOfTurn, MixedAccess, BadLength, BadDefault, NoStoredNumber, BrokenAtFirst, TooMuchStored}
use Rattle.iol_params.specs.declared.table.TableFault.{TableFault}
use Rattle.iol_params.specs.Members.{fits_type, selects}
use Rattle.iol_params.specs.Values.{most_of, most_at, holds_rule, defaults, has_stored_number, is_stored}

pub record ParamTable : Type 0 where
  pub members : List Member
  pub rules : List OrderRule

-- the whole parameter of an Index
abbrev pub whole : ℕ → Place
whole index = record { index = index; sub = 0 }

-- the Indexes that the manager has itself: both direct parameter pages, SystemCommand, Data
-- Storage and the access locks
-- PAR-3
abbrev pub is_managed : ℕ → Bool
is_managed index = nat_le index 3 || (index == 12)

abbrev pub is_of_index : ℕ → Member → Bool
is_of_index index member = member.place.index == index

abbrev pub same_access : Access → Access → Bool
same_access ReadOnly ReadOnly = true
same_access ReadWrite ReadWrite = true
same_access Stored Stored = true
same_access _ _ = false

-- a member of the same Index that another may change
abbrev pub differs : Member → Member → Bool
differs member other =
    is_of_index member.place.index other && not (same_access member.access other.access)

-- the Subindex that a member has, by those of its Index and those before it
abbrev pub sub_in_turn : ℕ → ℕ → ℕ
sub_in_turn members before = if members == 1 then 0 else before + 1

-- a text alone is as long as it likes, so it has no neighbours
abbrev pub may_stand : DataType → ℕ → Bool
may_stand (UInteger width least most) sub = true
may_stand (OctetString count) sub = true
may_stand (Text count) sub = sub == 0

-- a member has octets, and its parameter no more than fit into one ISDU
abbrev pub has_length : List Member → Member → Bool
has_length members m = nat_le 1 (most_of m) && nat_le (most_at members (whole m.place.index)) 232
    && may_stand m.data_type m.place.sub

-- why a member can't stand there, behind these
-- PAR-1, PAR-2
abbrev pub member_flaw : List Member → List Member → Member → Option Flaw
member_flaw members before m =
    if is_managed m.place.index then Some ManagedIndex else
    if not (m.place.sub == sub_in_turn (count_by (is_of_index m.place.index) members)
    (count_by (is_of_index m.place.index) before)) then Some SubindexOutOfTurn else
    if list_any (differs m) members then Some MixedAccess else
    if not (has_length members m) then Some BadLength else
    if not (fits_type m.data_type m.default.now) then Some BadDefault else None

-- the flaw of this row, if it has one, else what follows
abbrev pub fault_or : ℕ → Option Flaw → Option TableFault → Option TableFault
fault_or row (Some flaw) other = Some (record { row = row; flaw = flaw })
fault_or row None other = other

abbrev pub first_fault : Option TableFault → Option TableFault → Option TableFault
first_fault (Some fault) other = Some fault
first_fault None other = other

-- the first flaw of members from this row on
abbrev pub members_fault : List Member → List Member → ℕ → List Member → Option TableFault
members_fault members before row [] = None
members_fault members before row (m ∷ ms) = fault_or row (member_flaw members before m)
    (members_fault members (before ++ m ∷ []) (row + 1) ms)

-- whether each member of a place is a stored number
abbrev pub are_stored_numbers : Place → List Member → Bool
are_stored_numbers place members =
    list_all (λ m. not (selects place m) || has_stored_number m) members

-- whether a place is that of one stored number
-- PAR-6
abbrev pub is_stored_number : List Member → Place → Bool
is_stored_number members place = (count_by (selects place) members == 1)
    && are_stored_numbers place members

abbrev pub rule_flaw : List Member → OrderRule → Option Flaw
rule_flaw members rule =
    if not (is_stored_number members rule.low) || not (is_stored_number members rule.high)
    then Some NoStoredNumber else
    if not (holds_rule members (defaults members) rule) then Some BrokenAtFirst else None

-- the first flaw of order rules from this row on
abbrev pub rules_fault : List Member → ℕ → List OrderRule → Option TableFault
rules_fault members row [] = None
rules_fault members row (rule ∷ rules) =
    fault_or row (rule_flaw members rule) (rules_fault members (row + 1) rules)

-- the first member of a parameter that Data Storage keeps
abbrev pub begins_stored : Member → Bool
begins_stored m = is_stored m.access && nat_le m.place.sub 1

-- the size of a set: for each of its parameters Index, Subindex, length and the longest value
abbrev pub set_size : List Member → List Member → ℕ
set_size members [] = 0
set_size members (m ∷ ms) = if begins_stored m
    then 4 + most_at members (whole m.place.index) + set_size members ms else set_size members ms

abbrev pub two_octets : ℕ → List ℕ
two_octets number = (number / 256) ∷ (number % 256) ∷ []

-- Index and Subindex 0 of each, and an Index 0 behind them
-- DSD-2
abbrev pub index_list : List Member → List ℕ
index_list [] = two_octets 0
index_list (m ∷ ms) = if begins_stored m then two_octets m.place.index ++ (0 ∷ index_list ms)
    else index_list ms

-- more than 76 parameters, whose Index_List is too long to read, or more than 2,048 octets
-- DSD-2
abbrev pub storage_fault : List Member → Option TableFault
storage_fault members =
    if nat_le (length (index_list members)) 232 && nat_le (set_size members members) 2048
    then None else Some (record { row = length members; flaw = TooMuchStored })

-- the first flaw of a table, members first
-- PAR-1
abbrev pub table_fault : List Member → List OrderRule → Option TableFault
table_fault members rules =
    if not (nat_le (length members) 1000)
    then Some (record { row = 1000; flaw = TooManyMembers })
    else first_fault (members_fault members [] 0 members)
    (first_fault (storage_fault members) (rules_fault members 0 rules))
