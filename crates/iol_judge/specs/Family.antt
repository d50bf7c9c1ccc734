-- Sets of kinds of device.
use Rattle.std.specs.Prelude.{Bool, true, false, not, ◌&&◌, ◌||◌, if◌then◌else◌}
use Rattle.iol_far.specs.declared.kind.Kind.{Kind}
use Rattle.iol_far.specs.declared.kind.HandsOver.{HandsOver}
use Rattle.iol_far.specs.declared.kind.HandsOver.TheVariants.{FirstRead, LastSegment}
use Rattle.iol_far.specs.declared.kind.Recalls.{Recalls}
use Rattle.iol_far.specs.declared.kind.Recalls.TheVariants.{UntilLeft, UntilSent}
use Rattle.iol_judge.specs.declared.kinds.Kinds.{Kinds}

abbrev pub no_kinds : Kinds
no_kinds = record {
  first_left = false;
  first_sent = false;
  last_left = false;
  last_sent = false;
}

abbrev pub all_kinds : Kinds
all_kinds = record {
  first_left = true;
  first_sent = true;
  last_left = true;
  last_sent = true;
}

abbrev pub only_by : HandsOver → Recalls → Kinds
only_by FirstRead UntilLeft = record no_kinds { first_left = true }
only_by FirstRead UntilSent = record no_kinds { first_sent = true }
only_by LastSegment UntilLeft = record no_kinds { last_left = true }
only_by LastSegment UntilSent = record no_kinds { last_sent = true }

-- one alone
abbrev pub only_kind : Kind → Kinds
only_kind kind = only_by kind.hands_over kind.recalls

abbrev pub has_by : Kinds → HandsOver → Recalls → Bool
has_by kinds FirstRead UntilLeft = kinds.first_left
has_by kinds FirstRead UntilSent = kinds.first_sent
has_by kinds LastSegment UntilLeft = kinds.last_left
has_by kinds LastSegment UntilSent = kinds.last_sent

abbrev pub admits_kind : Kinds → Kind → Bool
admits_kind kinds kind = has_by kinds kind.hands_over kind.recalls

-- those of both
abbrev pub both_kinds : Kinds → Kinds → Kinds
both_kinds a b = record {
  first_left = a.first_left || b.first_left;
  first_sent = a.first_sent || b.first_sent;
  last_left = a.last_left || b.last_left;
  last_sent = a.last_sent || b.last_sent;
}

-- each of the first is one of the second
abbrev pub kinds_within : Kinds → Kinds → Bool
kinds_within a b = (not a.first_left || b.first_left) && (not a.first_sent || b.first_sent)
    && (not a.last_left || b.last_left) && (not a.last_sent || b.last_sent)

abbrev pub recalls_if : Bool → Recalls
recalls_if true = UntilLeft
recalls_if false = UntilSent

-- one of them, where there is one
abbrev pub kind_in : Kinds → Kind
kind_in kinds = if kinds.first_left || kinds.first_sent
    then record { hands_over = FirstRead; recalls = recalls_if kinds.first_left }
    else record { hands_over = LastSegment; recalls = recalls_if kinds.last_left }
