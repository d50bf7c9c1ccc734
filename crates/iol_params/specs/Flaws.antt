-- The numbers of a table's flaws.
use Rattle.std.specs.Prelude.{ℕ}
use Rattle.iol_params.specs.declared.table.Flaw.{Flaw}
use Rattle.iol_params.specs.declared.table.Flaw.TheVariants.{TooManyMembers, ManagedIndex, SubindexOutOfTurn, MixedAccess, BadLength, BadDefault, NoStoredNumber, BrokenAtFirst, TooMuchStored}
use Rattle.iol_params.specs.declared.table.TheConstants.{TOO_MANY_MEMBERS, MANAGED_INDEX, SUBINDEX_OUT_OF_TURN, MIXED_ACCESS, BAD_LENGTH, BAD_DEFAULT, NO_STORED_NUMBER, BROKEN_AT_FIRST, TOO_MUCH_STORED}

abbrev pub flaw_number : Flaw → ℕ
flaw_number TooManyMembers = TOO_MANY_MEMBERS
flaw_number ManagedIndex = MANAGED_INDEX
flaw_number SubindexOutOfTurn = SUBINDEX_OUT_OF_TURN
flaw_number MixedAccess = MIXED_ACCESS
flaw_number BadLength = BAD_LENGTH
flaw_number BadDefault = BAD_DEFAULT
flaw_number NoStoredNumber = NO_STORED_NUMBER
flaw_number BrokenAtFirst = BROKEN_AT_FIRST
flaw_number TooMuchStored = TOO_MUCH_STORED
