-- What each round of a loop of `TableLines::members` keeps.
use Rattle.std.proofs.Common.{take}
use Rattle.iol_script.specs.Tables.{AreMembers}
use Rattle.iol_script.proofs.table_lines.TableLines.members.Given as goal

-- as many as were looked at
abbrev pub invariant-loop-param : goal.invariant-loop-param
invariant-loop-param g l = AreMembers l.self (take l.param-index l.params) l.members.items
