-- The clauses of `streams::read_input` that the search can't prove.
use Rattle.std.proofs.Common.{rules, arith}
use Rattle.std.proofs.lemmas.List.{length-take}
use Rattle.iol_commands.proofs.Taken.{taken, too_long, whole}
use Rattle.iol_commands.proofs.streams.read_input.Goals as goal

pub returns-then-count-len-clause-taken : goal.returns-then-count-len-clause-taken
returns-then-count-len-clause-taken g c =
    taken _ _ _ _ _ _ c.loop.invariant.2 c.in-Ok.ensures.bytes.0
    (omega (arith, length-take c.min-room.result c.loop.piece))

pub returns-in_err-extend_from_slice-clause-taken :
    goal.returns-in_err-extend_from_slice-clause-taken
returns-in_err-extend_from_slice-clause-taken g c =
    taken _ _ _ _ _ _ c.loop.invariant.2 c.in-Ok.ensures.bytes.0
    (omega (arith, length-take c.min-room.result c.loop.piece))

pub returns-then-count-eq0-clause-all : goal.returns-then-count-eq0-clause-all
returns-then-count-eq0-clause-all g c =
    whole _ _ _ _ _ _ c.loop.invariant.2 c.in-Ok.ensures.bytes.0 (search rules)
    (c.in-Ok.ensures.bytes.1 (search rules)
    (omega (arith, length-take c.min-room.result c.loop.piece)))

pub returns-then-count-len-clause-too_long : goal.returns-then-count-len-clause-too_long
returns-then-count-len-clause-too_long g c =
    λ e. too_long _ _ _ _ _ _ c.loop.invariant.2 c.in-Ok.ensures.bytes.0 (omega arith)
    (omega (arith, c.in-Ok.ensures.bound))
