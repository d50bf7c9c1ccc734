-- What each round of a loop of `streams::read_input` keeps.
use Rattle.std.proofs.Common.{◌≤◌, vec_len}
use Rattle.std.specs.Io.KnownBytes.{Consumes}
use Rattle.iol_commands.specs.declared.streams.TheConstants.{LIMIT}
use Rattle.iol_commands.proofs.streams.read_input.Given as goal

abbrev pub invariant-loop : goal.invariant-loop
invariant-loop g l = (l.counter ≤ vec_len l.input) × (vec_len l.input ≤ LIMIT)
    × Consumes (g.R.Read.remaining l.initial.reader) (g.R.Read.remaining l.reader) l.input.items
