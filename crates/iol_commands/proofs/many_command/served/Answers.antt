-- The clauses of `many_command::served` that the search can't prove.
use Rattle.std.proofs.Common.{◌≡◌, [], rules}
use Rattle.std.specs.String.{string_bytes}
use Rattle.iol_script.specs.Plan.{numbers_of}
use Rattle.iol_commands.proofs.many_command.served.Goals as goal

pub returns-clause-printed : goal.returns-clause-printed
returns-clause-printed g c =
    let none : string_bytes c.new-output.result ≡ [] = search rules in
    record {
      plan = numbers_of c.in_ok-plan.plan;
      counts = c.in_ok-counts.counts;
      planned = c.in_ok-plan.ensures.plan;
      ports = c.in_ok-counts.ensures.ports;
      up = c.in_ok-counts.ensures.up;
      served = c.in_ok-counts.ensures.served;
      text_is = rw none at c.in_ok-print_counts.ensures;
    }
