-- The clauses of `ending::print_ending` that the search can't prove.
use Rattle.std.proofs.lemmas.Result.{on_ok_weaker}
use Rattle.std.specs.String.{string_bytes}
use Rattle.iol_script.specs.Script.{calls_in}
use Rattle.iol_script.specs.Text.{numbered_lines}
use Rattle.iol_commands.specs.RunPlayed.{records_text}
use Rattle.iol_commands.specs.RunPrinted.{refused_events_text}
use Rattle.iol_commands.proofs.PrintedLemmas.{behind}
use Rattle.iol_commands.proofs.ending.print_ending.Goals as goal

pub returns : goal.returns
returns g c =
    on_ok_weaker c.print_refused_events.result
    (λ wrote. behind (string_bytes c.args.output.now) (string_bytes c.print_records.new.output)
    (string_bytes c.print_refused_events.new.output) (records_text c.args.sim.now)
    (refused_events_text (calls_in (numbered_lines c.args.input.now))
    c.args.sim.now.refused_events) c.in_ok-print_records.ensures wrote)
    (rw c.refused_events.ensures at c.print_refused_events.ensures)
