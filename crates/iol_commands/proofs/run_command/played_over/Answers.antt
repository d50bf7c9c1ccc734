-- The clauses of `run_command::played_over` that the search can't prove.
use Rattle.std.proofs.Common.{◌≡◌, [], refl, rules}
use Rattle.std.specs.String.{string_bytes}
use Rattle.iol_port.specs.View.{over}
use Rattle.iol_sim.specs.Sim.{sim_facts}
use Rattle.iol_commands.proofs.RunLemmas.{runs_alike}
use Rattle.iol_commands.proofs.run_command.played_over.Goals as goal

pub returns : goal.returns
returns g c =
    let port = c.in-Ok.ensures in
    let last = over c.play_lines.new.port in
    let (text, wrote, plays) = c.in_ok-play_lines.ensures in
    let none : string_bytes c.new-output.result ≡ [] = search rules in
    record {
      answers = plays.answers;
      first = over c.in-Ok.port;
      opens = port.parts;
      over_wire = port.wire;
      last = last;
      made = plays.made;
      alike = runs_alike (sim_facts g.B.Beside.facts) c.args.play.now.devices
          c.args.play.now.limits c.args.wire last.wire c.args.wire c.args.wire _ _ last _
          plays.answers refl port.opening (λ has. rw has.one refl) refl refl
          port.stands plays.runs refl;
      granted = plays.granted;
      text_is = rw (c.in_ok-print_ending.ensures, wrote, none, plays.text_is, c.wire.ensures)
          refl;
    }
