-- The clauses of `stored_run::played_on` that the search can't prove.
use Rattle.std.proofs.Common.{◌≡◌, [], refl, rules}
use Rattle.std.specs.String.{string_bytes}
use Rattle.iol_stored_commands.proofs.stored_run.played_on.Goals as goal

pub returns : goal.returns
returns g c =
    let (text, wrote, plays) = c.in_ok-play_stored.ensures in
    let none : string_bytes c.new-output.result ≡ [] = search rules in
    record {
      last = c.play_stored.new.port;
      calls_text = text;
      plays = plays;
      text_is = rw (c.in_ok-print_ending.ensures, wrote, none, c.wire.ensures) refl;
    }
