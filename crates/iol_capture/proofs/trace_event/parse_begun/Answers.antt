-- The clauses of `trace_event::parse_begun` that the search can't prove.
use Rattle.std.proofs.Common.{◌∙◌, ap, Some}
use Rattle.std.proofs.lemmas.List.{take_rest}
use Rattle.std.specs.Prelude.{option_map, length}
use Rattle.iol_capture.specs.declared.trace_event.TheConstants.{EVENT_BEGIN}
use Rattle.iol_capture.specs.Cells.{without_end}
use Rattle.iol_capture.specs.Exports.{event_shows, event_time}
use Rattle.iol_capture.proofs.trace_event.parse_begun.Goals as goal

pub returns : goal.returns
returns c =
    ap Some (c.event_shows.ensures ∙ ap (event_shows c.in_ok-time.time) c.without_end.ensures)
    ∙ ap (option_map (λ time. event_shows time (without_end c.args.line.now 44)))
    (c.in_ok-time.ensures ∙ ap event_time (take_rest c.args.line.now (length EVENT_BEGIN)))
