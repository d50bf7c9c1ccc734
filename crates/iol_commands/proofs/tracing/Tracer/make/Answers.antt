-- The clauses of `Tracer::make` that the search can't prove.
use Rattle.std.proofs.Common.{◌++◌, sym}
use Rattle.std.proofs.lemmas.Result.{on_ok_weaker}
use Rattle.iol_port.specs.Asks.{asks_of}
use Rattle.iol_commands.specs.RunPrinted.{printed_answer}
use Rattle.iol_commands.proofs.PrintedLemmas.{behind}
use Rattle.iol_commands.proofs.TraceLemmas.{call_traced}
use Rattle.iol_commands.proofs.tracing.Tracer.make.Goals as goal

pub returns-clause-traced : goal.returns-clause-traced
returns-clause-traced g c =
    let (passed, before, printed) = c.in_ok-note.ensures.printed in
    let made = c.call-answer.ensures in
    on_ok_weaker c.print_answer.result (λ wrote. (
      passed ++ printed_answer c.args.call.now c.call-answer.result,
      behind _ _ _ _ _ before wrote,
      call_traced g.W.Wire.facts _ _ _ _ _ _ (asks_of c.args.port.now.parts) passed
          made.does.follows made.gives made.wire (sym c.if-lacks_memory.ensures)
          (rw (
            c.layout_now-layout.ensures,
            c.status.ensures.gives,
            c.page.ensures.gives,
            c.wire.ensures,
          ) at printed),
    )) c.print_answer.ensures
