-- The clauses of `StoredTracer::make` that the search can't prove.
use Rattle.std.proofs.Common.{◌++◌, sym}
use Rattle.std.proofs.lemmas.Result.{on_ok_weaker}
use Rattle.iol_print.proofs.PrintedLemmas.{behind}
use Rattle.iol_stored_commands.specs.StoredPrinted.{plain_answer_text}
use Rattle.iol_stored_commands.proofs.TracedLemmas.{call_traced}
use Rattle.iol_stored_commands.proofs.stored_tracing.StoredTracer.make.Goals as goal

pub returns-clause-traced : goal.returns-clause-traced
returns-clause-traced g c =
    let (passed, before, printed) = c.in_ok-note.ensures.printed in
    on_ok_weaker c.print_port_answer.result (λ wrote. (
      passed ++ plain_answer_text c.args.call.now c.call-answer.result,
      behind _ _ _ _ _ before wrote,
      call_traced g.W.Wire.facts _ _ _ _ _ _ passed c.call-answer.ensures
          (sym c.if-lacks_room.ensures)
          (rw (c.layout_of-layout.ensures, c.port.ensures, c.wire.ensures) at printed),
    )) c.print_port_answer.ensures
