-- What the search can't prove of the body of `counters_printing::print_counters`.
use Rattle.std.proofs.Common.{arith, codes, rules}
use Rattle.std.proofs.lemmas.Result.{on_ok_weaker}
use Rattle.iol_commands.specs.CountersPrinted.{counter_text, named_counters}
use Rattle.iol_commands.proofs.CountersLemmas.{count_is, all_printed}
use Rattle.iol_commands.proofs.PrintedLemmas.{one_printed}
use Rattle.iol_commands.proofs.counters_printing.print_counters.Goals as goal

pub loop-name-preserved : goal.loop-name-preserved
loop-name-preserved g c =
    let count = count_is _ c.named_counters.result c.args.counters.now c.named_counters.ensures in
    one_printed (λ counter. counter_text (counter.0.now, counter.1)) _ _ _ c.named_counters.result
    c.loop-name.name-index _ c.loop-name.invariant (omega arith) c.in_ok-print_counter.ensures

pub returns : goal.returns
returns g c =
    let count = count_is _ c.named_counters.result c.args.counters.now c.named_counters.ensures in
    on_ok_weaker c.push_str-2.result (all_printed counter_text
    (λ counter. (counter.0.now, counter.1)) c.named_counters.result
    (named_counters c.args.counters.now) c.loop-name.name-index _ (codes "counters") _ (codes "\n")
    _ c.named_counters.ensures (omega arith) c.loop-name.invariant) (search rules)
