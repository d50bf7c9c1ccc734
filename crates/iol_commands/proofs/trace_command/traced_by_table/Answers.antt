-- The clauses of `trace_command::traced_by_table` that the search can't prove.
use Rattle.std.proofs.Common.{rules, ◌≡◌, Result, Ok, Err, OnOk, subst}
use Rattle.iol_param_sim.specs.Parameters.{parameters_facts}
use Rattle.iol_script.specs.Script.{calls_in, value_of}
use Rattle.iol_script.specs.Text.{numbered_lines}
use Rattle.iol_commands.specs.RunPlayed.{first_table_wire}
use Rattle.iol_commands.specs.TracePrinted.{TracesOut}
use Rattle.iol_commands.proofs.trace_command.traced_by_table.Goals as goal

on_ok : {A E P Q : Type 0} (r : Result A E) → (P → Q) → OnOk r P → OnOk r Q
on_ok (Ok a) f h = f h
on_ok (Err e) f h = h

pub returns-clause-printed : goal.returns-clause-printed
returns-clause-printed g c =
    let play = c.args.play.now in
    let calls = calls_in (numbered_lines play.input.now) in
    let wire_is : c.in_ok-wire.wire
    ≡ first_table_wire (value_of c.args.script) c.in-Ok.table = search rules in
    on_ok c.traced_over.result (λ made. (
      made.0,
      made.1,
      record {
        table = c.in-Ok.table;
        is_its = record { members = search rules; rules = search rules };
        sound = search rules;
        holding =
            subst (λ wire. TracesOut parameters_facts play.devices play.limits wire calls made.0)
            wire_is made.2;
      },
    )) c.traced_over.ensures.printed

pub returns-in-Err-clause-flaw : goal.returns-in-Err-clause-flaw
returns-in-Err-clause-flaw g c = λ why is. record {
  table = record { members = c.deref.result.now; rules = c.deref-2.result.now };
  is_its = record { members = search rules; rules = search rules };
  flaw = search rules;
}
