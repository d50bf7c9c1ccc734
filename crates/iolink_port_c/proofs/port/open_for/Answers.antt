-- The port that the handle holds is the one that was opened.
use Rattle.std.proofs.Common.{refl, sym, subst, ◌∙◌, rules}
use Rattle.iol_book.specs.declared.limits.Limits.{Limits}
use Rattle.iol_port.specs.CorePort.{CoreOpensFor}
use Rattle.iol_port.specs.View.{IsNewFor}
use Rattle.iolink_port_forms.specs.Arguments.{limits_of}
use Rattle.iolink_port_c.specs.declared.held.PortWithJournal.{PortWithJournal}
use Rattle.iolink_port_c.proofs.port.open_for.Goals as goal

pub returns-in-Ok-new : goal.returns-in-Ok-new
returns-in-Ok-new c =
    let limits = limits_of c.args.journal c.args.busy c.args.queue c.args.given in
    let held = sym (c.of.ensures.value ∙ c.in-Ok-new.ensures.ok) in
    record {
      once = search rules;
      unknown = search rules;
      range = search rules;
      lacks = λ closed some ranges not_zero. absurd (not_zero refl);
      refused = λ not_zero. absurd (not_zero refl);
      opened = search rules;
      parts = λ zero. subst (λ (m : PortWithJournal). IsNewFor c.args.devices limits m.port)
          held (subst (λ (those : Limits). IsNewFor c.args.devices those c.in-Ok.port)
          c.in-Some.ensures.value c.in-Ok.ensures.parts);
      opens = λ zero. subst (λ (m : PortWithJournal). CoreOpensFor c.args.devices limits m.port)
          held (subst (λ (those : Limits). CoreOpensFor c.args.devices those c.in-Ok.port)
          c.in-Some.ensures.value c.in-Ok.ensures.opens);
      journal = search rules;
      passed = search rules;
    }
