-- What comes back is judged, and taken up by the session.
use Rattle.std.proofs.lemmas.Grind.{common_steps}
use Rattle.std.proofs.Common.{◌≡◌, arith}
use Rattle.iol_far.specs.Octets.{octets_in}
use Rattle.iol_link.specs.Attempts.{attempt_in}
use Rattle.iol_mode.specs.States.{NextMode, NextModeFits, outcome_with}
use Rattle.iol_mode.specs.Exchanges.{mode_after_reply}
use Rattle.iol_app.proofs.Settling.{outcome_state, settled_fits}
use Rattle.iol_app.proofs.Pieces.{judged_next}
use Rattle.iol_app.proofs.Verdicts.{wire_result_is}
use Rattle.iol_app.proofs.core_data.Core.settle.Goals as goal

-- what came of it, by the core as it was
abbrev outcome : goal.After-wire_result → NextMode
outcome c = outcome_with (attempt_in c.receives-attempt.result) c.receives-attempt.new.self

-- it is judged by what start-ups ask
is_judged : (c : goal.After-wire_result) → outcome c
    ≡ mode_after_reply c.self.inside.session.configuration c.self.inside.state
    (octets_in c.args.received.now)
is_judged c = rw c.configuration.ensures at c.receives-attempt.ensures.state

fits : (c : goal.After-wire_result) → NextModeFits (outcome c)
fits c = rw outcome_state c.receives-attempt.ensures.fits

pub settled-requires : goal.settled-requires
settled-requires c =
    let i = c.self.inside in
    rw (c.receives-attempt.ensures.state, c.configuration.ensures)
    (judged_next i.state (octets_in c.args.received.now) i.session
    (rw (← c.self.view_is) at c.requires) c.self.invariant.1)

pub invariant_of-self : goal.invariant_of-self
invariant_of-self c = (
  c.receives-attempt.ensures.fits,
  rw c.settled.ensures.session (rw outcome_state at (settled_fits (outcome c)
      c.self.inside.session (fits c) (settled-requires c.before.before.before))),
)

pub returns-clause-core : goal.returns-clause-core
returns-clause-core c = grind (arith, common_steps, outcome_state)

pub returns-clause-settled : goal.returns-clause-settled
returns-clause-settled c =
    rw (← c.self.view_is)
    (record {
      few = c.receives-attempt.ensures.few;
      valid = c.is_valid.ensures;
      joined = c.self.invariant.1;
      fits = rw (← is_judged c) (fits c);
      gives = rw (← is_judged c) c.receives-attempt.ensures.gives;
      report_is = rw (← is_judged c) c.settled.ensures.report;
      request = rw (← is_judged c)
          (rw c.settled.ensures.session at c.settled.ensures.request);
      wire_result_is = grind (arith, common_steps, wire_result_is);
    })
