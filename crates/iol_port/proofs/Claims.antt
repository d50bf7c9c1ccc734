-- The claim holds of each port: for the clauses `claim` of `run` and `keeps_record`.
-- For the clauses of `Port::keeps_record` and `Port::run`.
use Rattle.std.proofs.Common.{◌≡◌, Bool, List, [], ◌∷◌, ◌++◌, refl, sym, map, append-nil}
use Rattle.iol_event.specs.declared.event.Event.{Event}
use Rattle.iol_app.specs.Abstract.Events.{frozen_events}
use Rattle.iol_app.specs.Abstract.Shown.{frozen_of}
use Rattle.iol_link.specs.WireFacts.{WireFacts}
use Rattle.iol_port.specs.declared.call.Call.{Call}
use Rattle.iol_port.specs.declared.call.Answered.{Answered}
use Rattle.iol_port.specs.Run.{PortState, Run, Whole}
use Rattle.iol_port.specs.Claim.{Claim, ClaimGoesOn, Has, TiedClaim, opened_with}
use Rattle.iol_port.specs.View.{PortOver, Opening, OpensWell, StandsOver, IsRun, Runs}
use Rattle.iol_port.proofs.OwnerRuns.{each_done_has_its_pair, opened_sound, runs_sound}
use Rattle.iol_port.proofs.PieceLemmas.{runs_join}
use Rattle.iol_port.proofs.HistoryRuns.{each_fits_history}

frozen_are : (events : List Event) (reported : Bool)
    → frozen_events (frozen_of events reported) ≡ events
frozen_are [] reported = refl
frozen_are (event ∷ events) reported = refl

module _ {W : Type 0} (facts : WireFacts W) (o : Opening W) (q : PortOver W) where
  open facts use {far}

  has_it : (a : PortState) → StandsOver facts q a → Has facts a q
  has_it a (up, stands) = let (c, shows, same) = stands in rw same
      record {
        book = refl;
        queued = refl;
        image = refl;
        input = refl;
        output = refl;
        awake = refl;
        carried = refl;
        history = refl;
        waiting = refl;
        frozen = sym (frozen_are (far q.wire).events.frozen c.ghost.events.reported);
        mode = refl;
        why = refl;
        wanted = refl;
        page = refl;
      }

  abbrev holds : (earlier calls : List Call) (answered replies : List Answered) (b : PortState)
      → Run (opened_with o) (earlier ++ calls) (answered ++ replies) b → StandsOver facts q b
      → Claim facts o calls replies q
  holds earlier calls answered replies b run stands = record {
    earlier = earlier;
    answered = answered;
    port = b;
    run = run;
    has = has_it b stands;
    history = each_fits_history o.devices o.limits o.far o.silence
        (map Whole (earlier ++ calls)) (answered ++ replies) b run;
    carries = each_done_has_its_pair o.devices o.limits o.far o.silence
        (map Whole (earlier ++ calls)) (answered ++ replies) b run;
    in_order = (runs_sound (opened_with o) b (earlier ++ calls) (answered ++ replies) run
        (opened_sound o.devices o.limits o.far o.silence)).fits;
  }

  pub claim_holds : IsRun facts o q → OpensWell o → TiedClaim facts o q
  unfolding IsRun
  claim_holds is well =
      let (calls, replies, b, run, stands) = is well in
      (holds calls [] replies [] b (rw (append-nil calls, append-nil replies) run) stands, stands)

  pub claim_goes_on : (old : PortOver W) (calls : List Call) (replies : List Answered)
      → Runs facts old calls replies q → ClaimGoesOn facts o old calls replies q
  unfolding Runs
  claim_goes_on old calls replies goes these answers before stood =
      let (b, more, stands) = goes before.port stood in (
        holds (before.earlier ++ these) calls (before.answered ++ answers) replies b
            (runs_join (opened_with o) before.port b (before.earlier ++ these) calls
            (before.answered ++ answers) replies before.run more) stands,
        stands,
        refl,
        refl,
      )

  pub claim_grows : (old : PortOver W) (calls : List Call) (replies : List Answered)
      → IsRun facts o old → Runs facts old calls replies q → OpensWell o
      → Claim facts o calls replies q
  unfolding IsRun Runs
  claim_grows old calls replies is goes well =
      let (earlier, answered, a, run, stands) = is well in
      let (b, more, stands_now) = goes a stands in
      holds earlier calls answered replies b
      (runs_join (opened_with o) a b earlier calls answered replies run more) stands_now
