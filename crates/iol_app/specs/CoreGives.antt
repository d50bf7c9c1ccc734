-- What one call of the wire gives: steps of the abstract port, each allowed where it is taken.
use Rattle.std.specs.Prelude.{◌≡◌, ℕ, Bool, true, ◌&&◌, if◌then◌else◌, nat_lt, length, List, ◌++◌, filter, Option, Some, None}
use Rattle.iol_link.specs.Attempts.{Sending}
use Rattle.iol_mode.specs.declared.states.State.{State}
use Rattle.iol_mode.specs.declared.states.State.TheVariants.{Operate as AtOperate}
use Rattle.iol_mode.specs.States.{is_reset}
use Rattle.iol_app.specs.declared.report.Said.{Said}
use Rattle.iol_app.specs.Abstract.Steps.{PortStep, WireCall, Exchanged, Moment, ImageOctets, silence_by, CallFits, is_report, TakesSteps}
use Rattle.iol_app.specs.Abstract.OfMaster.{is_for_book, steps_for_book, steps_for_queue, resets}
use Rattle.iol_app.specs.Abstract.Session.{MaySession, session_after}
use Rattle.iol_app.specs.Abstract.Events.{MayFrozen, frozen_after}
use Rattle.iol_app.specs.Abstract.Images.{MayImages, images_after}
use Rattle.iol_app.specs.Abstract.Past.{MayPast, past_after}
use Rattle.iol_app.specs.Abstract.Shown.{past_of}
use Rattle.iol_app.specs.Exchange.{acknowledged_by}
use Rattle.iol_app.specs.Abstract.Turn.{ImageIsLast, OutputIsWanted, IsInOrder, WasFrozen}
use Rattle.iol_app.specs.State.{SessionState}
use Rattle.iol_app.specs.StationState.{mode_in}
use Rattle.iol_far.specs.Far.{Far}
use Rattle.iol_app.specs.Core.{CoreState, Ghost, session_in, frozen_in, images_in}
use Rattle.iol_app.specs.CoreStands.{command_out, BothEndsStand}

-- the output that the message out asks for; with none out, the one that is wanted
abbrev pub ordered_by : Bool → List ℕ → Option ImageOctets
ordered_by acknowledged items = if acknowledged && nat_lt 0 (length items) then Some items else None

abbrev pub ordered_at : Option Sending → SessionState → Option ImageOctets
ordered_at None t = t.output.wanted
ordered_at (Some out) t =
    ordered_by (acknowledged_by (command_out t.exchange) t.output.acknowledged)
    out.message.out.items

abbrev pub ordered_output : State → SessionState → Option ImageOctets
ordered_output (AtOperate s) t = ordered_at s.out t
ordered_output s t = t.output.wanted

-- what the steps of the call are judged by
abbrev pub moment_of : CoreState → Ghost → ℕ → WireCall → Moment
moment_of c g silence call = record {
  terms = record {
    devices = c.session.configuration.devices;
    busy_limit = c.session.limit;
    page = g.page;
    kind = g.kind;
    expected = c.session.configuration.expected;
  };
  began = mode_in c.state;
  silence = silence;
  call = call;
}

-- they stay
abbrev pub TermsStay : CoreState → CoreState → Ghost → Ghost → Type 0
TermsStay c next g after = (next.session.limit ≡ c.session.limit) × (after.page ≡ g.page)
    × (next.session.configuration ≡ c.session.configuration) × (after.kind ≡ g.kind)

-- one call of the wire, and one list of steps, each allowed where it is taken, whose effects on the
-- four parts of the abstract port are what happened; and both ends stand together afterwards
pub record CallGives (c : CoreState) (g : Ghost) (far : Far) (silence : ℕ) (report : Said)
    (next : CoreState)
    (far_new : Far) (silence_new : ℕ) : Type 0 where
  pub call : WireCall
  pub steps : List PortStep
  pub after : Ghost
  pub order : IsInOrder (mode_in c.state) call steps
  pub fits : CallFits (mode_in c.state) call
  pub silent : silence_new ≡ silence_by call silence
  pub terms : TermsStay c next g after
  pub book_steps_are : filter is_for_book steps
      ≡ resets (is_reset c.state) (is_reset next.state) ++ steps_for_book report
  pub report_steps_are : filter is_report steps ≡ steps_for_queue report
  pub was_frozen : WasFrozen steps (frozen_in g far)
  pub session :
      TakesSteps (MaySession (moment_of c g silence call)) session_after (session_in c g far) steps
      (session_in next after far_new)
  pub frozen : TakesSteps MayFrozen frozen_after (frozen_in g far) steps (frozen_in after far_new)
  pub past : TakesSteps MayPast past_after (past_of far) steps (past_of far_new)
  pub images :
      TakesSteps (MayImages (moment_of c g silence call))
      (images_after (moment_of c g silence call))
      (images_in c g far) steps (images_in next after far_new)
  pub awake : call ≡ Exchanged true → far_new.awake ≡ true
  pub image_is_last :
      ImageIsLast (moment_of c g silence call) (mode_in next.state) (images_in c g far)
      (images_in next after far_new)
  pub output_is_wanted :
      OutputIsWanted (moment_of c g silence call)
      (record (images_in c g far) { wanted = ordered_output c.state c.session })
      (images_in next after far_new)
  pub stands : BothEndsStand next after far_new silence_new
