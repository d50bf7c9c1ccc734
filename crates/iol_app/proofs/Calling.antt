-- The calls that are no turns: also between the two halves of one.
-- For the clauses of `Core::abort`, `Core::begin`, `Core::clear_output` and 6 more.
use Rattle.std.proofs.lemmas.Grind.{common_steps}
use Rattle.std.proofs.Common.{arith, ◌≡◌, ℕ, Bool, List}
use Rattle.std.specs.Prelude.{Option, None, IfSome}
use Rattle.iol_event.specs.declared.event.Event.{Event}
use Rattle.iol_image.specs.Image.{IsImage}
use Rattle.iol_app.specs.Abstract.Steps.{ImageOctets, through_steps}
use Rattle.iol_far.specs.declared.carried.Carried.{Carried}
use Rattle.iol_far.specs.Far.{Far}
use Rattle.iol_mode.specs.declared.configuration.Configuration.{Configuration}
use Rattle.iol_mode.specs.declared.configuration.Devices.{Devices}
use Rattle.iol_mode.specs.declared.states.State.{State}
use Rattle.iol_app.specs.declared.mode.Mode.TheVariants.{Down as ModeDown}
use Rattle.iol_app.specs.Abstract.OfDevice.{Hidden, IsOpen}
use Rattle.iol_app.specs.Abstract.Shown.{MasterFields}
use Rattle.iol_app.specs.Abstract.OfMaster.{restart_steps}
use Rattle.iol_app.specs.Abstract.Shown.{session_of}
use Rattle.iol_app.specs.Exchange.{hidden_lost}
use Rattle.iol_app.proofs.OpenLevel.{lost_opens}
use Rattle.iol_app.specs.Requests.{request_under_way}
use Rattle.iol_app.specs.State.{SessionState, session_wanting}
use Rattle.iol_mode.specs.Kinds.{SeesPulses}
use Rattle.iol_app.specs.StationState.{SessionFits}
use Rattle.iol_app.specs.Core.{CoreState, Ghost, fields_in, session_in}
use Rattle.iol_app.specs.CoreStands.{BothEndsStand, RequestStands, work_of}
use Rattle.iol_app.specs.CoreCalls.{opened_core, opened_ghost, wanting_core, restarted_core, restarted_ghost}
use Rattle.iol_app.specs.Abstract.Session.{session_after}

pub opens : (devices : Devices) (limit : ℕ) (far : Far) (silence : ℕ) (reported : Bool)
    (due : Event × List Event)
    → SeesPulses devices far
    → BothEndsStand (opened_core devices limit) (opened_ghost far reported due) far silence
opens devices limit far silence reported due sees = grind (arith, common_steps)

joined_want : (state : State) (t : SessionState) (image : Option (List ℕ)) → SessionFits state t
    → SessionFits state (session_wanting image t)
joined_want state t image h = grind (arith, common_steps)

pub wants : (c : CoreState) (g : Ghost) (far : Far) (silence : ℕ) (image : Option ImageOctets)
    → IfSome image IsImage → BothEndsStand c g far silence
    → BothEndsStand (wanting_core image c) g far silence
wants c g far silence image some h = grind (arith, common_steps, joined_want)

-- start-ups are to ask something else of the device
joined_asks : (state : State) (t : SessionState) (k : Configuration) → SessionFits state t
    → SessionFits state (record t { configuration = k })
joined_asks state t k h = grind (arith, common_steps)

pub asks_else : (c : CoreState) (g : Ghost) (far : Far) (silence : ℕ) (k : Configuration)
    → k.devices ≡ c.session.configuration.devices → BothEndsStand c g far silence
    → BothEndsStand (record c { session = record c.session { configuration = k } }) g far silence
asks_else c g far silence k same h = grind (arith, common_steps, joined_asks)

-- a restart, in every mode
request_opens : (state : State) (t : SessionState) (g : Ghost) (far : Far) → SessionFits state t
    → RequestStands state (work_of t) t.events g far
    → IsOpen far.isdu (request_under_way t.current) g.request.hidden
request_opens state t g far j h = grind (arith, common_steps)

session_is : (fields : MasterFields) (h : Hidden) (carried : List Carried)
    → through_steps session_after (restart_steps fields.request) (session_of fields h carried)
    ≡ session_of (record fields { request = None; mode = ModeDown; why = None })
    (hidden_lost fields.request h) carried
session_is fields h carried = grind (arith, common_steps)

pub restarted_session : (c : CoreState) (g : Ghost) (far : Far)
    → through_steps session_after (restart_steps (request_under_way c.session.current))
    (session_in c g far)
    ≡ session_in (restarted_core c) (restarted_ghost c g) far
restarted_session c g far = session_is (fields_in c g) g.request.hidden far.carried

pub restarts : (c : CoreState) (g : Ghost) (far : Far) (silence : ℕ) → BothEndsStand c g far silence
    → BothEndsStand (restarted_core c) (restarted_ghost c g) far silence
restarts c g far silence h = grind (arith, common_steps, lost_opens, request_opens)
