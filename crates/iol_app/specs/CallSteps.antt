-- What each call gives where both ends stand together, said of the core's own data.
use Rattle.std.specs.Prelude.{◌≡◌, ◌≤◌, ℕ, Bool, List, true}
use Rattle.iol_isdu.specs.declared.values.Request.{Request}
use Rattle.iol_isdu.specs.declared.values.Cause.{Cause}
use Rattle.iol_isdu.specs.declared.values.Cause.TheVariants.{BusyTooLong, Cancelled}
use Rattle.iol_event.specs.declared.event.Event.{Event}
use Rattle.iol_far.specs.Far.{Far}
use Rattle.iol_link.specs.WireFacts.{WireFacts}
use Rattle.iol_mode.specs.LinkValues.{link_over}
use Rattle.iol_mode.specs.Kinds.{SeesPulses, IsHonestFor}
use Rattle.iol_mode.specs.Stands.{StateStands}
use Rattle.iol_app.specs.Abstract.Steps.{Moment, Deny, through_steps}
use Rattle.iol_app.specs.Abstract.Session.{MaySession, session_cancelling, session_after}
use Rattle.iol_app.specs.Abstract.OfMaster.{restart_steps}
use Rattle.iol_app.specs.Due.{may_follow}
use Rattle.iol_app.specs.Requests.{request_under_way}
use Rattle.iol_app.specs.StationState.{StationState}
use Rattle.iol_app.specs.Core as core
use Rattle.iol_app.specs.Core.{CoreState, Ghost}
use Rattle.iol_app.specs.CoreStands.{BothEndsStand}
use Rattle.iol_app.specs.CoreCalls.{BeginGives, asking_ghost, opened_ghost, restarted_ghost}

-- The calls of a core: with each far end and silence with which both ends stand

-- A core is made: whatever its device did before, both ends stand together
unfoldable pub NewSteps : CoreState → Type 0
NewSteps new = (far : Far) → SeesPulses new.session.configuration.devices far
    → (silence : ℕ) (reported : Bool) (due : Event × List Event)
    → BothEndsStand new (opened_ghost far reported due) far silence

-- A request is begun where one may follow: it is taken
unfoldable pub BeginSteps : Request → CoreState → CoreState → Type 0
BeginSteps request old new =
    may_follow old.session.configuration.devices old.session.idle ≡ true
    → (g : Ghost) (far : Far) (silence : ℕ) → BothEndsStand old g far silence
    → BeginGives old new g far silence request

-- A request is denied, where the device has no ISDU
unfoldable pub DenySteps : CoreState → Type 0
DenySteps old = (g : Ghost) (far : Far) (silence : ℕ) → BothEndsStand old g far silence
    → (moment : Moment) (ticket : ℕ) → moment.terms.page ≡ g.page
    → MaySession moment (Deny ticket) (core.session_in old g far)

-- An abort is let wait, because the device was busy as often as it may be
unfoldable pub AbortSteps : Cause → CoreState → CoreState → Type 0
AbortSteps cause old new = (g : Ghost) (far : Far) (silence : ℕ) → BothEndsStand old g far silence
    → cause ≡ BusyTooLong → old.session.limit ≤ g.request.busy → BothEndsStand new g far silence

-- An abort is let wait, because the program asks for it: the request has the
-- mark, and both ends stand as before
unfoldable pub CancelSteps : Cause → CoreState → CoreState → Type 0
CancelSteps cause old new = (g : Ghost) (far : Far) (silence : ℕ) → BothEndsStand old g far silence
    → cause ≡ Cancelled
    → BothEndsStand new (asking_ghost true g) far silence
    × (session_cancelling (core.session_in old g far)
    ≡ core.session_in new (asking_ghost true g) far)

-- Another output is wanted, or none; another device is expected, or another cycle time asked for:
-- both ends stand as before
unfoldable pub WantSteps : CoreState → CoreState → Type 0
WantSteps old new = (g : Ghost) (far : Far) (silence : ℕ) → BothEndsStand old g far silence
    → BothEndsStand new g far silence

-- The link is taken down: a request under way is cut off
unfoldable pub RestartSteps : CoreState → CoreState → Type 0
RestartSteps old new = (g : Ghost) (far : Far) (silence : ℕ) → BothEndsStand old g far silence
    → BothEndsStand new (restarted_ghost old g) far silence
    × (through_steps session_after (restart_steps (request_under_way old.session.current))
    (core.session_in old g far)
    ≡ core.session_in new (restarted_ghost old g) far)

module _ {W : Type 0} where
  -- a station's own data, without the wire
  abbrev pub core_of : StationState W → CoreState
  core_of s = record { state = s.link.state; session = s.session }

  -- and a core over a wire
  abbrev pub station_of : W → CoreState → StationState W
  station_of wire c = record { link = link_over wire c.state; session = c.session }

module _ {W : Type 0} (facts : WireFacts W) where
  open facts use {far, silence}

  -- on an honest wire the mode stands to the far end
  abbrev pub LinkStands : W → CoreState → Type 0
  LinkStands wire c = IsHonestFor facts c.session.configuration.devices wire
      → StateStands c.state (silence wire) (far wire)
