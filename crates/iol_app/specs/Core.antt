-- A port's own data without the wire, what no field stores of it, and the abstract port they show.
use Rattle.std.specs.Prelude.{ℕ, Bool, List, Option}
use Rattle.std.specs.Option.{option_map}
use Rattle.iol_event.specs.declared.event.Event.{Event}
use Rattle.iol_far.specs.declared.carried.Carried.{Carried}
use Rattle.iol_far.specs.declared.kind.Kind.{Kind}
use Rattle.iol_mode.specs.declared.states.State.{State}
use Rattle.iol_app.specs.Abstract.Steps.{ImageOctets}
use Rattle.iol_app.specs.Abstract.Session.{Session}
use Rattle.iol_app.specs.Abstract.Events.{Frozen}
use Rattle.iol_app.specs.Abstract.Images.{Images}
use Rattle.iol_app.specs.Abstract.OfDevice.{Hidden}
use Rattle.iol_app.specs.Abstract.Shown.{MasterFields}
use Rattle.iol_app.specs.Abstract.Shown.{ShownProcessData, session_of, frozen_of, images_of}
use Rattle.iol_app.specs.Requests.{request_under_way}
use Rattle.iol_app.specs.State.{SessionState}
use Rattle.iol_app.specs.StationState.{mode_in, why_in}
use Rattle.iol_far.specs.Far.{Far}

-- the mode, and the session over it: what the code stores
pub record CoreState : Type 0 where
  pub state : State
  pub session : SessionState

-- What no field stores. Of the request under way: the device's answer, or a late one;
-- the busy replies, and whether the program asked to cut it off; the record when it was begun
pub record OfRequest : Type 0 where
  pub hidden : Hidden
  pub busy : ℕ
  pub asked : Bool
  pub base : List Carried

-- of the events: whether the frozen list was reported; the list whose confirm is due
pub record OfEvents : Type 0 where
  pub reported : Bool
  pub due : Event × List Event

pub record Ghost : Type 0 where
  pub page : List ℕ
  pub kind : Kind
  pub request : OfRequest
  pub events : OfEvents
  -- the last output wanted that a message carried
  pub sent : Option ImageOctets

-- The abstract port that it shows

abbrev pub fields_in : CoreState → Ghost → MasterFields
fields_in c g = record {
  request = request_under_way c.session.current;
  busy = g.request.busy;
  asked = g.request.asked;
  mode = mode_in c.state;
  why = why_in c.state;
}

abbrev pub shown_in : SessionState → Option ImageOctets → ShownProcessData
shown_in s sent = record {
  image = s.image;
  wanted = s.output.wanted;
  sent = sent;
  known_length = option_map (λ layout. layout.pd_out) s.layout;
  isdu = s.isdu;
  page = option_map (λ t. t.page) s.present;
}

abbrev pub session_in : CoreState → Ghost → Far → Session
session_in c g far = session_of (fields_in c g) g.request.hidden far.carried

abbrev pub frozen_in : Ghost → Far → Option Frozen
frozen_in g far = frozen_of far.events.frozen g.events.reported

abbrev pub images_in : CoreState → Ghost → Far → Images
images_in c g far = images_of (shown_in c.session g.sent) far
