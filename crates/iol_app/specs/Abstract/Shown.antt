-- The abstract port that a session shows with its far end.
use Rattle.std.specs.Prelude.{ℕ, Bool, List, [], ◌∷◌, Option, Some, None}
use Rattle.iol_isdu.specs.declared.values.Request.{Request}
use Rattle.iol_isdu.specs.declared.values.Answer.{Answer}
use Rattle.iol_event.specs.declared.event.Event.{Event}
use Rattle.iol_far.specs.declared.carried.Carried.{Carried}
use Rattle.iol_far.specs.Far.{Far, output_of}
use Rattle.iol_mode.specs.declared.why.Why.{Why}
use Rattle.iol_app.specs.declared.mode.Mode.{Mode}
use Rattle.iol_app.specs.Abstract.Steps.{ImageOctets}
use Rattle.iol_app.specs.Abstract.Session.{Job, Session}
use Rattle.iol_app.specs.Abstract.Events.{Frozen}
use Rattle.iol_app.specs.Abstract.Images.{Images}
use Rattle.iol_app.specs.Abstract.Past.{Past}
use Rattle.iol_app.specs.Abstract.OfDevice.{Hidden}

-- what the master's fields say of the request under way, and of the link
pub record MasterFields : Type 0 where
  pub request : Option Request
  pub busy : ℕ
  -- the program asked to cut it off
  pub asked : Bool
  pub mode : Mode
  pub why : Option Why

-- what the master shows of process data
pub record ShownProcessData : Type 0 where
  pub image : Option ImageOctets
  pub wanted : Option ImageOctets
  pub sent : Option ImageOctets
  -- the output length that a start-up told, and whether the device has ISDU
  pub known_length : Option ℕ
  pub isdu : Option Bool
  -- the page that it has read whole
  pub page : Option (List ℕ)

-- The abstract port that it shows

abbrev pub job_of : Option Request → Option Answer → ℕ → Bool → Option Job
job_of None answer busy asked = None
job_of (Some request) answer busy asked =
    Some (record { request = request; answer = answer; busy = busy; asked = asked })

abbrev pub session_of : MasterFields → Hidden → List Carried → Session
session_of fields hidden carried =
    record {
      job = job_of fields.request hidden.answer fields.busy fields.asked;
      late = hidden.late;
      carried = carried;
      mode = fields.mode;
      why = fields.why;
    }

abbrev pub frozen_of : List Event → Bool → Option Frozen
frozen_of [] reported = None
frozen_of (event ∷ events) reported = Some (record { events = event ∷ events; reported = reported })

abbrev pub past_of : Far → Past
past_of far = record { history = far.history; waiting = far.events.waiting }

abbrev pub images_of : ShownProcessData → Far → Images
images_of shown far =
    record {
      image = shown.image;
      input = far.input;
      output = output_of far;
      awake = far.awake;
      wanted = shown.wanted;
      sent = shown.sent;
      known_length = shown.known_length;
      isdu = shown.isdu;
      page = shown.page;
    }
