-- The calls that are no turns: what they make of a port's own data; a request that begins.
use Rattle.std.specs.Prelude.{◌≡◌, ℕ, Bool, false, List, Option, None}
use Rattle.iol_event.specs.declared.event.Event.{Event}
use Rattle.iol_mode.specs.declared.configuration.Devices.{Devices}
use Rattle.iol_mode.specs.declared.states.State.TheVariants.{Down as AtDown, Operate as AtOperate}
use Rattle.iol_mode.specs.declared.states.Operate.{Operate}
use Rattle.iol_app.specs.Abstract.Steps.{Take, Moment, ImageOctets}
use Rattle.iol_app.specs.Abstract.Session.{MaySession, session_after}
use Rattle.iol_app.specs.Exchange.{hidden_lost}
use Rattle.iol_app.specs.declared.request.Current.{Current}
use Rattle.iol_app.specs.Requests.{request_under_way}
use Rattle.iol_isdu.specs.declared.values.Request.{Request}
use Rattle.iol_app.specs.State.{SessionState, new_session, session_wanting, session_after_leaving}
use Rattle.iol_far.specs.Far.{Far}
use Rattle.iol_far.specs.Isdu.{handed_request}
use Rattle.iol_app.specs.Core.{CoreState, Ghost, session_in}
use Rattle.iol_app.specs.CoreStands.{BothEndsStand}

abbrev pub opened_core : Devices → ℕ → CoreState
opened_core devices limit =
    record { state = AtDown (record { why = None }); session = new_session devices limit }

abbrev pub opened_ghost : Far → Bool → Event × List Event → Ghost
opened_ghost far reported due = record {
  page = far.page;
  kind = far.kind;
  request = record {
    hidden = record { answer = None; late = handed_request far.isdu };
    busy = 0;
    asked = false;
    base = far.carried;
  };
  events = record { reported = reported; due = due };
  sent = None;
}

abbrev pub wanting_core : Option ImageOctets → CoreState → CoreState
wanting_core image c = record c { session = session_wanting image c.session }

abbrev pub restarted_core : CoreState → CoreState
restarted_core c = record {
  state = AtDown (record { why = None });
  session = session_after_leaving c.session;
}

abbrev pub restarted_ghost : CoreState → Ghost → Ghost
restarted_ghost c g = record g {
  request = record g.request {
    hidden = hidden_lost (request_under_way c.session.current) g.request.hidden;
  };
}

-- In OPERATE: a request is begun where none is under way, or its abort is let wait

abbrev pub operate_core : Operate → SessionState → Option Current → CoreState
operate_core s t current = record { state = AtOperate s; session = record t { current = current } }

abbrev pub begun_ghost : Ghost → Ghost
begun_ghost g = record g {
  request = record {
    hidden = record { answer = None; late = None };
    busy = 0;
    asked = false;
    base = g.request.base;
  };
}

pub record BeginGives (c next : CoreState) (g : Ghost) (far : Far) (silence : ℕ)
    (request : Request) :
    Type 0 where
  pub stands : BothEndsStand next (begun_ghost g) far silence
  pub may : (moment : Moment) (ticket : ℕ) → moment.terms.page ≡ g.page
      → MaySession moment (Take ticket request) (session_in c g far)
  pub is : (ticket : ℕ)
      → session_after (Take ticket request) (session_in c g far)
      ≡ session_in next (begun_ghost g) far

-- because the device was busy as often as it may be, or because the program asked for it
abbrev pub asking_ghost : Bool → Ghost → Ghost
asking_ghost asks g = record g { request = record g.request { asked = asks } }
