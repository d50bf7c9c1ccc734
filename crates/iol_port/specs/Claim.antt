-- The claim, in one record: what those who use a port may rely on over a lossy line.
use Rattle.std.specs.Prelude.{◌≡◌, List, [], ◌++◌, map, option_map}
use Rattle.iol_app.specs.Abstract.Events.{frozen_events}
use Rattle.iol_app.specs.StationState.{mode_in, why_in}
use Rattle.iol_far.specs.Far.{output_of}
use Rattle.iol_link.specs.WireFacts.{WireFacts}
use Rattle.iol_port.specs.declared.call.Call.{Call}
use Rattle.iol_port.specs.declared.call.Answered.{Answered}
use Rattle.iol_port.specs.Run.{PortState, Whole, Run, port_at_opening}
use Rattle.iol_port.specs.Owners.{allowance_of}
use Rattle.iol_port.specs.Sound.{RecordFits}
use Rattle.iol_port.specs.CarriesOut.{CarriesOut}
use Rattle.iol_port.specs.History.{FitsHistory}
use Rattle.iol_port.specs.View.{PortOver, Opening, StandsOver}

-- the abstract port with which a port begins
abbrev pub opened_with : {W : Type 0} → Opening W → PortState
opened_with o = port_at_opening o.devices o.limits o.far o.silence

module _ {W : Type 0} (facts : WireFacts W) where
  open facts use {far}

  -- what an abstract port has of this is what is there: the book, the events that are kept, the
  -- images, the mode, the page that was read; what the device carried out, and what else happened
  -- at it
  pub record Has (a : PortState) (q : PortOver W) : Type 0 where
    pub book : q.parts.book.state ≡ a.book
    pub queued : q.parts.queued ≡ a.queued
    pub image : q.parts.core.session.image ≡ a.images.image
    pub input : (far q.wire).input ≡ a.images.input
    pub output : output_of (far q.wire) ≡ a.images.output
    pub awake : (far q.wire).awake ≡ a.images.awake
    pub carried : (far q.wire).carried ≡ a.session.carried
    pub history : (far q.wire).history ≡ a.past.history
    pub waiting : (far q.wire).events.waiting ≡ a.past.waiting
    pub frozen : (far q.wire).events.frozen ≡ frozen_events a.frozen
    pub mode : mode_in q.parts.core.state ≡ a.session.mode
    pub why : why_in q.parts.core.state ≡ a.session.why
    pub wanted : q.parts.core.session.output.wanted ≡ a.images.wanted
    pub page : option_map (λ known. known.page) q.parts.core.session.present ≡ a.images.page

  -- All calls since the opening, these the last of them, with what each answered are a run of an
  -- abstract port, which has what is there. The device carried out only whole requests of these
  -- calls, each at most once, in the order taken; and each Done tells its answer to that very
  -- request. Before them it may have carried out, once, what it was handed before the opening.
  -- Otherwise is only what the allowance says, which is none at a port for any device. The journal
  -- has the requests that were taken since it began, which all ended but the one under way. Each
  -- event that was reported was raised at the device, or in its memory at the opening; each image
  -- was its input at some moment of what happened there; and its output is one that a client set,
  -- or the one of the opening.
  --
  -- A run may still choose these, and nothing else. When the device does by itself what its record
  -- and its history have: it answers a request that it was handed, an event is raised, its input
  -- changes, it has a power cycle, and then answers nothing until a wake. When it freezes events,
  -- first those that wait longest, and how often it is busy with a request. What the line loses.
  -- How soon the port gets on: takes the next request, tells an answer that is there, reports what
  -- is frozen, has read the page, and changes the mode. That a port which may be in doubt of a
  -- request cuts it off. That a submit or a drain lacks memory. What the counters and the last loss
  -- say.
  pub record Claim (o : Opening W) (calls : List Call) (replies : List Answered) (q : PortOver W) :
      Type 0 where
    pub earlier : List Call
    pub answered : List Answered
    pub port : PortState
    pub run : Run (opened_with o) (earlier ++ calls) (answered ++ replies) port
    pub has : Has port q
    pub history :
        FitsHistory (opened_with o) (map Whole (earlier ++ calls)) (answered ++ replies) port
    pub carries :
        CarriesOut (opened_with o) (map Whole (earlier ++ calls)) (answered ++ replies) port
    pub in_order : RecordFits (allowance_of port.terms) port.book port.session port.owners

  -- At each moment there is a claim whose abstract port stands for what is there
  abbrev pub TiedClaim : Opening W → PortOver W → Type 0
  TiedClaim o q = (claim : Claim o [] [] q) × StandsOver facts q claim.port

  -- What a claim has said stays said: each claim of before, whose abstract port stood for what was
  -- there, has one now that goes on from it, with its calls and answers for the earlier ones
  abbrev pub ClaimGoesOn : Opening W → PortOver W → List Call → List Answered → PortOver W → Type 0
  ClaimGoesOn o old calls replies q = (these : List Call) (answers : List Answered)
      (before : Claim o these answers old) → StandsOver facts old before.port
      → (now : Claim o calls replies q) × StandsOver facts q now.port
      × (now.earlier ≡ before.earlier ++ these) × (now.answered ≡ before.answered ++ answers)
