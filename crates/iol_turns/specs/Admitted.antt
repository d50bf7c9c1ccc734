-- Turns that the definitions admit, by examples. Each is one that they refuse once some words of it
-- are others, as the edits of must-fail show.
use Rattle.std.specs.Prelude.{◌≡◌, ℕ, Bool, true, false, List, [], ◌∷◌, ◌++◌, length, Option, Some, None, IsTrue}
use Rattle.std.specs.List.{list_all}
use Rattle.iol_page.specs.Page.{is_present, knows_isdu}
use Rattle.iol_event.specs.declared.event.Event.{Event}
use Rattle.iol_far.specs.declared.carried.Carried.{Carried}
use Rattle.iol_mode.specs.declared.why.Why.{Why}
use Rattle.iol_mode.specs.declared.why.Why.TheVariants.{NoWake}
use Rattle.iol_app.specs.declared.mode.Mode.{Mode}
use Rattle.iol_app.specs.declared.mode.Mode.TheVariants.{Down, Startup, Preoperate, Operate}
use Rattle.iol_app.specs.Abstract.Steps.{PortStep, Freeze, Report, ShowImage, OutputOn, Input, PowerLoss, PageRead, Move, WireCall, Woke, Exchanged, Terms, Moment, ImageOctets, CallFits, input_length, output_length, is_right, TakesSteps}
use Rattle.iol_app.specs.Abstract.Session.{Session, MaySession, session_after}
use Rattle.iol_app.specs.Abstract.Events.{Frozen, MayFrozen, frozen_after}
use Rattle.iol_app.specs.Abstract.Images.{Images, MayImages, images_after}
use Rattle.iol_app.specs.Abstract.Turn.{is_own_step, is_hearing, may_bring, WasFrozen, IsPageRead, ImageIsLast, OutputIsWanted}

-- what the device does by itself, what it does with the message, and what the answer brings
pub record TurnParts : Type 0 where
  pub own : List PortStep
  pub heard : List PortStep
  pub received : List PortStep

abbrev pub part_steps : TurnParts → List PortStep
part_steps parts = parts.own ++ parts.heard ++ parts.received

-- by which a turn is judged, but for the book, the owners and the device's history
pub record MayTurn (m : Moment) (parts : TurnParts) (s t : Session) (f g : Option Frozen)
    (i j : Images) : Type 0 where
  pub fits : CallFits m.began m.call
  pub by_itself : IsTrue (list_all is_own_step parts.own)
  pub hears : IsTrue (is_hearing m.began parts.heard)
  pub brings : IsTrue (may_bring m.began m.call parts.received)
  pub page_read : IsPageRead t.mode m.terms.page j.page
  pub session : TakesSteps (MaySession m) session_after s (part_steps parts) t
  pub frozen : TakesSteps MayFrozen frozen_after f (part_steps parts) g
  pub was_frozen : WasFrozen (part_steps parts) f
  pub images : TakesSteps (MayImages m) (images_after m) i (part_steps parts) j
  pub awake : m.call ≡ Exchanged true → j.awake ≡ true
  pub image_is_last : ImageIsLast m t.mode i j
  pub output_is_wanted : OutputIsWanted m i j

abbrev pub moment_at : Mode → WireCall → Terms → Moment
moment_at mode call terms = record { terms = terms; began = mode; silence = 0; call = call }

abbrev pub in_mode : Mode → Option Why → List Carried → Session
in_mode mode why carried =
    record { job = None; late = None; carried = carried; mode = mode; why = why }

abbrev pub of_event : Event → Bool → Option Frozen
of_event event reported = Some (record { events = event ∷ []; reported = reported })

-- the image shown, the input, and the output, which is wanted and sent
abbrev pub images_with : Option ImageOctets → Option ImageOctets → Option ImageOctets
    → Option (List ℕ) → Images
images_with image input output page = record {
  image = image;
  input = input;
  output = output;
  awake = true;
  wanted = output;
  sent = output;
  known_length = None;
  isdu = None;
  page = page;
}

-- once the page is read
abbrev pub images_read : Terms → Images
images_read terms = record (images_with None None None (Some terms.page)) {
  known_length = Some (output_length terms.page);
  isdu = Some (knows_isdu terms.page);
}

-- a wake that isn't answered brings nothing, whatever the device does
abbrev pub WakesAreMissed : Type 0
WakesAreMissed =
    (terms : Terms) (event : Event) (carried : List Carried)
    → MayTurn (moment_at Down (Woke false) terms)
    (record { own = Freeze (event ∷ []) ∷ []; heard = []; received = Move Down (Some NoWake) ∷ [] })
    (in_mode Down None carried) (in_mode Down (Some NoWake) carried)
    None (of_event event false)
    (images_with None None None None) (images_with None None None None)

-- a good reply in OPERATE reports events that were frozen
abbrev pub FrozenAreReported : Type 0
FrozenAreReported =
    (terms : Terms) (event : Event) (carried : List Carried) (output : Option ImageOctets)
    → MayTurn (moment_at Operate (Exchanged true) terms)
    (record { own = []; heard = OutputOn ∷ []; received = Report (event ∷ []) ∷ ShowImage ∷ [] })
    (in_mode Operate None carried) (in_mode Operate None carried)
    (of_event event false) (of_event event true)
    (images_with None None output (Some terms.page))
    (images_with None None output (Some terms.page))

-- where none comes, a power cycle may have taken events, input and output: the device is asleep
-- then
abbrev pub PowerIsLost : Type 0
PowerIsLost =
    (terms : Terms) (event : Event) (carried : List Carried) (image : Option ImageOctets)
    → MayTurn (moment_at Operate (Exchanged false) terms)
    (record { own = PowerLoss ∷ []; heard = []; received = [] })
    (in_mode Operate None carried) (in_mode Operate None carried)
    (of_event event false) None
    (images_with image image None (Some terms.page))
    (record (images_with image None None (Some terms.page)) { awake = false })

-- an input that was set has the page's length, and is shown
abbrev pub InputsAreShown : Type 0
InputsAreShown =
    (terms : Terms) (carried : List Carried) (image : Option ImageOctets) (octets : ImageOctets)
    → length octets ≡ input_length terms.page
    → MayTurn (moment_at Operate (Exchanged true) terms)
    (record { own = Input (Some octets) ∷ []; heard = OutputOn ∷ []; received = ShowImage ∷ [] })
    (in_mode Operate None carried) (in_mode Operate None carried)
    None None
    (images_with image image None (Some terms.page))
    (images_with (Some octets) (Some octets) None (Some terms.page))

-- the page of the right device is read
abbrev pub RightPagesAreRead : Type 0
RightPagesAreRead =
    (terms : Terms) (carried : List Carried)
    → is_right terms ≡ true → MayTurn (moment_at Startup (Exchanged true) terms)
    (record { own = []; heard = []; received = PageRead ∷ [] })
    (in_mode Startup None carried) (in_mode Startup None carried)
    None None
    (images_with None None None None) (images_read terms)

-- and leads on
abbrev pub PagesLeadOn : Type 0
PagesLeadOn =
    (terms : Terms) (carried : List Carried)
    → is_present terms.page ≡ true → MayTurn (moment_at Startup (Exchanged true) terms)
    (record { own = []; heard = []; received = Move Preoperate None ∷ [] })
    (in_mode Startup None carried) (in_mode Preoperate None carried)
    None None
    (images_with None None None (Some terms.page)) (images_with None None None (Some terms.page))
