-- The process data of both directions: where each step is allowed, and what it does.
use Rattle.std.specs.Prelude.{◌≡◌, ◌⊎◌, ℕ, Bool, true, false, List, Option, Some, None, ⊤, IfSome, length}
use Rattle.iol_page.specs.Page.{knows_isdu}
use Rattle.iol_app.specs.declared.mode.Mode.TheVariants.{Down, Startup, Operate}
use Rattle.iol_app.specs.Abstract.Steps.{PortStep, Start, Reset, ShowImage, DropImage, Make, OutputOn, OutputOff, Input, PowerLoss, PageRead, ImageOctets, WireCall, Woke, Exchanged, CallFits, Moment, silence_left, output_length, is_right, input_length}

pub record Images : Type 0 where
  -- what the port shows
  pub image : Option ImageOctets
  -- the device's, and whether it was woken since its last power cycle
  pub input : Option ImageOctets
  pub output : Option ImageOctets
  pub awake : Bool
  -- the output that is wanted, and the last one wanted that a message carried
  pub wanted : Option ImageOctets
  pub sent : Option ImageOctets
  -- the output length that a start-up told, and whether the device has ISDU
  pub known_length : Option ℕ
  pub isdu : Option Bool
  -- the page that the start-up has read whole
  pub page : Option (List ℕ)

abbrev pub MayImages : Moment → PortStep → Images → Type 0
MayImages moment ShowImage i = (moment.began ≡ Operate) × (silence_left moment ≡ 0)
    × IfSome i.input (λ image. length image ≡ input_length moment.terms.page)
MayImages moment Make i = (moment.began ≡ Operate) × (moment.silence ≡ 0)
-- a device that is asleep hears nothing but a wake
MayImages moment OutputOn i = i.awake ≡ true
MayImages moment OutputOff i = (i.awake ≡ true) ⊎ CallFits Down moment.call
MayImages moment PageRead i = (moment.began ≡ Startup) × (is_right moment.terms ≡ true)
MayImages moment step i = ⊤

-- the first of the two that is one
abbrev pub image_or : Option ImageOctets → Option ImageOctets → Option ImageOctets
image_or None other = other
image_or (Some image) other = Some image

-- a wake begins a start-up, which has read nothing
abbrev pub page_after_wire_call : WireCall → Option (List ℕ) → Option (List ℕ)
page_after_wire_call (Woke answered) page = None
page_after_wire_call (Exchanged replied) page = page

abbrev pub images_after : Moment → PortStep → Images → Images
images_after moment ShowImage i = record i { image = i.input }
images_after moment DropImage i = record i { image = None }
images_after moment Make i = record i { sent = image_or i.wanted i.sent }
images_after moment OutputOn i = record i { output = i.sent }
images_after moment OutputOff i = record i { output = None; awake = true }
images_after moment Start i = record i { page = None }
images_after moment Reset i = record i
    { output = None; page = page_after_wire_call moment.call i.page }
images_after moment (Input input) i = record i { input = input }
images_after moment PowerLoss i = record i { input = None; output = None; awake = false }
images_after moment PageRead i =
    record i {
      known_length = Some (output_length moment.terms.page);
      isdu = Some (knows_isdu moment.terms.page);
      page = Some moment.terms.page;
    }
images_after moment step i = i
