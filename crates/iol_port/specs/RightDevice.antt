-- For which device a port works, on every wire.
use Rattle.std.specs.Prelude.{◌≡◌, true, Option, Some, None, IsTrue}
use Rattle.iol_page.specs.Identity.{is_expected}
use Rattle.iol_mode.specs.declared.states.PageFacts.{PageFacts}
use Rattle.iol_app.specs.StationState.{operates}
use Rattle.iol_port.specs.View.{PortParts}

-- a page was read whole, and is that of the device that was expected when it was checked
abbrev pub IsOfRightDevice : Option PageFacts → Type 0
IsOfRightDevice None = ⊥
IsOfRightDevice (Some facts) = is_expected facts.expected facts.page ≡ true

-- in OPERATE, where alone a request is taken and an output goes out, this holds of the page of
-- the present session
abbrev pub IsForRightDevice : PortParts → Type 0
IsForRightDevice p = IsTrue (operates p.core.state) → IsOfRightDevice p.core.session.present
