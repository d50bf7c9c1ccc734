-- a core that operates does so for the right device
-- For the clauses of `PortCore::serves_right_device`.
use Rattle.std.proofs.Common.{◌≡◌, true, false, Option, Some, None}
use Rattle.std.specs.Prelude.{IsTrue}
use Rattle.iol_page.specs.declared.page.Layouts.{Layouts}
use Rattle.iol_mode.specs.declared.states.State.{State}
use Rattle.iol_mode.specs.declared.states.State.TheVariants.{Operate as AtOperate}
use Rattle.iol_mode.specs.declared.states.PageFacts.{PageFacts}
use Rattle.iol_app.specs.State.{SessionState}
use Rattle.iol_app.specs.StationState.{IsPresent, operates}
use Rattle.iol_app.specs.CoreTurns.{IsRightIn}
use Rattle.iol_port.specs.RightDevice.{IsOfRightDevice}

of_present : (layouts : Layouts) (present : Option PageFacts) → IsPresent layouts present
    → IsOfRightDevice present
unfolding IsPresent
of_present layouts None right = right
of_present layouts (Some facts) right = right.1.expected

pub right_device : (state : State) (t : SessionState) → IsRightIn state t
    → IsTrue (operates state) → IsOfRightDevice t.present
right_device (AtOperate s) t right up = of_present s.layouts t.present right
right_device state t right up = absurd (let never : false ≡ true = up in cc)
