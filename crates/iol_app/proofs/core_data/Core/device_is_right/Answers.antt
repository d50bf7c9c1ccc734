-- A page that was checked is that of the device that was expected.
use Rattle.std.proofs.lemmas.Grind.{common_steps}
use Rattle.std.proofs.Common.{arith}
use Rattle.iol_mode.specs.declared.states.State.{State}
use Rattle.iol_app.specs.State.{SessionState}
use Rattle.iol_app.specs.StationState.{SessionFits}
use Rattle.iol_app.specs.CoreTurns.{IsRightIn}
use Rattle.iol_app.proofs.core_data.Core.device_is_right.Goals as goal

right_in : (state : State) (t : SessionState) → SessionFits state t → IsRightIn state t
right_in state t h = grind (arith, common_steps)

pub returns : goal.returns
returns c = rw (← c.self.view_is) (right_in _ _ c.self.invariant.1)
