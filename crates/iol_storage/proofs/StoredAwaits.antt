-- What a stored port waits for behind `send`: what the clause `awaits` rests on.
-- For the clauses of `port::send`.
use Rattle.std.proofs.Common.{◌≡◌, true, refl}
use Rattle.iol_mode.specs.declared.states.State.{State}
use Rattle.iol_mode.specs.declared.states.State.TheVariants.{Down as AtDown, Startup as AtStartup, Preoperate as AtPreoperate, Operate as AtOperate}
use Rattle.iol_app.specs.declared.transmission.Transmission.{Transmission}
use Rattle.iol_app.specs.declared.transmission.Transmission.TheVariants.{Wake, Exchange}
use Rattle.iol_app.specs.Pieces.{IsAskedOut}
use Rattle.iol_port.specs.CorePort.{awaited_in, awaited_answer}
use Rattle.iol_port.specs.View.{PortParts}
use Rattle.iol_storage.specs.StoredPort.{answer_to}

answered-in : (asked : Transmission) (state : State) → IsAskedOut asked state
    → awaited_in state ≡ answer_to asked
answered-in Wake (AtDown s) out = refl
answered-in Wake (AtStartup s) out = absurd out
answered-in Wake (AtPreoperate s) out = absurd out
answered-in Wake (AtOperate s) out = absurd out
answered-in (Exchange message) (AtDown s) out = absurd out.0
answered-in (Exchange message) (AtStartup s) out = refl
answered-in (Exchange message) (AtPreoperate s) out = refl
answered-in (Exchange message) (AtOperate s) out = refl

pub awaits_out : (p : PortParts) (asked : Transmission) → p.sent ≡ true
    → IsAskedOut asked p.core.state
    → awaited_answer p ≡ answer_to asked
awaits_out p asked sent out = rw sent (answered-in asked p.core.state out)
