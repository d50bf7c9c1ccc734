-- on every wire a run is its calls, one after another, and its wire comes from the first by calls
-- alone
-- For the clauses of `Port::abandon`, `Port::open_for`, `Port::run` and 3 more.
use Rattle.std.proofs.Common.{ap, OnOk, OnErr, ◌<◌, ◌+◌, ◌∷◌, ◌++◌, [], List, ℕ, Result, false, ◌≡◌, ◌∙◌, length, take, get_or, refl, arith}
use Rattle.std.proofs.lemmas.Grind.{common_steps}
use Rattle.std.proofs.lemmas.List.{take_more}
use Rattle.std.specs.Prelude.{◌⊎◌}
use Rattle.iol_far.specs.Far.{Far}
use Rattle.iol_app.specs.CallSteps.{LinkStands}
use Rattle.iol_mode.specs.Stands.{StateStands}
use Rattle.iol_mode.specs.declared.configuration.Devices.{Devices}
use Rattle.iol_mode.specs.declared.states.State.{State}
use Rattle.iol_app.specs.declared.mode.Mode.TheVariants.{Down}
use Rattle.iol_app.specs.Asking.{IsCall}
use Rattle.iol_link.specs.WireFacts.{WireFacts}
use Rattle.iol_app.specs.declared.transmission.Transmission.{Transmission}
use Rattle.iol_app.specs.StationState.{mode_in}
use Rattle.iol_port.specs.declared.call.Call.{Call}
use Rattle.iol_port.specs.declared.call.Call.TheVariants as call
use Rattle.iol_port.specs.declared.call.Answered.{Answered}
use Rattle.iol_port.specs.declared.call.Answered.TheVariants as answered
use Rattle.iol_port.specs.declared.fault.PortFault.{PortFault}
use Rattle.iol_port.specs.Asks.{asks_of}
use Rattle.iol_book.specs.BookModel.{BookState}
use Rattle.iol_book.specs.declared.limits.Limits.{Limits}
use Rattle.iol_port.specs.WireCalls.{AreCalls}
use Rattle.iol_port.specs.View.{PortParts, PortOver, Opening, Does, IsPort, IsNewFor, opening_for, on_wire}
use Rattle.iol_port.specs.EveryWire.{PortCallGives, RestartGives, RunGives}
use Rattle.iol_port.specs.CorePort.{CoreDoes, CoreOpensFor}
use Rattle.iol_port.proofs.CorePorts.{call_over}
use Rattle.iol_port.proofs.RunLemmas.{run_extended, run_new}
use Rattle.iol_port.proofs.TurnLemmas.{book_limits}

abbrev pub devices_of : PortParts → Devices
devices_of p = p.core.session.configuration.devices

-- what each call but a turn leaves of the mode: it stays, or it is down. The devices stay
pub record Leaves (p next : PortParts) : Type 0 where
  pub sent : next.sent ≡ p.sent
  pub state : (next.core.state ≡ p.core.state) ⊎ (mode_in next.core.state ≡ Down)
  pub devices : devices_of next ≡ devices_of p

pub stays : {p next mid : PortParts} → next ≡ mid → mid.sent ≡ p.sent
    → mid.core.state ≡ p.core.state → devices_of mid ≡ devices_of p → Leaves p next
stays same sent state devices = grind (arith, common_steps)

-- whether it was refused or not
pub stays_by : {p next : PortParts} (mid : PortParts)
    (r : Result (Unit {0}) PortFault) → OnOk r (next ≡ mid) → OnErr r (next ≡ p)
    → mid.sent ≡ p.sent → mid.core.state ≡ p.core.state → devices_of mid ≡ devices_of p
    → Leaves p next
stays_by mid r changed same sent state devices = grind (arith, common_steps)

pub stays_down : {p next : PortParts} → RestartGives p next → Leaves p next
stays_down gives = grind (arith, common_steps)

module _ {W : Type 0} (facts : WireFacts W) where
  open facts use {far, silence}

  -- a run goes on by one call
  pub run_none : (p : PortOver W) → RunGives facts p [] [] p
  run_none p = refl

  run_snoc : (p mid next : PortOver W) (calls : List Call) (replies : List Answered) (c : Call)
      (reply : Answered) → RunGives facts p calls replies mid → PortCallGives facts mid c reply next
      → RunGives facts p (calls ++ c ∷ []) (replies ++ reply ∷ []) next
  run_snoc p mid next [] [] c reply run one = (next, rw run at one, refl)
  run_snoc p mid next (d ∷ calls) (r ∷ replies) c reply (following, first, rest) one =
      (following, first, run_snoc following mid next calls replies c reply rest one)
  run_snoc p mid next _ _ c reply run one = absurd run

  pub run_more : (p mid next : PortOver W) (calls : List Call) (i : ℕ) (d : Call)
      (replies : List Answered) (reply : Answered) → i < length calls
      → RunGives facts p (take i calls) replies mid
      → PortCallGives facts mid (get_or calls i d) reply next
      → RunGives facts p (take (i + 1) calls) (replies ++ reply ∷ []) next
  run_more p mid next calls i d replies reply below run one = rw (take_more calls i d below)
      (run_snoc p mid next (take i calls) replies (get_or calls i d) reply run one)

  -- one call of the wire more
  calls_snoc : (first old new : W) (calls : List Transmission) (asked : Transmission)
      → AreCalls facts calls first old → IsCall facts asked old new
      → AreCalls facts (calls ++ asked ∷ []) first new
  calls_snoc first old new [] asked is one = (new, rw is at one, refl)
  calls_snoc first old new (c ∷ calls) asked (mid, this, rest) one =
      (mid, this, calls_snoc mid old new calls asked rest one)

  down_stands : (state : State) (n : ℕ) (f : Far) → mode_in state ≡ Down → StateStands state n f
  down_stands state n f down = grind (arith, common_steps)

  stands_on : (wire : W) (p next : PortParts)
      → (next.core.state ≡ p.core.state) ⊎ (mode_in next.core.state ≡ Down)
      → StateStands p.core.state (silence wire) (far wire)
      → StateStands next.core.state (silence wire) (far wire)
  stands_on wire p next state stands = grind (arith, common_steps, down_stands)

  -- each call but a turn keeps what a port keeps
  pub call_preserves : {o : Opening W} {wire : W} {p next : PortParts} {c : Call}
      {reply : Answered} → IsPort facts o (on_wire p wire) → CoreDoes p c reply next
      → Leaves p next → IsPort facts o (on_wire next wire)
  call_preserves {wire = wire} {p = p} {next = next} {c = c} {reply = reply} is does leaves =
      let over = call_over facts wire p next c reply does in
      let same = book_limits c reply p.book.state next.book.state over.book in
      record {
        run = run_extended facts _ _ _ _ _ is.run over;
        wire = is.wire;
        limits = (same.0 ∙ is.limits.0, same.1 ∙ is.limits.1);
        free = leaves.sent ∙ is.free;
        stands = λ h. stands_on wire p next leaves.state (is.stands (rw leaves.devices at h));
      }

  pub port_turned : (o : Opening W) (p next : PortOver W) → IsPort facts o p
      → Does facts p call.Turn answered.Nothing next
      → IsCall facts (asks_of p.parts) p.wire next.wire
      → next.parts.sent ≡ false → LinkStands facts next.wire next.parts.core
      → IsPort facts o next
  port_turned o p next is does one free stands = record {
    run = run_extended facts o p next call.Turn answered.Nothing is.run does;
    wire = (
      is.wire.0 ++ asks_of p.parts ∷ [],
      calls_snoc o.wire _ _ is.wire.0 (asks_of p.parts) is.wire.1 one,
    );
    limits = (does.book.1.0 ∙ is.limits.0, does.book.1.1 ∙ is.limits.1);
    free = free;
    stands = stands;
  }

  -- a new port
  pub port_new : (devices : Devices) (limits : Limits) (p : PortOver W)
      → let o : Opening W = opening_for facts devices limits p.wire in
      CoreOpensFor devices limits p.parts → IsNewFor devices limits p.parts → IsPort facts o p
  port_new devices limits p opens new =
      let o : Opening W = opening_for facts devices limits p.wire in record {
        run = run_new facts o p (λ well.
            (well.0, opens (far p.wire) (silence p.wire) well.1));
        wire = ([], refl);
        limits = (
          ap (λ (b : BookState). b.limit) new.book,
          ap (λ (b : BookState). b.queue) new.book,
        );
        free = new.sent;
        stands = λ h. down_stands p.parts.core.state _ _ new.mode;
      }
