-- A turn: what goes out, one call of the wire, and what is made of what came.
use Rattle.std.proofs.Common.{true, false, refl}
use Rattle.iol_app.specs.Asking.{asked_in}
use Rattle.iol_app.specs.Pieces.{IsOutAsAsked, IsWoken}
use Rattle.iol_app.proofs.Stepping.{woken_turn, wake_stands, exchange_turn, exchange_stands}
use Rattle.iol_app.proofs.core_data.Core.turn.Given as given
use Rattle.iol_app.proofs.core_data.Core.turn.Goals as goal

-- the message that is out is the one asked for
is_out : (g : given.Over) (c : goal.After-exchange g)
    → IsOutAsAsked true (asked_in c.args.self.now.state c.args.self.now.session c.args.room)
    c.put_next.new.self.state
is_out g c = rw c.if-put_next.true at c.put_next.ensures.out

pub returns-then-put_next-clause-turn : goal.returns-then-put_next-clause-turn
returns-then-put_next-clause-turn g c =
    exchange_turn _ _ _ _ _ _ c.station_laws.ensures (rw (← c.self.view_is) c.self.invariant.0)
    c.put_next.ensures.puts (is_out g c) c.exchange.ensures

pub returns-then-put_next-clause-stands : goal.returns-then-put_next-clause-stands
returns-then-put_next-clause-stands g c =
    exchange_stands _ _ _ _ _ _ c.page_and_room_stay.ensures.much c.requires
    c.put_next.ensures.puts (is_out g c).0 c.exchange.ensures

-- in down a wake is asked for
is_down : (g : given.Over) (c : goal.After-of_wake g)
    → IsOutAsAsked false (asked_in c.args.self.now.state c.args.self.now.session c.args.room)
    c.put_next.new.self.state
is_down g c = rw c.if-put_next.false at c.put_next.ensures.out

woken : (g : given.Over) (c : goal.After-of_wake g)
    → IsWoken g.W.Wire.facts c.args.wire.now c.wake-rate.new.self c.put_next.new.self
    c.set_idle.new.self c.of_wake.result c.take_wake.new.self
woken g c = record {
  answer = c.wake-rate.result;
  called = c.wake-rate.ensures.gives;
  passes = c.wake-rate.ensures.wakes;
  honesty = c.wake-rate.ensures.honesty;
  quiet = c.wake-rate.ensures.quiet;
  still = c.take_wake.ensures.still;
  stands = c.take_wake.ensures.stands;
  idle = c.set_idle.ensures;
  is = c.take_wake.ensures.core;
  wire_result_is = c.of_wake.ensures;
}

pub returns-else-put_next-clause-turn : goal.returns-else-put_next-clause-turn
returns-else-put_next-clause-turn g c =
    woken_turn _ _ _ _ _ _ c.station_laws.ensures (rw (← c.self.view_is) c.self.invariant.0)
    c.put_next.ensures.puts (is_down g c) (woken g c)

pub returns-else-put_next-clause-stands : goal.returns-else-put_next-clause-stands
returns-else-put_next-clause-stands g c =
    wake_stands _ _ _ c.args.room _ _ c.page_and_room_stay.ensures.much (woken g c)
