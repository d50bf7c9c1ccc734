-- What the search can't prove of the body of `LineWorker::serve`.
use Rattle.std.proofs.Common.{◌≡◌, ◌+◌, ◌<◌, ◌≤◌, inl, inr, ℕ, List, [], ◌∷◌, length, refl, add-one, arith}
use Rattle.iol_app.specs.declared.transmission.Transmission.{Transmission}
use Rattle.iol_master.proofs.Lets.{one_more as one_turn_more}
use Rattle.iol_master.proofs.line.LineWorker.serve.Goals as goal

none_yet : (more : ℕ) → more ≡ more + 0
none_yet more = omega arith

not_below : (turn : ℕ) → turn < 0 → ⊥
not_below turn below = omega arith

one_more : (calls turn : ℕ) (asked : Transmission) (more : List Transmission)
    → calls ≡ length (asked ∷ more) + turn → calls ≡ length more + (turn + 1)
one_more calls turn asked more e = omega arith

few : (calls turn turns : ℕ) → calls ≡ 0 + turn → turn ≤ turns → calls ≤ turns
few calls turn turns e t = omega arith

pub loop-turn-init : goal.loop-turn-init
loop-turn-init g c = record {
  called = λ more last are. (more, are, none_yet _);
  all = refl;
  yes = λ turn below. elim (not_below turn below) [ ];
}

pub loop-turn-preserved : goal.loop-turn-preserved
loop-turn-preserved g c =
    let asked = c.turn.ensures.asked in
    let before = c.loop-turn.invariant in
    record {
      called = λ more last are.
          let made = before.called (asked.0 ∷ more) last (c.turn.new.self.wire, asked.1, are) in
          (made.0, made.1, one_more _ _ asked.0 more made.2);
      all = rw add-one (c.loop-turn.self, before.all, c.turn.ensures.turned);
      yes = one_turn_more g.G.Gate.pass_gives _ _ _ before.yes
          (rw (← c.if-not-pass.false) c.pass.ensures);
    }

pub returns-then-not-pass : goal.returns-then-not-pass
returns-then-not-pass g c =
    let loop = c.loop-turn.invariant in
    let made = loop.called [] c.loop-turn.self.wire refl in
    record {
      called = (made.0, made.1, few _ _ _ made.2 c.loop-turn.auto.turn-end);
      worked = record {
        made = c.loop-turn.turn;
        let_in = record {
          yes = loop.yes;
          ends = inr (c.loop-turn-test.true, rw (← c.if-not-pass.true) c.pass.ensures);
        };
        all = loop.all;
      };
    }

pub returns : goal.returns
returns g c =
    let loop = c.loop-turn.invariant in
    let made = loop.called [] c.loop-turn.self.wire refl in
    record {
      called = (made.0, made.1, few _ _ _ made.2 c.loop-turn.auto.turn-end);
      worked = record {
        made = c.loop-turn.turn;
        let_in = record {
          yes = loop.yes;
          ends = inl (omega (arith, c.loop-turn.auto.turn-end, c.loop-turn-test.false));
        };
        all = loop.all;
      };
    }
