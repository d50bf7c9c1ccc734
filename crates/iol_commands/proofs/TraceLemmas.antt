-- Calls that are traced one after the other, for the clauses of the tracer and of `traced`. Begin
-- with `traces_more`.
-- For the clauses of `Tracer::follow_call`, `Tracer::follow_turns`, `Tracer::follow` and 17 more.
use Rattle.std.proofs.Common.{◌≡◌, ℕ, false, Option, List, [], ◌∷◌, ◌++◌, length, replicate, refl, sym, ap, ◌∙◌, append_assoc, append-nil}
use Rattle.std.proofs.lemmas.List.{length-replicate}
use Rattle.std.proofs.KnownBytes.{Appends-nil, Appends-trans}
use Rattle.std.specs.Io.KnownBytes.{Appends}
use Rattle.iol_sim.specs.Tapped.{TappedWire, wake_noted, exchange_noted, tap_facts}
use Rattle.iol_app.specs.declared.transmission.Transmission.{Transmission}
use Rattle.iol_app.specs.declared.transmission.Transmission.TheVariants.{Wake, Exchange}
use Rattle.iol_port.specs.declared.call.Call.{Call}
use Rattle.iol_port.specs.declared.call.Call.TheVariants as call
use Rattle.iol_port.specs.declared.call.Answered.{Answered}
use Rattle.iol_port.specs.Asks.{IsWireCall}
use Rattle.iol_port.specs.Promises.{RunsJoin}
use Rattle.iol_port.specs.View.{PortOver, IsAbstractCall, Runs}
use Rattle.iol_port.specs.EveryWire.{PortCallGives}
use Rattle.iol_link.specs.WireFacts.{WireFacts}
use Rattle.iol_commands.proofs.PlayLemmas.{runs_none, runs_more}
use Rattle.iol_commands.specs.RunPlayed.{lacks_memory}
use Rattle.iol_commands.specs.RunPrinted.{printed_answer}
use Rattle.iol_commands.specs.TracePrinted.{layout_at, TraceStage, trace_stage, tap_at, CallPasses, Traces, PortTraces, Flows, TracePlace, TracesFrom, PrintsNoteOf}

-- Text that is written in pieces

-- a text is printed, and some of what waits is written
pub flows_after : (a b : Option (List ℕ)) (x y z text : List ℕ) → y ≡ x ++ text
    → Flows a b y z [] → Flows a b x z text
flows_after a b x y z text is flows = record {
  written = flows.written;
  appends = flows.appends;
  rest = sym is ∙ sym (append-nil y) ∙ flows.rest;
}

-- more is printed
pub flows_join : (a b c : Option (List ℕ)) (x y z text later : List ℕ) → Flows a b x y text
    → Flows b c y z later → Flows a c x z (text ++ later)
flows_join a b c x y z text later one two = record {
  written = one.written ++ two.written;
  appends = Appends-trans a b c one.written two.written one.appends two.appends;
  rest = rw (← append_assoc, one.rest, append_assoc, two.rest) (simp append_assoc);
}

-- what waits at the end is written, with a last text behind it
pub whole_written : (a b c : Option (List ℕ)) (waits shown text last : List ℕ)
    → Flows a b [] waits text → shown ≡ waits ++ last → Appends b c shown
    → Appends a c (text ++ last)
whole_written a b c waits shown text last flows is wrote =
    rw (flows.rest, append_assoc, ← is)
    (Appends-trans a b c flows.written shown flows.appends wrote)

module _ {W : Type 0} (facts : WireFacts W) where
  -- what passes in a call is what is noted of it
  passes_of : (call : Call) (asked : Transmission) (s t : TraceStage W) (text : List ℕ)
      → IsWireCall (tap_facts facts) call asked (tap_at s) (tap_at t)
      → PrintsNoteOf call s.number (layout_at s.port) (tap_at t).last t.number text
      → CallPasses facts s call t text
  passes_of call.Turn Wake s t text (answer, called) printed =
      let (shown, next) = rw called.1 at printed in
      (wake_noted answer, called.0, shown, next)
  passes_of call.Turn (Exchange sent) s t text (answer, called) printed =
      let (shown, next) = rw called.1 at printed in
      let octets = sent.octets.items in
      (exchange_noted octets answer, (octets, refl, called.0), shown, next)
  passes_of other asked s t text same (none, stays) =
      (none, ap (λ (w : TappedWire W). w.wire) same, stays)

  traces_join : (s m t : TraceStage W) (calls more : List Call) (replies others : List Answered)
      (text later : List ℕ) → Traces facts s calls replies m text
      → Traces facts m more others t later
      → Traces facts s (calls ++ more) (replies ++ others) t (text ++ later)
  traces_join s m t [] more [] others text later (same, none) second =
      rw none (rw same at second)
  traces_join s m t (call ∷ calls) more (reply ∷ replies) others text later
      (mid, first, rest, is, one, goes) second = (
        mid,
        first,
        rest ++ later,
        rw is (append_assoc first rest later),
        one,
        traces_join mid m t calls more replies others rest later goes second,
      )
  traces_join s m t calls more replies others text later goes second = absurd goes

  -- one call, by what its port says of itself, of the call and of the wire
  pub call_traced : (n m : ℕ) (p q : PortOver (TappedWire W)) (made : Call) (reply : Answered)
      (asked : Transmission) (passed : List ℕ) → IsAbstractCall (tap_facts facts) p made reply q
      → PortCallGives (tap_facts facts) p made reply q
      → IsWireCall (tap_facts facts) made asked p.wire q.wire
      → lacks_memory reply ≡ false
      → PrintsNoteOf made n (layout_at p) q.wire.last m passed
      → PortTraces facts n p (made ∷ []) m q (passed ++ printed_answer made reply)
  unfolding IsAbstractCall Runs
  call_traced n m p q made reply asked passed goes gives_it called granted printed = record {
    answers = reply ∷ [];
    traces = (
      trace_stage m q,
      passed ++ printed_answer made reply,
      [],
      sym (append-nil _),
      record {
        passed = passed;
        made = gives_it;
        granted = granted;
        passes = passes_of made asked (trace_stage n p) (trace_stage m q) passed called printed;
        text_is = refl;
      },
      (refl, refl),
    );
    runs = λ a stands. let (b, call_is, there) = goes a stands in (b, (b, call_is, refl), there);
  }

  -- no call is made
  pub traces_none : (p : TracePlace W) → TracesFrom facts p [] p
  traces_none p = record {
    text = [];
    flows = record { written = []; appends = Appends-nil p.written; rest = append-nil p.waits };
    traced = record {
      answers = [];
      traces = (refl, refl);
      runs = runs_none (tap_facts facts) p.port;
    };
  }

  -- more calls are made
  pub traces_more : RunsJoin → (p q r : TracePlace W) (calls more : List Call)
      → TracesFrom facts p calls q → TracesFrom facts q more r
      → TracesFrom facts p (calls ++ more) r
  traces_more join p q r calls more one two =
      let first = one.traced in
      let second = two.traced in
      record {
        text = one.text ++ two.text;
        flows = flows_join _ _ _ _ _ _ one.text two.text one.flows two.flows;
        traced = record {
          answers = first.answers ++ second.answers;
          traces = traces_join _ _ _ calls more first.answers second.answers one.text two.text
              first.traces second.traces;
          runs = runs_more (tap_facts facts) join p.port q.port r.port calls more first.answers
              second.answers first.runs second.runs;
        };
      }

-- so many turns are so many calls
pub turns_length : (n : ℕ) → length (replicate n call.Turn) ≡ n
turns_length n = length-replicate n call.Turn
