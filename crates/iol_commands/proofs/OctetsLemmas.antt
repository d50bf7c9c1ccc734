-- Octets that are traced one after the other, for the clauses of `octet_tracing` and of
-- `judge_traced`. Begin with `texts_join`.
-- For the clauses of `judge_command::judge_traced`, `judge_command::judge`, `octet_tracing::show`
--     and 4 more.
use Rattle.std.proofs.Common.{◌≡◌, ℕ, ◌+◌, ◌<◌, false, ◌⊎◌, inl, inr, Option, Some, None, IfErr, Result, Ok, Err, OnOk, IfOk, List, [], ◌∷◌, ◌++◌, length, get_or, take, drop, refl, sym, ap, ◌∙◌, subst, append_assoc, append-nil, add-one, drop-cons, take-append-drop}
use Rattle.std.proofs.KnownBytes.{Appends-nil, Appends-trans, Consumes-trans}
use Rattle.std.proofs.lemmas.List.{take_more}
use Rattle.std.specs.Prelude.{IfSome, IsErrAnd, is_err}
use Rattle.std.specs.Io.KnownBytes.{Appends, Consumes, IsAtEnd, Keeps}
use Rattle.std.specs.List.{cons_option}
use Rattle.iol_link.specs.declared.wire.Rate.{Rate}
use Rattle.iol_judge.specs.declared.verdict.Odd.{Odd}
use Rattle.iol_capture.specs.declared.fault.CaptureFault.{CaptureFault}
use Rattle.iol_capture.specs.declared.telling.CaptureForm.TheVariants.{Octets}
use Rattle.iol_capture.specs.declared.timed_call.TimedCall.{TimedCall}
use Rattle.iol_capture.specs.Capture.{ReaderState, calls_of_rest, judging_after_rest, judging_at_end, last_call, new_opened}
use Rattle.iol_capture.specs.Judging.{Judging}
use Rattle.iol_commands.specs.declared.judge_command.JudgeFault.{JudgeFault}
use Rattle.iol_commands.specs.declared.judge_command.JudgeFault.TheVariants.{Capture, OutOfMemory, WriteFailed}
use Rattle.iol_commands.specs.OctetsTraced.{FlowsCalls, OctetsPlace, PrintsCalls, PrintsTimed, ReadsEnd, ReadsText, StopsTrace, TracesReader, TracesRest, TracesText, TracesToEnd, octets_place}
use Rattle.iol_commands.specs.TracePrinted.{Flows}
use Rattle.iol_commands.proofs.TraceLemmas.{flows_join}

-- what holds where a call is `Ok`, which isn't an error
pub no_error : {T E P : Type 0} (r : Result T E) → OnOk r P → is_err r ≡ false → P
no_error (Ok done) holds good = holds
no_error (Err fault) holds good = absurd (cc)

-- what `?` returns
pub is_fault : {U : Type 0} (result : Result U JudgeFault) (fault : JudgeFault)
    → IsErrAnd result (λ e. e ≡ fault) → result ≡ Err fault
is_fault (Ok done) fault is = absurd is
is_fault (Err other) fault is = ap Err is

-- Calls

calls_join : (rate : Rate) (calls more : List TimedCall) (text later : List ℕ)
    → PrintsCalls rate calls text → PrintsCalls rate more later
    → PrintsCalls rate (calls ++ more) (text ++ later)
calls_join rate [] more text later none second = rw none second
calls_join rate (call ∷ calls) more text later (first, rest, is, one, goes) second = (
  first,
  rest ++ later,
  rw is (append_assoc first rest later),
  one,
  calls_join rate calls more rest later goes second,
)

pub flows_none : (rate : Rate) (waits : List ℕ) (known : Option (List ℕ))
    → FlowsCalls rate [] waits known waits known
flows_none rate waits known = record {
  trace = [];
  prints = refl;
  flows = record { written = []; appends = Appends-nil known; rest = append-nil waits };
}

-- one call
pub flows_one : (rate : Rate) (call : TimedCall) (waits : List ℕ) (old : Option (List ℕ))
    (left : List ℕ) (new : Option (List ℕ)) (text : List ℕ) → PrintsTimed rate call text
    → Flows old new waits left text → FlowsCalls rate (call ∷ []) waits old left new
flows_one rate call waits old left new text prints flows = record {
  trace = text;
  prints = (text, [], sym (append-nil text), prints, refl);
  flows = flows;
}

flows_calls_join : (rate : Rate) (calls more : List TimedCall) (x y z : List ℕ)
    (a b c : Option (List ℕ)) → FlowsCalls rate calls x a y b → FlowsCalls rate more y b z c
    → FlowsCalls rate (calls ++ more) x a z c
flows_calls_join rate calls more x y z a b c one two = record {
  trace = one.trace ++ two.trace;
  prints = calls_join rate calls more one.trace two.trace one.prints two.prints;
  flows = flows_join a b c x y z one.trace two.trace one.flows two.flows;
}

keeps_nothing : (a b : Option (List ℕ)) → Keeps a b → Appends a b []
keeps_nothing None b same = tt
keeps_nothing (Some x) None same = absurd same
keeps_nothing (Some x) (Some y) same = same ∙ sym (append-nil x)

option_first : (call : Option TimedCall) (later : List TimedCall)
    → cons_option call [] ++ later ≡ cons_option call later
option_first None later = refl
option_first (Some call) later = refl

seam : (text rest : List ℕ) (i : ℕ) → i < length text
    → take i text ++ ((get_or text i 0 ∷ []) ++ (drop (i + 1) text ++ rest)) ≡ text ++ rest
seam text rest i within =
    let next : drop i text ≡ get_or text i 0 ∷ drop (i + 1) text =
    rw add-one (drop-cons text i 0 within) in
    ap (λ t. take i text ++ (t ++ rest)) (sym next)
    ∙ sym (append_assoc (take i text) (drop i text) rest)
    ∙ ap (λ t. t ++ rest) (take-append-drop i text)

-- what is left at the end is written
pub rest_written : (a b c : Option (List ℕ)) (left text : List ℕ) → Flows a b [] left text
    → Appends b c left → Appends a c text
rest_written a b c left text flows wrote =
    subst (λ t. Appends a c t) (sym flows.rest)
    (Appends-trans a b c flows.written left flows.appends wrote)

-- the call that stopped says why
pub same_stop : (result fault : JudgeFault) (why : CaptureFault)
    → ((result ≡ WriteFailed → ⊥) → result ≡ fault) → result ≡ Capture why → fault ≡ Capture why
same_stop result fault why same is = sym (same (λ failed. cc)) ∙ is

-- whatever it was but a write that failed
pub stop_appended : (result fault : JudgeFault) (a b c : Option (List ℕ))
    (left : List ℕ) → ((result ≡ WriteFailed → ⊥) → result ≡ fault)
    → ((why : CaptureFault) → result ≡ Capture why → Appends b c left)
    → (result ≡ OutOfMemory → Keeps b c)
    → ((fault ≡ WriteFailed → ⊥) → (text : List ℕ) × Appends a b text)
    → (result ≡ WriteFailed → ⊥) → (text : List ℕ) × Appends a c text
stop_appended (Capture why) fault a b c left same written unchanged first other =
    let is : Capture why ≡ fault = same other in
    let (text, appends) = first (λ failed. cc) in
    (text ++ left, Appends-trans a b c text left appends (written why refl))
stop_appended WriteFailed fault a b c left same written unchanged first other = absurd (other refl)
stop_appended OutOfMemory fault a b c left same written unchanged first other =
    let is : OutOfMemory ≡ fault = same other in
    let (text, appends) = first (λ failed. cc) in
    (text ++ [], Appends-trans a b c text [] appends (keeps_nothing b c (unchanged refl)))

-- Texts

module _ (rate : Rate) where
  -- nothing is read
  pub text_none : (p : OctetsPlace) → TracesText rate p [] p
  text_none p = record {
    judged = λ rest. refl;
    calls = [];
    emitted = λ rest. refl;
    flows = flows_none rate p.waits p.written;
  }

  -- more is read
  pub texts_join : (p q r : OctetsPlace) (text more : List ℕ) → TracesText rate p text q
      → TracesText rate q more r → TracesText rate p (text ++ more) r
  texts_join p q r text more one two = record {
    judged = λ rest. two.judged rest ∙ one.judged (more ++ rest)
        ∙ ap (λ t. judging_after_rest p.opened t) (sym (append_assoc text more rest));
    calls = one.calls ++ two.calls;
    emitted = λ rest. append_assoc one.calls two.calls (calls_of_rest r.opened rest)
        ∙ ap (λ l. one.calls ++ l) (two.emitted rest) ∙ one.emitted (more ++ rest)
        ∙ ap (λ t. calls_of_rest p.opened t) (sym (append_assoc text more rest));
    flows = flows_calls_join rate one.calls two.calls p.waits q.waits r.waits p.written q.written
        r.written one.flows two.flows;
  }

  -- the rest is read
  pub rest_joins : (p q : OctetsPlace) (text more : List ℕ) (judged : Result Judging CaptureFault)
      (left : List ℕ) (new : Option (List ℕ)) → TracesText rate p text q
      → TracesToEnd rate q more judged left new → TracesToEnd rate p (text ++ more) judged left new
  rest_joins p q text more judged left new one two = record {
    trace = one.flows.trace ++ two.trace;
    traces = record {
      is_judged = sym (one.judged more) ∙ two.traces.is_judged;
      prints = subst (λ (calls : List TimedCall).
          PrintsCalls rate calls (one.flows.trace ++ two.trace)) (one.emitted more)
          (calls_join rate one.calls (calls_of_rest q.opened more) one.flows.trace two.trace
          one.flows.prints two.traces.prints);
    };
    flows = flows_join p.written q.written new p.waits q.waits left one.flows.trace two.trace
        one.flows.flows two.flows;
  }

  pub stops_behind : (fault : JudgeFault) (p q : OctetsPlace) (text more left : List ℕ)
      (new : Option (List ℕ)) → TracesText rate p text q → StopsTrace fault rate q more left new
      → StopsTrace fault rate p (text ++ more) left new
  stops_behind (Capture why) p q text more left new one stops =
      rest_joins p q text more (Err why) left new one stops
  stops_behind WriteFailed p q text more left new one stops = tt
  stops_behind OutOfMemory p q text more left new one (later, appends) = (
    one.flows.flows.written ++ later,
    Appends-trans p.written q.written new one.flows.flows.written later one.flows.flows.appends
        appends,
  )

  -- the octet of a text at this place is read
  pub octet_joins : (p q r : OctetsPlace) (text : List ℕ) (i : ℕ) → i < length text
      → TracesText rate p (take i text) q → TracesText rate q (get_or text i 0 ∷ []) r
      → TracesText rate p (take (i + 1) text) r
  octet_joins p q r text i within one two =
      rw (take_more text i 0 within) (texts_join p q r (take i text) (get_or text i 0 ∷ []) one two)

  pub octet_stops : (fault : JudgeFault) (p q r : OctetsPlace) (text : List ℕ) (i : ℕ)
      → i < length text → TracesText rate p (take i text) q
      → ((rest : List ℕ)
      → StopsTrace fault rate q ((get_or text i 0 ∷ []) ++ rest) r.waits r.written)
      → (rest : List ℕ) → StopsTrace fault rate p (text ++ rest) r.waits r.written
  octet_stops fault p q r text i within one stops rest =
      let later : List ℕ = drop (i + 1) text ++ rest in
      subst (λ t. StopsTrace fault rate p t r.waits r.written) (seam text rest i within)
      (stops_behind fault p q (take i text) ((get_or text i 0 ∷ []) ++ later) r.waits r.written one
      (stops later))

  -- One more octet, or the end, by what the reader makes of it

  -- a bad line is met
  pub bad_ends : (p : OctetsPlace) (text : List ℕ) (why : CaptureFault)
      → Err why ≡ judging_after_rest p.opened text → [] ≡ calls_of_rest p.opened text
      → TracesToEnd rate p text (Err why) p.waits p.written
  bad_ends p text why judged emitted = record {
    trace = [];
    traces = record {
      is_judged = sym judged;
      prints = subst (λ (calls : List TimedCall). PrintsCalls rate calls []) emitted refl;
    };
    flows = record {
      written = [];
      appends = Appends-nil p.written;
      rest = append-nil p.waits;
    };
  }

  -- memory is short, or a write fails, behind these calls
  pub stops_after : (fault : JudgeFault) (p q : OctetsPlace) (calls : List TimedCall)
      (text left : List ℕ) (new : Option (List ℕ))
      → FlowsCalls rate calls p.waits p.written q.waits q.written
      → (fault ≡ OutOfMemory) ⊎ (fault ≡ WriteFailed)
      → (fault ≡ OutOfMemory → Keeps q.written new) → StopsTrace fault rate p text left new
  stops_after (Capture why) p q calls text left new flows (inl is) unchanged = absurd (cc)
  stops_after (Capture why) p q calls text left new flows (inr is) unchanged = absurd (cc)
  stops_after WriteFailed p q calls text left new flows either unchanged = tt
  stops_after OutOfMemory p q calls text left new flows either unchanged = (
    flows.flows.written ++ [],
    Appends-trans p.written q.written new flows.flows.written [] flows.flows.appends
        (keeps_nothing q.written new (unchanged refl)),
  )

  -- an octet was read, and this call is shown, by a call with this result
  pub octet_shown : {U : Type 0} (result : Result U JudgeFault) (p r : OctetsPlace) (octet : ℕ)
      (call : Option TimedCall)
      → ((rest : List ℕ) → judging_after_rest r.opened rest
      ≡ judging_after_rest p.opened (octet ∷ rest))
      → ((rest : List ℕ) → cons_option call (calls_of_rest r.opened rest)
      ≡ calls_of_rest p.opened (octet ∷ rest))
      → OnOk result (FlowsCalls rate (cons_option call []) p.waits p.written r.waits r.written)
      → IfErr result (λ e. (e ≡ OutOfMemory) ⊎ (e ≡ WriteFailed))
      → (result ≡ Err OutOfMemory → Keeps p.written r.written)
      → ReadsText result rate p (octet ∷ []) r
  octet_shown (Ok done) p r octet call judged emitted shown faults unchanged = record {
    judged = judged;
    calls = cons_option call [];
    emitted = λ rest. option_first call (calls_of_rest r.opened rest) ∙ emitted rest;
    flows = shown;
  }
  octet_shown (Err fault) p r octet call judged emitted shown faults unchanged = λ rest.
      stops_after fault p p [] ((octet ∷ []) ++ rest) r.waits r.written
      (flows_none rate p.waits p.written) faults (λ is. unchanged (ap Err is))

  -- the last line was read, and its call shown, and then the end
  pub end_shown : (p : OctetsPlace) (opened : ReaderState) (first last : Option TimedCall)
      (judged : Result Judging CaptureFault) (waits left : List ℕ) (mid new : Option (List ℕ))
      → judging_after_rest opened [] ≡ judging_after_rest p.opened []
      → cons_option first (calls_of_rest opened []) ≡ calls_of_rest p.opened []
      → opened.line ≡ [] → judging_at_end (Ok opened.reading) ≡ judged
      → last_call opened.reading.telling ≡ last
      → FlowsCalls rate (cons_option first []) p.waits p.written waits mid
      → FlowsCalls rate (cons_option last []) waits mid left new
      → TracesToEnd rate p [] judged left new
  end_shown p opened first last judged waits left mid new same emitted empty is_judged is_last one
      two =
      let flows = flows_calls_join rate (cons_option first []) (cons_option last []) p.waits waits
      left p.written mid new one two in
      let whole : judging_at_end (Ok opened.reading) ≡ judging_after_rest opened [] =
      rw empty refl in
      let ends : cons_option (last_call opened.reading.telling) [] ≡ calls_of_rest opened [] =
      rw empty refl in
      let calls : cons_option first [] ++ cons_option last [] ≡ calls_of_rest p.opened [] =
      option_first first (cons_option last [])
      ∙ ap (λ l. cons_option first l) (ap (λ c. cons_option c []) (sym is_last) ∙ ends) ∙ emitted in
      record {
        trace = flows.trace;
        traces = record {
          is_judged = sym same ∙ sym whole ∙ is_judged;
          prints = subst (λ (all : List TimedCall). PrintsCalls rate all flows.trace) calls
              flows.prints;
        };
        flows = flows.flows;
      }

-- From a reader

-- a reader of which these bytes were read, behind those before
pub record ReadsSo (rate : Rate) (before after : Option (List ℕ)) (start place : OctetsPlace)
    : Type 0 where
  pub bytes : List ℕ
  pub consumes : Consumes before after bytes
  pub traces : TracesText rate start bytes place

-- nothing is left
all_read : (P : List ℕ → Type 0) (before after : Option (List ℕ)) (bytes : List ℕ)
    → Consumes before after bytes → IsAtEnd after → P bytes → IfSome before P
all_read P None after bytes consumes ends holds = tt
all_read P (Some xs) None bytes consumes ends holds = absurd consumes
all_read P (Some xs) (Some ys) bytes consumes ends holds =
    subst P (sym (consumes ∙ ap (λ l. bytes ++ l) ends ∙ append-nil bytes)) holds

module _ (rate : Rate) (odd : Odd) (waits : List ℕ) (written : Option (List ℕ)) where
  -- nothing is read yet
  abbrev pub start_place : OctetsPlace
  start_place = octets_place (new_opened (Octets rate) odd) waits written

  -- one more piece
  pub piece_read : (before mid after : Option (List ℕ)) (q r : OctetsPlace) (piece : List ℕ)
      → ReadsSo rate before mid start_place q → Consumes mid after piece
      → TracesText rate q piece r → ReadsSo rate before after start_place r
  piece_read before mid after q r piece was taken more = record {
    bytes = was.bytes ++ piece;
    consumes = Consumes-trans before mid after was.bytes piece was.consumes taken;
    traces = texts_join rate start_place q r was.bytes piece was.traces more;
  }

  -- nothing is left
  pub reader_ends : (before mid after : Option (List ℕ)) (q : OctetsPlace)
      (judged : Result Judging CaptureFault) (left : List ℕ) (new : Option (List ℕ))
      → ReadsSo rate before mid start_place q → Consumes mid after [] → IsAtEnd after
      → TracesToEnd rate q [] judged left new
      → TracesReader rate odd before judged waits written left new
  reader_ends before mid after q judged left new was taken ends more =
      let bytes : List ℕ = was.bytes ++ [] in
      let consumes = Consumes-trans before mid after was.bytes [] was.consumes taken in
      let whole = rest_joins rate start_place q was.bytes [] judged left new was.traces more in
      record {
        trace = whole.trace;
        flows = whole.flows;
        traces = all_read (λ capture. TracesRest rate start_place.opened capture judged whole.trace)
            before after bytes consumes ends whole.traces;
      }

  -- a bad line is met
  pub reader_stops : (before mid after : Option (List ℕ)) (q : OctetsPlace) (why : CaptureFault)
      (piece left : List ℕ) (new : Option (List ℕ)) → ReadsSo rate before mid start_place q
      → Consumes mid after piece
      → ((rest : List ℕ) → TracesToEnd rate q (piece ++ rest) (Err why) left new)
      → TracesReader rate odd before (Err why) waits written left new
  reader_stops before mid after q why piece left new was taken stops =
      stopped before after (Consumes-trans before mid after was.bytes piece was.consumes taken)
    where
      whole : (rest : List ℕ)
          → TracesToEnd rate start_place ((was.bytes ++ piece) ++ rest) (Err why) left new
      whole rest = rw append_assoc (rest_joins rate start_place q was.bytes (piece ++ rest)
          (Err why)
          left new was.traces (stops rest))

      stopped : (before after : Option (List ℕ)) → Consumes before after (was.bytes ++ piece)
          → TracesReader rate odd before (Err why) waits written left new
      stopped None after consumes =
          record { trace = (whole []).trace; flows = (whole []).flows; traces = tt }
      stopped (Some xs) None consumes = absurd consumes
      stopped (Some xs) (Some ys) consumes = record {
        trace = (whole ys).trace;
        flows = (whole ys).flows;
        traces = subst (λ t.
            TracesRest rate start_place.opened t (Err why) (whole ys).trace) (sym consumes)
            (whole ys).traces;
      }

  -- whatever ends it but a write that failed
  pub stop_appends : (fault : JudgeFault) (before mid : Option (List ℕ)) (q : OctetsPlace)
      (text left : List ℕ) (new : Option (List ℕ)) → ReadsSo rate before mid start_place q
      → StopsTrace fault rate q text left new → (fault ≡ WriteFailed → ⊥)
      → (more : List ℕ) × Appends written new more
  stop_appends (Capture why) before mid q text left new was stops other =
      let first = was.traces.flows.flows in (
        first.written ++ stops.flows.written,
        Appends-trans written q.written new first.written stops.flows.written first.appends
            stops.flows.appends,
      )
  stop_appends WriteFailed before mid q text left new was stops other = absurd (other refl)
  stop_appends OutOfMemory before mid q text left new was (later, appends) other =
      let first = was.traces.flows.flows in (
        first.written ++ later,
        Appends-trans written q.written new first.written later first.appends appends,
      )

  -- the end, by a call with this result
  pub end_appends : (result : Result Judging JudgeFault) (before mid : Option (List ℕ))
      (q : OctetsPlace) (left : List ℕ) (new : Option (List ℕ))
      → ReadsSo rate before mid start_place q → ReadsEnd result rate q left new
      → (result ≡ Err WriteFailed → ⊥) → (more : List ℕ) × Appends written new more
  end_appends (Ok judging) before mid q left new was reads other =
      let first = was.traces.flows.flows in (
        first.written ++ reads.flows.written,
        Appends-trans written q.written new first.written reads.flows.written first.appends
            reads.flows.appends,
      )
  end_appends (Err fault) before mid q left new was reads other =
      stop_appends fault before mid q [] left new was reads (λ is. other (ap Err is))

  pub end_whole : (result : Result Judging JudgeFault) (before mid after : Option (List ℕ))
      (q : OctetsPlace) (left : List ℕ) (new : Option (List ℕ))
      → ReadsSo rate before mid start_place q → Consumes mid after [] → IsAtEnd after
      → ReadsEnd result rate q left new
      → IfOk result (λ judging.
      TracesReader rate odd before (Ok judging) waits written left new)
  end_whole (Ok judging) before mid after q left new was taken ends reads =
      reader_ends before mid after q (Ok judging) left new was taken ends reads
  end_whole (Err fault) before mid after q left new was taken ends reads = tt

  pub end_bad : (result : Result Judging JudgeFault) (before mid after : Option (List ℕ))
      (q : OctetsPlace) (left : List ℕ) (new : Option (List ℕ))
      → ReadsSo rate before mid start_place q → Consumes mid after [] → IsAtEnd after
      → ReadsEnd result rate q left new → (why : CaptureFault) → result ≡ Err (Capture why)
      → TracesReader rate odd before (Err why) waits written left new
  end_bad result before mid after q left new was taken ends reads why is =
      reader_ends before mid after q (Err why) left new was taken ends
      (subst (λ (r : Result Judging JudgeFault). ReadsEnd r rate q left new) is reads)
