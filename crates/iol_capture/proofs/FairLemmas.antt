-- A judge that is told the lines of an honest capture, for `honest_captures_are_never_blamed`.
-- Begin at the end, with `captures`.
-- For the clauses of `laws::honest_captures_are_never_blamed`.
use Rattle.std.proofs.Common.{◌≡◌, ℕ, ◌==◌, Option, Some, None, Result, Ok, Err, List, [], ◌∷◌, sym, refl, subst, arith}
use Rattle.std.proofs.lemmas.Bool.{cond_both, eqb-true}
use Rattle.std.specs.List.{cons_option, filter_map}
use Rattle.std.specs.Prelude.{IfSome}
use Rattle.iol_far.specs.Far.{Far}
use Rattle.iol_far.specs.Octets.{octets_in}
use Rattle.iol_link.specs.Honest.{HonestExchange}
use Rattle.iol_judge.specs.Judged.{one_more}
use Rattle.iol_judge.specs.declared.verdict.Odd.{Odd}
use Rattle.iol_judge.specs.declared.verdict.Verdict.{Verdict}
use Rattle.iol_judge.specs.Observed.{whole_page}
use Rattle.iol_judge.specs.Admitted.{IsFair, IsPossible, NeverBlamed}
use Rattle.iol_script.specs.Text.{lines_of}
use Rattle.iol_capture.specs.declared.fault.LineFault.{LineFault}
use Rattle.iol_capture.specs.declared.telling.Telling.TheVariants as telling
use Rattle.iol_capture.specs.declared.trace_line.TraceLine.{TraceLine}
use Rattle.iol_capture.specs.declared.trace_line.TraceLine.TheVariants.{Other, Skipped, Page, Wake, Sent, Received}
use Rattle.iol_capture.specs.TraceLines.{trace_form}
use Rattle.iol_capture.specs.Judging.{Judging, judging_after_exchange, judging_in_call, received_in_call, line_skipped, new_judging, or_bad_form, page_judged, judging_after_line, wake_judged}
use Rattle.iol_capture.specs.HonestCapture.{CapturesNeverBlamed, IsFromHonest, IsHonestTrace}
use Rattle.iol_capture.proofs.ReadLemmas.{judged_from, stays_bad}

-- the judge is fair to a device that brings the lines that are left
record Goes (judging : Judging) (lines : List TraceLine) : Type 0 where
  far : Far
  silence : ℕ
  fair : IsFair judging.judged far
  honest : IsHonestTrace far silence judging.call judging.sent lines

-- One line

module _ (law : NeverBlamed) (lines : List TraceLine) (next : Judging) where
  -- this is made of it
  on : (made : Judging) → made ≡ next → (far : Far) (silence : ℕ) → IsFair made.judged far
      → IsHonestTrace far silence made.call made.sent lines → Goes next lines
  on made is far silence fair honest = subst (λ (j : Judging). Goes j lines) is
      (record { far = far; silence = silence; fair = fair; honest = honest })

  comes : (waits : Option (List ℕ)) (old : Judging) (number : ℕ) (received : Option (List ℕ))
      (far : Far) (silence : ℕ) → IsFair old.judged far → (far_new : Far) (silence_new : ℕ)
      → IfSome waits (λ sent. HonestExchange far silence sent received far_new silence_new)
      → IsHonestTrace far_new silence_new old.call None lines
      → received_in_call waits old number received ≡ Ok next → Goes next lines
  comes None old number received far silence fair far_new silence_new reply honest e = absurd (cc)
  comes (Some sent) old number received far silence fair far_new silence_new reply honest e =
      on (judging_after_exchange old sent received) (grind arith) far_new silence_new
      (law.exchanges old.judged far silence sent received far_new silence_new reply fair) honest

  line_goes : (line : TraceLine) (old : Judging) → Goes old (line ∷ lines)
      → judging_after_line old line ≡ Ok next → Goes next lines
  line_goes Other old h e = on old (grind arith) h.far h.silence h.fair h.honest
  line_goes Skipped old h e =
      on (line_skipped old) (grind arith) h.far h.silence h.fair h.honest
  line_goes (Page octets) old h e =
      cond_both (old.call == 0) (page_judged old octets) old
      (λ (made : Judging). made ≡ next → Goes next lines)
      (λ zero is. on (page_judged old octets) is h.far h.silence
      (subst (λ (o : List ℕ). IsFair (record old.judged { observed = whole_page o }) h.far)
      (sym (h.honest.0 (eqb-true old.call 0 zero))) (law.pages old.judged h.far h.fair))
      h.honest.1)
      (λ other is. on old is h.far h.silence h.fair h.honest.1) (grind arith)
  line_goes (Wake number answer) old h e =
      on (wake_judged (judging_in_call old number) answer) (grind arith) h.honest.0 h.silence
      (law.wakes_any old.judged h.far answer h.honest.0 h.honest.1 h.fair) h.honest.2
  line_goes (Sent number octets) old h e =
      on (record (judging_in_call old number) { sent = Some octets.items }) (grind arith) h.far
      h.silence
      h.fair h.honest
  line_goes (Received number received) old h e =
      comes old.sent old number (octets_in received) h.far h.silence h.fair h.honest.0 h.honest.1
      h.honest.2 h.honest.3 e

-- All lines

module _ (law : NeverBlamed) (judging : Judging) where
  -- the judge is fair at the end of lines, whatever was read before
  abbrev Later : List (List ℕ) → Type 0
  Later lines = (number : ℕ) (old : Judging) → Goes old (filter_map trace_form lines)
      → judged_from telling.Trace (Ok old) number lines ≡ Ok judging → Goes judging []

  emitted_goes : (line : TraceLine) (old : Judging) (number : ℕ) (lines : List (List ℕ))
      → Later lines → Goes old (line ∷ filter_map trace_form lines)
      → (result : Result Judging LineFault) → judging_after_line old line ≡ result
      → judged_from telling.Trace result number lines ≡ Ok judging → Goes judging []
  emitted_goes line old number lines later h (Err fault) is e = absurd (grind (arith, stays_bad))
  emitted_goes line old number lines later h (Ok next) is e =
      later number next (line_goes law (filter_map trace_form lines) next line old h is) e

  form_goes : (form : Option TraceLine) (old : Judging) (number : ℕ) (lines : List (List ℕ))
      → Later lines → Goes old (cons_option form (filter_map trace_form lines))
      → judged_from telling.Trace (or_bad_form (judging_after_line old) form) number lines
      ≡ Ok judging
      → Goes judging []
  form_goes None old number lines later h e = absurd (grind (arith, stays_bad))
  form_goes (Some line) old number lines later h e =
      emitted_goes line old number lines later h (judging_after_line old line) refl e

  lines_go : (lines : List (List ℕ)) → Later lines
  lines_go [] number old h e =
      let same : old ≡ judging = grind arith in subst (λ (j : Judging). Goes j []) same h
  lines_go (line ∷ lines) number old h e =
      form_goes (trace_form line) old (one_more number) lines (lines_go lines) h e

module _ (law : NeverBlamed) where
  capture_ends : (odd : Odd) (text : List ℕ) (judging : Judging) → IsFromHonest odd text judging
      → Goes judging []
  capture_ends odd text judging h =
      lines_go law judging (lines_of text) 0 (new_judging odd)
      (record { far = h.far; silence = h.silence; fair = law.begins odd h.far; honest = h.honest })
      h.judged

  pub captures : CapturesNeverBlamed
  captures = record {
    unblamed = λ odd text judging h exchange reason e.
        let end = capture_ends odd text judging h in
        subst (λ (v : Verdict). IsPossible v judging.judged.states end.far) e end.fair.state;
    none_odd = λ odd text judging h. (capture_ends odd text judging h).fair.odd;
  }
