-- What the search can't prove of the body of `as_plain::plain_text`.
use Rattle.std.proofs.Common.{◌≡◌, ◌∙◌, ℕ, List, [], ◌∷◌, ◌++◌, map, refl, sym, ap, subst, rules, append-nil, append_assoc}
use Rattle.std.specs.List.{enumerate_from}
use Rattle.iol_script.specs.Text.{lines_of, numbered_lines, lines_left}
use Rattle.iol_stored_script.specs.PlainText.{plain_lines}
use Rattle.iol_stored_script.specs.declared.as_plain.StoreLine.TheVariants.{Awaited}
use Rattle.iol_stored_script.proofs.PlainLemmas.{AreLines, IsLine, yielded_line, more_lines, numbers-stay, plain_is_line}
use Rattle.iol_stored_script.proofs.as_plain.plain_text.Goals as goal

pub loop-line-init : goal.loop-line-init
loop-line-init g c =
    let same : numbered_lines c.args.input.now ≡ lines_left c.into_iter-line-iterator.result =
    search rules in
    ([], (λ later. rw c.new-text.ensures.items refl), rw same refl)

pub loop-line-preserved : goal.loop-line-preserved
loop-line-preserved g c =
    let (done, are, rest) = c.loop-line.invariant in
    let line = c.in-Some.line.now in
    let plain = c.stand_in.result.now in
    let is = subst IsLine (sym c.stand_in.ensures)
    (plain_is_line c.loop-line.store c.parse-form.result line
    (yielded_line c.loop-line.line-iterator _ line _ c.in-Some.ensures.steps)) in (
      done ++ plain ∷ [],
      subst (λ (t : List ℕ). AreLines t (done ++ plain ∷ [])) (sym c.in_ok-push_line.ensures)
          (more_lines c.loop-line.text.items plain done are is),
      rest
          ∙ ap (λ (ls : List (ℕ × List ℕ)). done
          ++ map (λ l. l.1) (plain_lines c.loop-line.store ls))
          c.in-Some.ensures.steps
          ∙ rw (c.stand_in.ensures, c.behind-store.ensures, c.parse-form.ensures)
          (simp append_assoc refl),
    )

pub returns : goal.returns
returns g c =
    let (done, are, rest) = c.loop-line.invariant in
    let text = c.loop-line.text.items in
    let is : lines_of text ≡ done =
    ap lines_of (sym (append-nil text)) ∙ are [] ∙ append-nil done in
    let plain : map (λ l. l.1) (plain_lines Awaited (numbered_lines c.args.input.now)) ≡ done =
    rest
    ∙ ap (λ (ls : List (ℕ × List ℕ)). done ++ map (λ l. l.1) (plain_lines c.loop-line.store ls))
    c.in-None.ensures.steps.0
    ∙ append-nil done in
    ap (enumerate_from 1) (is ∙ sym plain) ∙ numbers-stay Awaited 1 (lines_of c.args.input.now)
