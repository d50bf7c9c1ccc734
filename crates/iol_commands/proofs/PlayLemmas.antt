-- Calls that are made one after the other, for the clauses of `play_lines` and those below it.
-- Begin with `port_plays_join`.
-- For the clauses of `Tracer::follow`, `playing::play_lines`, `playing::play_turns` and 20 more.
use Rattle.std.proofs.Common.{◌≡◌, ℕ, ◌⊎◌, inl, inr, Some, List, [], ◌∷◌, ◌++◌, refl, sym, append_assoc, append-nil}
use Rattle.std.proofs.lemmas.List.Folds.{list_any-append}
use Rattle.iol_link.specs.WireFacts.{WireFacts}
use Rattle.iol_port.specs.declared.call.Call.{Call}
use Rattle.iol_port.specs.declared.call.Answered.{Answered}
use Rattle.iol_port.specs.Promises.{RunsJoin}
use Rattle.iol_port.specs.EveryWire.{RunGives}
use Rattle.iol_port.specs.View.{PortOver, Runs}
use Rattle.iol_script.specs.RunLines.{run_form}
use Rattle.iol_script.specs.Script.{calls_in, line_calls}
use Rattle.iol_script.specs.declared.call_line.CallLine.{CallLine}
use Rattle.iol_script.specs.declared.run_line.RunLine.TheVariants as line_is
use Rattle.iol_commands.specs.RunPrinted.{answers_text}
use Rattle.iol_commands.specs.RunPlayed.{PortPlays}

-- no call is left, or no answer
answers_text-none : (calls : List Call) (answers : List Answered)
    → (calls ≡ []) ⊎ (answers ≡ []) → answers_text calls answers ≡ []
answers_text-none calls answers (inl none) = rw none refl
answers_text-none [] answers (inr none) = refl
answers_text-none (call ∷ calls) answers (inr none) = rw none refl

pub answers_printed : (old out all : List ℕ) (calls : List Call) (answers : List Answered)
    → old ++ all ≡ out ++ answers_text calls answers → (calls ≡ []) ⊎ (answers ≡ [])
    → out ≡ old ++ all
answers_printed old out all calls answers is none =
    sym (rw (answers_text-none calls answers none, append-nil) at is)

-- the calls of a line come before those of the lines behind it
pub calls_in-first : (lines rest : List (ℕ × List ℕ)) (number : ℕ) (line : List ℕ)
    (call : CallLine) → lines ≡ (number, line) ∷ rest → run_form line ≡ Some (line_is.Call call)
    → calls_in lines ≡ line_calls call ++ calls_in rest
calls_in-first lines rest number line call is fits = rw (is, fits) refl

module _ {W : Type 0} (facts : WireFacts W) where
  -- what a port makes one after the other, it makes, and answers so
  gives_join : (p q r : PortOver W) (calls more : List Call) (replies others : List Answered)
      → RunGives facts p calls replies q → RunGives facts q more others r
      → RunGives facts p (calls ++ more) (replies ++ others) r
      × (answers_text (calls ++ more) (replies ++ others)
      ≡ answers_text calls replies ++ answers_text more others)
  gives_join p q r [] more [] others made later = (rw made at later, refl)
  gives_join p q r (call ∷ calls) more (reply ∷ replies) others (mid, first, made) later =
      let (goes, is) = gives_join mid q r calls more replies others made later in
      ((mid, first, goes), rw is (simp append_assoc))
  gives_join p q r calls more replies others made later = absurd made

  -- and so it is for what it stands for
  pub runs_none : (p : PortOver W) → Runs facts p [] [] p
  unfolding Runs
  runs_none p a stands = (a, refl, stands)

  pub runs_more : RunsJoin → (p q r : PortOver W) (calls more : List Call)
      (replies others : List Answered) → Runs facts p calls replies q → Runs facts q more others r
      → Runs facts p (calls ++ more) (replies ++ others) r
  unfolding Runs
  runs_more join p q r calls more replies others first second a stands =
      let (b, run, there) = first a stands in
      let (c, goes_on, last) = second b there in
      (c, join a b c calls more replies others run goes_on, last)

  -- no call is made
  pub plays_none : (p : PortOver W) → PortPlays facts p [] p []
  plays_none p = record {
    answers = [];
    made = refl;
    runs = runs_none p;
    granted = refl;
    text_is = refl;
  }

  -- more calls are made
  pub port_plays_join : RunsJoin → (p q r : PortOver W) (calls more : List Call)
      (text later : List ℕ)
      → PortPlays facts p calls q text → PortPlays facts q more r later
      → PortPlays facts p (calls ++ more) r (text ++ later)
  port_plays_join join p q r calls more text later first second =
      let (made, is) = gives_join p q r calls more first.answers second.answers
      first.made second.made in
      record {
        answers = first.answers ++ second.answers;
        made = made;
        runs = runs_more join p q r calls more first.answers second.answers first.runs second.runs;
        granted = rw (list_any-append, first.granted) second.granted;
        text_is = rw (is, ← first.text_is, ← second.text_is) refl;
      }
