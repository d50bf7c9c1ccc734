-- A judge that is told what octets are split into blames no device by the rules, for the law
-- `octets_are_never_blamed`. Begin at the end, with `items_unblamed`.
-- For the clauses of `split_laws::octets_are_never_blamed`.
use Rattle.std.proofs.Common.{ℕ, zero, suc, List, [], ◌∷◌, length, refl}
use Rattle.std.specs.Prelude.{fold}
use Rattle.iol_far.specs.Far.{Far}
use Rattle.iol_judge.specs.declared.verdict.Wake.{Wake}
use Rattle.iol_judge.specs.declared.verdict.Wake.TheVariants.{Answered, Unanswered}
use Rattle.iol_judge.specs.Judged.{JudgeState, judge_after_wake}
use Rattle.iol_judge.specs.Admitted.{AreUnanswered, IsFair, IsHonestRun, IsWake, NeverBlamed, Passing, is_answered, judge_after_passing}
use Rattle.iol_judge.specs.Admitted as admitted
use Rattle.iol_capture.specs.FairSplits.{BlamesNothing, exchange_passed, items_passed, judge_after_item, unanswered_before}
use Rattle.iol_capture.specs.Written.{Fails, Item, Lapses, Passes, Reads, Tests, Wakes, emitted_items}

-- a row of wake-up requests, and what goes over the line behind the last of them
record Row (count : ℕ) (wake : Wake) (far : Far) (later : List Passing) : Type 0 where
  between : Far
  row : AreUnanswered far count between
  new : Far
  last : IsWake between (is_answered wake) new
  silence : ℕ
  rest : IsHonestRun new silence later

row_of : (count : ℕ) (wake : Wake) (later : List Passing) (far : Far) (silence : ℕ)
    → IsHonestRun far silence (unanswered_before count (admitted.Wakes wake ∷ later))
    → Row count wake far later
row_of zero wake later far silence (new, silence_new, h, rest) = record {
  between = far;
  row = refl;
  new = new;
  last = h.0;
  silence = silence_new;
  rest = rest;
}
row_of (suc count) wake later far silence (next, silence_next, h, rest) =
    let behind = row_of count wake later next silence_next rest in
    record {
      between = behind.between;
      row = (next, h.0, behind.row);
      new = behind.new;
      last = behind.last;
      silence = behind.silence;
      rest = behind.rest;
    }

module _ (never : NeverBlamed) where
  abbrev Unblamed : List Item → Type 0
  Unblamed items = (judged : JudgeState) (far : Far) (silence : ℕ) → IsFair judged far
      → IsHonestRun far silence (items_passed items)
      → BlamesNothing (fold judge_after_item judged (emitted_items items))

  -- of a row the last is told
  row_unblamed : (items : List Item) → Unblamed items → (wake : Wake) (count : ℕ)
      (judged : JudgeState) (far : Far) → IsFair judged far
      → Row count wake far (items_passed items)
      → BlamesNothing (fold judge_after_item (judge_after_wake judged wake) (emitted_items items))
  row_unblamed items rest wake count judged far fair row =
      rest (judge_after_wake judged wake) row.new row.silence
      (never.unseen judged far count row.between wake row.new row.row row.last fair) row.rest

  pub items_unblamed : (items : List Item) → Unblamed items
  items_unblamed [] judged far silence fair run =
      record { unblamed = λ exchange reason e. rw e at fair.state; none_odd = fair.odd }
  items_unblamed (Passes w ∷ items) judged far silence fair (new, silence_new, h, rest) =
      items_unblamed items (judge_after_passing judged (exchange_passed w)) new
      silence_new (never.exchanges judged far silence _ _ new silence_new h fair) rest
  items_unblamed (Reads w ∷ items) judged far silence fair
      (woken, silence_woken, h, (new, silence_new, passed, rest)) =
      let fair_woken = never.wakes_any judged far Unanswered woken h.0 fair in
      items_unblamed items
      (judge_after_passing (judge_after_wake judged Unanswered) (exchange_passed w))
      new silence_new (never.exchanges _ woken silence_woken _ _ new silence_new passed fair_woken)
      rest
  items_unblamed (Wakes time tries t ∷ items) judged far silence fair run =
      row_unblamed items (items_unblamed items) Answered 0 judged far fair
      (row_of 0 Answered (items_passed items) far silence run)
  items_unblamed (Fails time tries ∷ items) judged far silence fair run =
      row_unblamed items (items_unblamed items) Unanswered 0 judged far fair
      (row_of 0 Unanswered (items_passed items) far silence run)
  items_unblamed (Tests tries t ∷ items) judged far silence fair run =
      row_unblamed items (items_unblamed items) Answered (length tries) judged far fair
      (row_of (length tries) Answered (items_passed items) far silence run)
  items_unblamed (Lapses t tries ∷ items) judged far silence fair run =
      row_unblamed items (items_unblamed items) Unanswered (length tries) judged far fair
      (row_of (length tries) Unanswered (items_passed items) far silence run)
