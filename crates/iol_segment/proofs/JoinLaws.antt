-- A joiner given the segments of a text, each one or more times: the laws of `segments_join`.
-- Begin at `join_laws`, then `Runs`.
-- For the clauses of `laws::segments_join`.
use Rattle.std.proofs.Common.{◌≡◌, ℕ, zero, suc, ◌+◌, ◌*◌, ◌<◌, ◌≤◌, true, List, [], ◌∷◌, ◌++◌, length, replicate, refl, sym, ap, ◌∙◌, arith, Option, Some, None, Result, Ok}
use Rattle.std.proofs.lemmas.Bool.Decides.{nat_tests}
use Rattle.std.proofs.lemmas.Grind.{common_steps}
use Rattle.std.proofs.lemmas.List.{take_all}
use Rattle.iol_octets.specs.SegmentNumber.{segment_number}
use Rattle.iol_octets.specs.declared.flow_control.Flow.{Flow}
use Rattle.iol_segment.specs.declared.took.Took.{Took}
use Rattle.iol_segment.specs.declared.took.Took.TheVariants.{Repeat}
use Rattle.iol_segment.specs.declared.took.JoinFault.{JoinFault}
use Rattle.iol_segment.specs.Cut.{segment, segments, flow_at, pairs_from, cut_of}
use Rattle.iol_segment.specs.Join.{Open, stage, Joining, stage_step, join_step}
use Rattle.iol_segment.specs.TextLaws.{HoldsLength, segments_up_to}
use Rattle.arrayvec.specs.ArrayVec.{ArrayVec}
use Rattle.iol_segment.specs.JoinLaws.{count_at, joiner_at, took_at, first_took, with_repeats, answers_behind, expected_results, results, joiner_after, JoinLaws}
use Rattle.iol_segment.proofs.CutLaws.{segments-low, segments-past, length-pairs_from}
use Rattle.iol_segment.proofs.Growing.{total-bounds}
use Rattle.iol_segment.proofs.TextLaws.{grows, ends, joined-is, joined-front, front-open}

-- One segment

staged-joined : (count : Option ℕ) (size : ℕ) (text : List ℕ) (i : ℕ)
    → HoldsLength text → i * size < length text
    → stage_step count (segments_up_to size text i) (stage (segments_up_to size text i))
    ≡ record {
      took = Ok (took_at size text i);
      joining = record (joiner_at size text i) { count = count };
    }
staged-joined count size text i e low =
    let open_yet = grows size text i e in let whole = ends size text i e in
    let front = joined-front size text i in grind (arith, nat_tests, common_steps)

taken-next : (j : Joining) (i : ℕ) (octets : List ℕ) → j.started ≡ true → j.count ≡ count_at i
    → stage j.text ≡ Open → join_step j (flow_at (suc i)) octets
    ≡ stage_step (Some (segment_number (suc i))) (j.text ++ octets) (stage (j.text ++ octets))
taken-next j i octets started count open_yet = grind (arith, nat_tests, common_steps)

pub join-first : (size : ℕ) (j : Joining) (text : List ℕ) → HoldsLength text
    → join_step j (flow_at 0) (segment size text 0)
    ≡ record { took = Ok (took_at size text 0); joining = joiner_at size text 0 }
join-first size j text e = staged-joined None size text 0 e
    (omega (arith, (total-bounds text (length text) e).0))

pub join-next : (size : ℕ) (text : List ℕ) (i : ℕ) → HoldsLength text
    → suc i * size < length text →
    join_step (joiner_at size text i) (flow_at (suc i)) (segment size text (suc i))
    ≡ record {
      took = Ok (took_at size text (suc i));
      joining = joiner_at size text (suc i);
    }
join-next size text i e low =
    taken-next (joiner_at size text i) i (segment size text (suc i)) refl refl
    (front-open text (length text) (suc i * size) e low (omega arith))
    ∙ ap (λ xs. stage_step (Some (segment_number (suc i))) xs (stage xs))
    (sym (joined-is size text (suc i) (omega arith)))
    ∙ staged-joined (Some (segment_number (suc i))) size text (suc i) e low

pub join-repeated : (size : ℕ) (text : List ℕ) (i : ℕ) (octets : List ℕ) →
    join_step (joiner_at size text (suc i)) (flow_at (suc i)) octets
    ≡ record { took = Ok Repeat; joining = joiner_at size text (suc i) }
join-repeated size text i octets = grind (arith, nat_tests, common_steps)

-- the joiner gives these answers to the pairs, and is the other one after them
record Runs (j : Joining) (ps : List (Flow × ArrayVec ℕ)) (rs : List (Result Took JoinFault))
    (k : Joining) : Type 0 where
  answers : results j ps ≡ rs
  ends : joiner_after j ps ≡ k

run_step : {j k l : Joining} {p : Flow × ArrayVec ℕ} {ps : List (Flow × ArrayVec ℕ)}
    {r : Result Took JoinFault} {rs : List (Result Took JoinFault)}
    → join_step j p.0 p.1.items ≡ record { took = r; joining = k } → Runs k ps rs l
    → Runs j (p ∷ ps) (r ∷ rs) l
run_step one more = record {
  answers = rw (one, more.answers) refl;
  ends = rw (one, more.ends) refl;
}

run_repeats : {k l : Joining} {ps : List (Flow × ArrayVec ℕ)} {r : Result Took JoinFault}
    {rs : List (Result Took JoinFault)} (n : ℕ) (p : Flow × ArrayVec ℕ)
    → join_step k p.0 p.1.items ≡ record { took = r; joining = k } → Runs k ps rs l
    → Runs k (replicate n p ++ ps) (replicate n r ++ rs) l
run_repeats zero p one more = more
run_repeats (suc n) p one more = run_step one (run_repeats n p one more)

before : (i last n size total : ℕ) → last ≡ i + suc n → last * size < total → suc i * size < total
before i last n size total same low = grind arith

module _ (size : ℕ) (text : List ℕ) (e : HoldsLength text) where
  -- the last of the segments is the one that so many follow
  took-first : (i last : ℕ) (ns : List ℕ) → last ≡ i + length ns → last * size < length text
      → length text ≤ suc last * size → took_at size text i ≡ first_took ns
  took-first i last ns same low high = grind (arith, nat_tests, common_steps)

  -- the segments behind the i-th, each so many times more
  run_on : (i last : ℕ) (ns : List ℕ) → last ≡ i + length ns
      → last * size < length text → length text ≤ suc last * size
      → Runs (joiner_at size text i)
      (with_repeats (pairs_from size text (suc i) (length ns)) ns) (answers_behind ns)
      (joiner_at size text last)
  run_on i last [] same low high =
      record { answers = refl; ends = ap (joiner_at size text) (omega arith) }
  run_on i last (n ∷ ns) same low high =
      run_step (rw (took-first (suc i) last ns (omega arith) low high) at
      (join-next size text i e (before i last (length ns) size (length text) same low)))
      (run_repeats n _ (join-repeated size text i (segment size text (suc i)))
      (run_on (suc i) last ns (omega arith) low high))

  -- the whole cut, with as many numbers as it has pairs
  run_cut : (j : Joining) (more : List ℕ) → 1 ≤ size → length more ≡ length (cut_of size text)
      → (k : Joining) × Runs j (with_repeats (cut_of size text) more) (expected_results more) k
      × (k.text ≡ text)
  run_cut j [] size_low same =
      let high : length text ≤ 0 * size = segments-past size text 0 size_low
      (omega (arith, length-pairs_from size text 0 (segments size text))) in
      absurd (omega (arith, (total-bounds text (length text) e).0))
  run_cut j (n ∷ ns) size_low same =
      let count : segments size text ≡ suc (length ns) =
      omega (arith, length-pairs_from size text 0 (segments size text)) in
      let low : length ns * size < length text =
      segments-low size text (length ns) size_low (omega arith) in
      let high : length text ≤ suc (length ns) * size =
      segments-past size text (suc (length ns)) size_low (omega arith) in
      let first : (k : Joining) → join_step k (flow_at 0) (segment size text 0)
      ≡ record { took = Ok (first_took ns); joining = joiner_at size text 0 } =
      λ k. rw (took-first 0 (length ns) ns (omega arith) low high) at (join-first size k text e) in
      let last = joiner_at size text (length ns) in (
        last,
        rw count (run_step (first j) (run_repeats n _ (first last)
            (run_on 0 (length ns) ns (omega arith) low high))),
        take_all (suc (length ns) * size) text high,
      )

pub join_laws : (size : ℕ) → 1 ≤ size → JoinLaws size
join_laws size low =
    record {
      answers = λ j text more e same. (run_cut size text e j more low same).1.answers;
      joins = λ j text more e same. let run = run_cut size text e j more low same in
          rw run.1.ends run.2;
      ready = λ text e. rw e (grind (arith, nat_tests));
      first = join-first size;
      next = join-next size;
      repeated = join-repeated size;
      whole = λ text i. take_all (suc i * size) text;
    }
