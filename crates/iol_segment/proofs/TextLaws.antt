-- The laws of segments joined, of `texts_join`: begin at `text_laws`.
-- For the clauses of `laws::texts_join`, `laws::segments_join` and
--     `iol_by_the_rules::laws::ports_are_by_the_rules`.
use Rattle.std.proofs.Common.{◌≡◌, ℕ, zero, suc, ◌+◌, ◌-◌, ◌*◌, ◌<◌, ◌≤◌, Bool, false, ◌==◌, List, [], ◌∷◌, ◌++◌, length, take, drop, replicate, get_or, refl, sym, ap, ◌∙◌, length-drop, append_assoc, arith, Ok}
use Rattle.std.proofs.lemmas.Bool.Decides.{nat_tests}
use Rattle.std.proofs.lemmas.Grind.{common_steps}
use Rattle.std.proofs.lemmas.List.{take-append-drop}
use Rattle.std.proofs.Math.Seq.{take-append-add, take-add}
use Rattle.iol_isdu.specs.declared.values.Answer.{Answer}
use Rattle.iol_isdu.specs.Frame.{total_at}
use Rattle.iol_isdu.specs.Texts.{FitsAnswer, request_text, answer_front, answer_text}
use Rattle.iol_isdu.specs.Laws.{OneShortText, RequestHoldsLength, AnswerHoldsLength, EachTextIsFound, NoAnswerIsRefused}
use Rattle.iol_isdu.specs.Requests.{shortest, place_of}
use Rattle.iol_segment.specs.Cut.{segment}
use Rattle.iol_segment.specs.Join.{Open, Complete, stage}
use Rattle.iol_segment.specs.TextLaws.{HoldsLength, segments_up_to, IsBefore, IsLast, TextLaws}
use Rattle.iol_segment.proofs.CutLaws.{segments-low, segments-past}
use Rattle.iol_segment.proofs.Growing.{total-bounds}

-- a front of a text is open
pub front-open : (text : List ℕ) (n k : ℕ) → total_at text ≡ Ok n → k < n → k ≤ length text
    → stage (take k text) ≡ Open
front-open text n zero e less fits = refl
front-open [] n (suc k) e less fits = absurd (omega arith)
front-open (a ∷ []) n (suc k) e less fits = grind (arith, nat_tests, common_steps)
front-open (a ∷ b ∷ xs) n (suc zero) e less fits = grind (arith, nat_tests, common_steps)
front-open (a ∷ b ∷ xs) n (suc (suc k)) e less fits = grind (arith, nat_tests, common_steps)

-- octets behind a whole text change nothing
whole-complete : (text more : List ℕ) → HoldsLength text → stage (text ++ more) ≡ Complete text
whole-complete text more e = grind (arith, nat_tests, common_steps, total-bounds text)

-- a full segment
segment-full : (size : ℕ) (text : List ℕ) (i : ℕ) → suc i * size ≤ length text
    → segment size text i ≡ take size (drop (i * size) text)
unfolding segment
segment-full size text i h = grind (arith, nat_tests, common_steps)

-- the segments before the i-th are the octets before it
pub joined-front : (size : ℕ) (text : List ℕ) (i : ℕ) → suc i * size ≤ length text
    → segments_up_to size text i ≡ take (suc i * size) text
joined-front size text zero h = grind (arith, common_steps, segment-full size text 0 h)
joined-front size text (suc i) h =
    rw (joined-front size text i (omega arith), segment-full size text (suc i) h)
    (sym (take-add (suc i * size) size text) ∙ ap (λ n. take n text) (omega arith))

pub joined-is : (size : ℕ) (text : List ℕ) (i : ℕ) → i * size ≤ length text
    → segments_up_to size text i ≡ take (i * size) text ++ segment size text i
joined-is size text zero h = grind (arith, common_steps)
joined-is size text (suc i) h = rw (joined-front size text i h) refl

-- the last segment ends the text, with zeros behind it
segment-last : (size : ℕ) (text : List ℕ) (i : ℕ) → length text ≤ suc i * size
    → segment size text i
    ≡ drop (i * size) text ++ take (size - length (drop (i * size) text)) (replicate size 0)
unfolding segment
segment-last size text i high =
    let rest : List ℕ = drop (i * size) text in
    let room : size ≡ length rest + (size - length rest) = simp length-drop (omega arith) in
    ap (λ n. take n (rest ++ replicate size 0)) room ∙ take-append-add rest _ _

pub joined-whole : (size : ℕ) (text : List ℕ) (i : ℕ) → i * size ≤ length text
    → length text ≤ suc i * size → (more : List ℕ) × (segments_up_to size text i ≡ text ++ more)
joined-whole size text i low high =
    let front : List ℕ = take (i * size) text in
    let rest : List ℕ = drop (i * size) text in
    let more : List ℕ = take (size - length rest) (replicate size 0) in (
      more,
      rw (joined-is size text i low, segment-last size text i high)
          (sym (append_assoc front rest more)
          ∙ ap (λ xs. xs ++ more) (take-append-drop (i * size) text)),
    )

pub grows : (size : ℕ) (text : List ℕ) (i : ℕ) → HoldsLength text → IsBefore size text i
    → stage (segments_up_to size text i) ≡ Open
grows size text i e before = rw (joined-front size text i (omega arith))
    (front-open text (length text) (suc i * size) e before (omega arith))

pub ends : (size : ℕ) (text : List ℕ) (i : ℕ) → HoldsLength text → IsLast size text i
    → stage (segments_up_to size text i) ≡ Complete text
ends size text i e last =
    let whole = joined-whole size text i (omega (arith, last.0)) last.1 in
    ap stage whole.1 ∙ whole-complete text whole.0 e

-- an answer's first octet is that of its service, and its first segment begins with it
answer-first : (read : Bool) (a : Answer) → 64 ≤ get_or (answer_text read a) 0 0
unfolding answer_front
answer-first read a = grind (arith, nat_tests, common_steps)

segment-first : (size : ℕ) (text : List ℕ) → 1 ≤ size → 2 ≤ length text
    → get_or (segment size text 0) 0 0 ≡ get_or text 0 0
unfolding segment
segment-first size text low some = grind (arith, nat_tests, common_steps)

not_small : (n small : ℕ) → 64 ≤ n → small < 64 → (n == small) ≡ false
not_small n small h l = grind (arith, nat_tests)

pub text_laws : OneShortText → RequestHoldsLength → AnswerHoldsLength → EachTextIsFound
    → NoAnswerIsRefused → (size : ℕ) → 1 ≤ size → TextLaws size
text_laws short requests answers found accepted size low =
    record {
      within = λ text i less. segments-low size text i low less;
      past = λ text i more. segments-past size text i low more;
      accepted = accepted;
      grows = grows size;
      ends = ends size;
      requests = requests;
      request_grows = λ r i h. grows size (request_text r) i (requests r h);
      request_ends = λ r i h. ends size (request_text r) i (requests r h);
      finds = λ r more h. found r (request_text r) more
          (shortest (place_of r), (short r h (request_text r)).1 refl);
      answers = answers;
      begins = λ read a h. omega (arith, answer-first read a);
      busy = λ read a h. not_small _ 1 (large read a h) (omega arith);
      silent = λ read a h. not_small _ 0 (large read a h) (omega arith);
    }
  where
    large : (read : Bool) (a : Answer) → FitsAnswer read a
        → 64 ≤ get_or (segment size (answer_text read a) 0) 0 0
    large read a h =
        let text = answer_text read a in
        rw (segment-first size text low (total-bounds text (length text) (answers read a h)).0)
        (answer-first read a)
