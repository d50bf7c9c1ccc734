-- What is known of an answer's octets, and which answers have them.
-- For the clauses of `answer::has_answer_of`, `octets::note_octets` and
--     `laws::honest_lines_are_never_blamed`.
use Rattle.std.proofs.lemmas.Grind.{common_steps}
use Rattle.std.proofs.lemmas.Bool.Decides.{nat_tests}
use Rattle.std.proofs.Common.{◌≡◌, ℕ, zero, suc, ◌+◌, ◌-◌, ◌*◌, ◌/◌, ◌<◌, ◌≤◌, Bool, true, false, List, [], ◌∷◌, ◌++◌, length, take, drop, replicate, get_or, set, refl, sym, ◌∙◌, ap, arith, ⊎_elim, Result, Ok, length-set}
use Rattle.std.proofs.lemmas.Bool.{and_from, cases_lt, eq-eqb, eqb-true}
use Rattle.std.proofs.lemmas.List.{get_or_append_left, get_or-append_right, get_or-drop, get_or-take, get_or_past, length-drop, length-replicate, length-take, length-take-le, set_past, take_all}
use Rattle.std.proofs.lemmas.List.Folds.{list_any_at}
use Rattle.std.proofs.lemmas.List.FromFn.{length-range_with_len, get_or-range_with_len}
use Rattle.std.proofs.lemmas.List.Sums.{fold-append}
use Rattle.std.proofs.Math.Seq.{drop-cons}
use Rattle.std.specs.Bool.{beq}
use Rattle.std.specs.List.{list_all, list_any, range_with_len}
use Rattle.std.specs.Prelude.{Option, Some, None, IfSome, not, ◌||◌, ◌==◌, if◌then◌else◌, bit_xor, fold, slice_index}
use Rattle.iol_isdu.specs.Answers.{answer_accepts, answer_fault, answers_read, kind_fault}
use Rattle.iol_isdu.specs.Frame.{first_of, front_by, isdu_fault, text_at, total_at, xor_of}
use Rattle.iol_isdu.specs.declared.fault.IsduFault.{IsduFault}
use Rattle.iol_isdu.specs.declared.fault.IsduFault.TheVariants.{BadChkpdu, BadService}
use Rattle.iol_segment.specs.Cut.{segment}
use Rattle.iol_segment.specs.TextLaws.{HoldsLength}
use Rattle.iol_judge.specs.declared.answer.Look.TheVariants.{Padding}
use Rattle.iol_judge.specs.declared.answer.TheConstants.{LONGEST_ANSWER, MOST_OBSERVED}
use Rattle.iol_judge.specs.Answers.{has_answer, answer_head, is_answered_by, is_some_answer, is_such_answer, looks_right, no_known_octets, text_fault}
use Rattle.iol_judge.specs.Octets.{Agrees, are_as_known, is_other, may_be_even, with_octets}

-- Octets that may be known

-- of nothing each thing can be said
pub nothing_known : (n k : ℕ) (P : ℕ → Type 0) → IfSome (get_or (replicate n None) k None) P
nothing_known n k P = grind (arith, common_steps)

pub same_known : (known : Option ℕ) (octet : ℕ) → IfSome known (λ o. octet ≡ o)
    → is_other known octet ≡ false
same_known known octet h = grind (arith, common_steps)

-- one octet more is known
pub set_agrees : (observed : List (Option ℕ)) (page : ℕ → ℕ) (place octet : ℕ)
    → ((k : ℕ) → IfSome (get_or observed k None) (λ o. page k ≡ o)) → page place ≡ octet
    → (k : ℕ) → IfSome (get_or (set observed place (Some octet)) k None) (λ o. page k ≡ o)
set_agrees observed page place octet agrees e k = grind (arith, common_steps, agrees k)

pub nothing_agrees : (octets : List ℕ) → Agrees no_known_octets octets
unfolding no_known_octets
nothing_agrees octets place = nothing_known MOST_OBSERVED place
    (λ octet. slice_index octets place ≡ octet)

pub nothing_long : length no_known_octets ≡ MOST_OBSERVED
unfolding no_known_octets
nothing_long =
    let none : Option ℕ = None in
    length-replicate MOST_OBSERVED none

-- some octets are those at a place of others
abbrev pub AreAt : ℕ → List ℕ → (ℕ → ℕ) → Type 0
AreAt place octets at = (k : ℕ) → k < length octets → at (place + k) ≡ get_or octets k 0

behind_first : (place octet : ℕ) (octets : List ℕ) (at : ℕ → ℕ) → AreAt place (octet ∷ octets) at
    → AreAt (place + 1) octets at
behind_first place octet octets at are k less =
    let sum : place + suc k ≡ place + 1 + k = omega arith in
    ap at (sym sum) ∙ are (suc k) (omega (arith, less))

first_at : (place octet : ℕ) (octets : List ℕ) (at : ℕ → ℕ) → AreAt place (octet ∷ octets) at
    → at place ≡ octet
first_at place octet octets at are =
    let sum : place ≡ place + 0 = omega arith in
    ap at sum ∙ are 0 (omega arith)

-- what is known agrees still, once octets are known that do
pub with_agrees : (observed : List (Option ℕ)) (place : ℕ) (octets text : List ℕ)
    → Agrees observed text → AreAt place octets (λ k. get_or text k 0)
    → Agrees (with_octets observed place octets) text
with_agrees observed place [] text agrees are = agrees
with_agrees observed place (octet ∷ octets) text agrees are =
    with_agrees (set observed place (Some octet)) (place + 1) octets text
    (set_agrees observed (λ k. get_or text k 0) place octet agrees
    (first_at place octet octets (λ k. get_or text k 0) are))
    (behind_first place octet octets (λ k. get_or text k 0) are)

pub with_long : (observed : List (Option ℕ)) (place : ℕ) (octets : List ℕ)
    → length (with_octets observed place octets) ≡ length observed
with_long observed place [] = refl
with_long observed place (octet ∷ octets) =
    with_long (set observed place (Some octet)) (place + 1) octets
    ∙ length-set observed place (Some octet)

-- behind the last none is kept
pub with_past : (observed : List (Option ℕ)) (place : ℕ) (octets : List ℕ) → length observed ≤ place
    → with_octets observed place octets ≡ observed
with_past observed place [] past = refl
with_past observed place (octet ∷ octets) past =
    let same = set_past observed place (Some octet) past in
    ap (λ (s : List (Option ℕ)). with_octets s (place + 1) octets) same
    ∙ with_past observed (place + 1) octets (omega (arith, past))

-- one more is known
pub next_noted : (observed : List (Option ℕ)) (place : ℕ) (octets : List ℕ) (i : ℕ)
    → i < length octets
    → with_octets observed place (drop i octets)
    ≡ with_octets (set observed place (Some (get_or octets i 0))) (place + 1) (drop (i + 1) octets)
next_noted observed place octets i less =
    let next : suc i ≡ i + 1 = omega arith in
    ap (λ (l : List ℕ). with_octets observed place l) (drop-cons octets i 0 less)
    ∙ ap (λ n. with_octets
    (set observed place (Some (get_or octets i 0))) (place + 1) (drop n octets)) next

-- octets that agree are none that is known to be another
fits_at : (observed : List (Option ℕ)) (octets : List ℕ) (at : ℕ → ℕ)
    → ((k : ℕ) → IfSome (get_or observed k None) (λ o. at k ≡ o))
    → ((k : ℕ) → k < length octets → at k ≡ get_or octets k 0)
    → are_as_known observed octets ≡ true
fits_at observed [] at agrees are = refl
fits_at [] (octet ∷ octets) at agrees are = refl
fits_at (known ∷ observed) (octet ∷ octets) at agrees are =
    let first : at 0 ≡ octet = are 0 (omega arith) in
    let same : is_other known octet ≡ false =
    ap (λ o. is_other known o) (sym first) ∙ same_known known (at 0) (agrees 0) in
    and_from _ _ (ap not same) (fits_at observed octets (λ k. at (suc k)) (λ k. agrees (suc k))
    (λ k less. are (suc k) (omega (arith, less))))

-- what is known from a place on is what is known there
behind : (observed : List (Option ℕ)) (text : List ℕ) (place : ℕ) → Agrees observed text
    → (k : ℕ) → IfSome (get_or (drop place observed) k None) (λ o. get_or text (place + k) 0 ≡ o)
behind observed text place agrees k = rw (get_or-drop place observed k None) (agrees (place + k))

pub fits_known : (observed : List (Option ℕ)) (place : ℕ) (octets text : List ℕ)
    → Agrees observed text
    → AreAt place octets (λ k. get_or text k 0) → are_as_known (drop place observed) octets ≡ true
fits_known observed place octets text agrees are =
    fits_at (drop place observed) octets (λ k. get_or text (place + k) 0)
    (behind observed text place agrees) are

-- a segment's octets are those at its place: behind the text there are zeros

get_or-zeros : (n k : ℕ) → slice_index (replicate n 0) k ≡ 0
get_or-zeros zero k = refl
get_or-zeros (suc n) zero = refl
get_or-zeros (suc n) (suc k) = get_or-zeros n k

pub segment_at : (size : ℕ) (text : List ℕ) (i : ℕ)
    → length (segment size text i) ≡ size
    → AreAt (i * size) (segment size text i) (λ k. get_or text k 0)
unfolding segment
segment_at size text i sized k less =
    let rest = drop (i * size) text in
    sym (get_or-take size (rest ++ replicate size 0) k 0 (omega (arith, sized))
    ∙ ⊎_elim (λ lt. get_or_append_left rest (replicate size 0) 0 k lt
    ∙ get_or-drop (i * size) text k 0)
    (λ le. get_or-append_right rest (replicate size 0) (length rest) k 0 refl le
    ∙ get_or-zeros size (k - length rest)
    ∙ sym (sym (get_or-drop (i * size) text k 0) ∙ get_or_past rest k 0 le))
    (cases_lt k (length rest)))

-- A test of one number after the other: of the first, of those behind it, or of none

module _ (test : ℕ → Bool) (from end : ℕ) (found : Bool) where
  abbrev IsFound : Type 0
  IsFound = found ≡ list_any test (range_with_len from (end - from))

  next : from < end → list_any test (range_with_len from (end - from))
      ≡ (test from || list_any test (range_with_len (from + 1) (end - (from + 1))))
  next less =
      let more : end - from ≡ suc (end - (from + 1)) = omega arith in
      ap (λ n. list_any test (range_with_len from n)) more

  pub any_later : from < end → test from ≡ false → IsFound
      → found ≡ list_any test (range_with_len (from + 1) (end - (from + 1)))
  any_later less not_first is = is ∙ next less ∙ ap (λ (b : Bool). b
      || list_any test (range_with_len (from + 1) (end - (from + 1)))) not_first

  pub any_here : from < end → test from ≡ true → IsFound → true ≡ found
  any_here less first is = sym (is ∙ next less ∙ ap (λ (b : Bool). b
      || list_any test (range_with_len (from + 1) (end - (from + 1)))) first)

  pub any_none : end ≤ from → IsFound → false ≡ found
  any_none past is =
      let none : end - from ≡ 0 = omega arith in
      sym (is ∙ ap (λ n. list_any test (range_with_len from n)) none)

-- A text

both_none : (a b : Option IsduFault) → first_of a b ≡ None → (a ≡ None) × (b ≡ None)
both_none None b e = (refl, e)
both_none (Some fault) b e = absurd (cc)

kind_is : (read other : Bool) → kind_fault read other ≡ None → beq read other ≡ true
kind_is read other e = grind (arith, common_steps)

is_accepted : (b : Bool) (fault : IsduFault) (rest : Option IsduFault)
    → (if not b then Some fault else rest) ≡ None → (b ≡ true) × (rest ≡ None)
is_accepted true fault rest e = (refl, e)
is_accepted false fault rest e = absurd (cc)

-- no text has 16 octets
not_16 : (text : List ℕ) (n : ℕ) → total_at text ≡ Ok n → not (n == 16) ≡ true
not_16 text n e = grind (arith, nat_tests, common_steps)

-- what stands before its body
head_at : (text : List ℕ) (n : ℕ) → total_at text ≡ Ok n
    → (k : ℕ) → k < length (answer_head (get_or text 0 0 / 16) n)
    → get_or text k 0 ≡ get_or (answer_head (get_or text 0 0 / 16) n) k 0
head_at text n e k less = grind (arith, nat_tests, common_steps)

even_is : (observed : List (Option ℕ)) (octets : List ℕ) (sum : ℕ) → length observed ≡ length octets
    → ((k : ℕ) → IfSome (get_or observed k None) (λ o. get_or octets k 0 ≡ o))
    → fold bit_xor sum octets ≡ 0 → may_be_even sum observed ≡ true
even_is [] [] sum same agrees even = eq-eqb sum 0 even
even_is (None ∷ observed) octets sum same agrees even = refl
even_is (Some o ∷ observed) (octet ∷ octets) sum same agrees even =
    even_is observed octets (bit_xor sum o) (omega (arith, same)) (λ k. agrees (suc k))
    (ap (λ n. fold bit_xor (bit_xor sum n) octets) (sym (agrees 0)) ∙ even)
even_is observed octets sum same agrees even = absurd (omega (arith, same))

zeros_are : (observed : List (Option ℕ))
    → ((k : ℕ) → IfSome (get_or observed k None) (λ o. 0 ≡ o))
    → list_all (λ octet. not (is_other octet 0)) observed ≡ true
zeros_are [] agrees = refl
zeros_are (known ∷ observed) agrees =
    and_from _ _ (ap not (same_known known 0 (agrees 0))) (zeros_are observed (λ k. agrees (suc k)))

any_service : (p : ℕ → Bool) (service total : ℕ) → answer_accepts service total ≡ true
    → p service ≡ true → list_any p (4 ∷ 5 ∷ 12 ∷ 13 ∷ []) ≡ true
any_service p service total accepts e = grind (arith, nat_tests, common_steps)

-- no answer is longer than the longest
accepted_most : (service total : ℕ) → answer_accepts service total ≡ true → total ≤ LONGEST_ANSWER
accepted_most service total e = grind (arith, nat_tests)

-- a text is its head, and what stands behind that
head_of_text : (text : List ℕ) (n : ℕ) → total_at text ≡ Ok n
    → answer_head (get_or text 0 0 / 16) n
    ++ drop (length (answer_head (get_or text 0 0 / 16) n)) text
    ≡ text
head_of_text text n e = grind (arith, nat_tests, common_steps)

-- what is known of its octets
taken : (observed : List (Option ℕ)) (n : ℕ) (text : List ℕ) → Agrees observed text
    → (k : ℕ) → IfSome (get_or (take n observed) k None) (λ o. get_or text k 0 ≡ o)
taken observed n text agrees k = ⊎_elim
    (λ lt. rw (get_or-take n observed k None lt) (agrees k))
    (λ le. let cut = length-take n observed in
    rw (get_or_past (take n observed) k None (omega arith)) tt) (cases_lt k n)

-- and behind it
behind_text : (observed : List (Option ℕ)) (text : List ℕ) → Agrees observed text
    → (k : ℕ) → IfSome (get_or (drop (length text) observed) k None) (λ o. 0 ≡ o)
behind_text observed text agrees k =
    let past : get_or text (length text + k) 0 ≡ 0 =
    get_or_past text (length text + k) 0 (omega arith) in
    rw (← past) (behind observed text (length text) agrees k)

-- what a whole text is found to be
no_fault_in : (read : Bool) (service : ℕ) (text : List ℕ)
    → (if not (answer_accepts service (length text)) then Some BadService else
    if not (xor_of text == 0) then Some BadChkpdu else None) ≡ None
    → (answer_accepts service (length text) ≡ true) × (xor_of text ≡ 0)
no_fault_in read service text e =
    let first = is_accepted (answer_accepts service (length text)) BadService _ e in
    let second = is_accepted (xor_of text == 0) BadChkpdu None first.1 in
    (first.0, eqb-true _ _ second.0)

module _ (read : Bool) (text : List ℕ) (holds : HoldsLength text)
    (accepted : answer_fault read text ≡ None) where
  abbrev its_service : ℕ
  its_service = get_or text 0 0 / 16

  abbrev its_length : ℕ
  its_length = length text

  whole : text_at text ≡ text
  whole = ap (λ (r : Result ℕ IsduFault). front_by r text) holds ∙ take_all its_length text
      (omega arith)

  found : (isdu_fault answer_accepts text ≡ None)
      × (kind_fault read (answers_read its_service) ≡ None)
  found = both_none _ _ accepted

  accepts : (answer_accepts its_service its_length ≡ true) × (xor_of text ≡ 0)
  accepts = no_fault_in read its_service text (ap (λ (t : List ℕ).
      if not (answer_accepts its_service (length t)) then Some BadService else
      if not (xor_of t == 0) then Some BadChkpdu else None) (sym whole)
      ∙ (both_none _ _ found.0).1)

  is_answered : is_answered_by read its_service its_length ≡ true
  is_answered = and_from _ _ (and_from _ _ accepts.0 (not_16 text its_length holds))
      (kind_is read (answers_read its_service) found.1)

  pub longest : its_length ≤ LONGEST_ANSWER
  longest = accepted_most its_service its_length accepts.0

  module _ (observed : List (Option ℕ)) (agrees : Agrees observed text)
      (long : length observed ≡ MOST_OBSERVED) where
    abbrev its_head : List ℕ
    its_head = answer_head its_service its_length

    head_right : are_as_known observed its_head ≡ true
    head_right = fits_at observed its_head (λ k. get_or text k 0) agrees
        (head_at text its_length holds)

    -- its head, and what stands behind that
    parts : its_head ++ drop (length its_head) text ≡ text
    parts = head_of_text text its_length holds

    body_known : (k : ℕ) → IfSome (get_or (drop (length its_head) (take its_length observed)) k
        None)
        (λ o. get_or (drop (length its_head) text) k 0 ≡ o)
    body_known k = rw (
      get_or-drop (length its_head) (take its_length observed) k None,
      get_or-drop (length its_head) text k 0,
    ) (taken observed its_length text agrees (length its_head + k))

    body_long : length (drop (length its_head) (take its_length observed))
        ≡ length (drop (length its_head) text)
    body_long =
        let most = longest in
        let taken : length (take its_length observed) ≡ its_length =
        length-take-le its_length observed (omega (arith, long)) in
        length-drop (length its_head) (take its_length observed)
        ∙ ap (λ n. n - length its_head) taken ∙ sym (length-drop (length its_head) text)

    body_even : fold bit_xor (xor_of its_head) (drop (length its_head) text) ≡ 0
    body_even = sym (fold-append bit_xor 0 its_head (drop (length its_head) text))
        ∙ ap xor_of parts ∙ accepts.1

    sum_right : may_be_even (xor_of its_head)
        (drop (length its_head) (take its_length observed)) ≡ true
    sum_right = even_is _ (drop (length its_head) text) (xor_of its_head) body_long body_known
        body_even

    padding_right : list_all (λ octet. not (is_other octet 0)) (drop its_length observed) ≡ true
    padding_right = zeros_are _ (λ k. behind_text observed text agrees k)

    right : looks_right Padding its_service its_length observed ≡ true
    right = and_from _ _ (and_from _ _ head_right sum_right) padding_right

    some_answer : is_some_answer Padding read observed its_length ≡ true
    some_answer = any_service (is_such_answer Padding read observed its_length) its_service
        its_length
        accepts.0 (and_from _ _ is_answered right)

    -- it is found by its octets that are known
    pub is_found : (above most : ℕ) → above < its_length → its_length ≤ most
        → has_answer Padding read observed above most ≡ true
    unfolding has_answer
    is_found above most low high =
        let place = its_length - (above + 1) in
        let at : above + 1 + place ≡ its_length = omega arith in
        let within : place < most - above = omega arith in
        list_any_at (is_some_answer Padding read observed)
        (range_with_len (above + 1) (most - above))
        place 0 (omega (arith, length-range_with_len (above + 1) (most - above)))
        (ap (is_some_answer Padding read observed)
        (get_or-range_with_len (above + 1) (most - above) place 0 within ∙ at) ∙ some_answer)

    pub text_is_no_fault : (begun : ℕ) → begun < its_length → text_fault read begun observed ≡ None
    text_is_no_fault begun less = rw (is_found begun LONGEST_ANSWER less longest) refl
