-- The words of a text up to its first colon, by what a search finds: `first_word` needs these; and
-- the octets that words give, one after the other: `read_octets` does.
-- For the clauses of `trace_line::are_none`, `trace_line::first_octet`, `trace_line::first_word`
--     and 2 more.
use Rattle.std.proofs.Common.{◌≡◌, ℕ, suc, ◌+◌, ◌-◌, ◌*◌, ◌≤◌, ◌<◌, ◌≢◌, Bool, true, false, cond, ◌==◌, Option, Some, None, List, [], ◌∷◌, ◌++◌, length, get_or, take, drop, option_map, refl, sym, ap, subst, ◌∙◌, arith, add-one, append-nil, length-take, drop-cons}
use Rattle.std.proofs.lemmas.Bool.Decides.{nat_tests}
use Rattle.std.proofs.lemmas.Grind.{common_steps}
use Rattle.std.proofs.lemmas.Bool.{or_parts}
use Rattle.std.proofs.lemmas.List.{get_or-take, take-append-drop, take_rest}
use Rattle.std.proofs.lemmas.List.Elements.{All-from_get_or}
use Rattle.std.proofs.lemmas.List.Folds.{list_any_none}
use Rattle.std.proofs.lemmas.List.Sums.{fails_before_first, passes_at_first}
use Rattle.std.specs.List.{list_any, onto_first, position, position_or_len}
use Rattle.std.specs.Option.{option_map_or}
use Rattle.std.specs.Prelude.{nat_lt}
use Rattle.iol_script.specs.Numerals.{before, digit_of, octet_of_digits, octets_of_words, of_both}
use Rattle.iol_script.specs.Text.{words_of}
use Rattle.iol_capture.specs.TraceLines.{are_none, before_colon, colon_words, ends_word, octets_after, octets_form, rate_form}

-- Up to the first colon

abbrev is_colon : ℕ → Bool
is_colon b = b == 58

-- the same by a search that may find none
later_colon : (found : Bool) (c n l : ℕ) (text : List ℕ) → nat_lt n l ≡ found
    → option_map_or (λ place. take place (c ∷ text))
    (cond (nat_lt (suc n) (suc l)) (Some (suc n)) None) (c ∷ text)
    ≡ c ∷ option_map_or (λ place. take place text) (cond (nat_lt n l) (Some n) None) text
later_colon true c n l text is =
    let more : nat_lt (suc n) (suc l) ≡ true = grind (arith, nat_tests) in
    rw (is, more) refl
later_colon false c n l text is =
    let more : nat_lt (suc n) (suc l) ≡ false = grind (arith, nat_tests) in
    rw (is, more) refl

colon_first : (text : List ℕ) → before_colon (58 ∷ text) ≡ []
colon_first text = grind (arith, nat_tests, common_steps)

colon_later : (c : ℕ) (text : List ℕ) → (c == 58) ≡ false
    → before_colon (c ∷ text) ≡ c ∷ before_colon text
colon_later c text other =
    let n : ℕ = position_or_len is_colon text in
    let at : position_or_len is_colon (c ∷ text) ≡ suc n = grind (arith, nat_tests) in
    rw at (later_colon (nat_lt n (length text)) c n (length text) text refl)

-- The first word

-- in front of it stands one more octet
longer_word : (c : ℕ) (text : List ℕ) → ends_word c ≡ false
    → colon_words (c ∷ text) ≡ onto_first c (colon_words text)
longer_word c text inside =
    let parts = or_parts (c == 32) (c == 58) inside in
    ap words_of (colon_later c text parts.1)
    ∙ ap (λ b. cond b ([] ∷ words_of (before_colon text)) (onto_first c (colon_words text))) parts.0

abbrev HasNoEnd : List ℕ → Type 0
HasNoEnd word = list_any ends_word word ≡ false

-- a space ends it
before_space : (word later : List ℕ) → HasNoEnd word
    → colon_words (word ++ 32 ∷ later) ≡ word ∷ colon_words later
before_space [] later none = ap words_of (colon_later 32 later refl)
before_space (c ∷ word) later none =
    let parts = or_parts (ends_word c) (list_any ends_word word) none in
    longer_word c (word ++ 32 ∷ later) parts.0 ∙ ap (onto_first c) (before_space word later parts.1)

-- so does a colon, and with it the text
before_end : (word later : List ℕ) → HasNoEnd word → colon_words (word ++ 58 ∷ later) ≡ word ∷ []
before_end [] later none = ap words_of (colon_first later)
before_end (c ∷ word) later none =
    let parts = or_parts (ends_word c) (list_any ends_word word) none in
    longer_word c (word ++ 58 ∷ later) parts.0 ∙ ap (onto_first c) (before_end word later parts.1)

alone : (word : List ℕ) → HasNoEnd word → colon_words word ≡ word ∷ []
alone [] none = refl
alone (c ∷ word) none =
    let parts = or_parts (ends_word c) (list_any ends_word word) none in
    longer_word c word parts.0 ∙ ap (onto_first c) (alone word parts.1)

-- By a search

-- no octet before the first end ends it
no_end_before : (text : List ℕ) (i : ℕ) → i ≤ length text → i ≤ position_or_len ends_word text
    → HasNoEnd (take i text)
no_end_before text i within early =
    list_any_none ends_word (take i text)
    (All-from_get_or (λ x. ends_word x ≡ false) (take i text) 0
    (λ k lt. let before : k < i = omega (arith, length-take i text) in
    rw get_or-take (fails_before_first ends_word text k 0 (omega arith))))

-- a text is what is before a place, what is there, and what is behind it
parts_at : (text : List ℕ) (i : ℕ) → i < length text
    → text ≡ take i text ++ get_or text i 0 ∷ drop (i + 1) text
parts_at text i within =
    let parts : take i text ++ drop i text ≡ text = take-append-drop i text in
    let behind : drop i text ≡ get_or text i 0 ∷ drop (suc i) text = drop-cons text i 0 within in
    grind (arith, add-one)

pub word_at_space : (text : List ℕ) (i : ℕ) → position ends_word text ≡ Some i
    → get_or text i 0 ≡ 32 → colon_words text ≡ take i text ∷ colon_words (drop (i + 1) text)
word_at_space text i e is =
    let at : position_or_len ends_word text ≡ i = grind (arith, nat_tests) in
    let within : i < length text = grind (arith, nat_tests) in
    let whole : text ≡ take i text ++ 32 ∷ drop (i + 1) text =
    parts_at text i within ∙ ap (λ x. take i text ++ x ∷ drop (i + 1) text) is in
    ap colon_words whole ∙ before_space (take i text) (drop (i + 1) text)
    (no_end_before text i (omega arith) (omega arith))

pub word_at_colon : (text : List ℕ) (i : ℕ) → position ends_word text ≡ Some i
    → get_or text i 0 ≢ 32 → colon_words text ≡ take i text ∷ []
word_at_colon text i e other =
    let at : position_or_len ends_word text ≡ i = grind (arith, nat_tests) in
    let within : i < length text = grind (arith, nat_tests) in
    let ends : ends_word (get_or text i 0) ≡ true =
    subst (λ n. ends_word (get_or text n 0) ≡ true) at
    (passes_at_first ends_word text 0 (omega arith)) in
    let is : get_or text i 0 ≡ 58 = grind (arith, nat_tests, ends) in
    let whole : text ≡ take i text ++ 58 ∷ drop (i + 1) text =
    parts_at text i within ∙ ap (λ x. take i text ++ x ∷ drop (i + 1) text) is in
    ap colon_words whole ∙ before_end (take i text) (drop (i + 1) text)
    (no_end_before text i (omega arith) (omega arith))

pub word_alone : (text : List ℕ) → position ends_word text ≡ None → colon_words text ≡ text ∷ []
word_alone text e =
    let long : length text ≤ position_or_len ends_word text = grind (arith, nat_tests) in
    alone text (list_any_none ends_word text (All-from_get_or (λ x. ends_word x ≡ false) text 0
    (λ k lt. fails_before_first ends_word text k 0 (omega arith))))

-- Octets

-- what was read before what is left
abbrev pub behind : List ℕ → Option (List ℕ) → Option (List ℕ)
behind read left = option_map (λ (later : List ℕ). read ++ later) left

-- none is left
pub behind_whole : (words : List (List ℕ)) (read : List ℕ)
    → octets_of_words words ≡ behind read (Some []) → length read ≤ 128
    → octets_form words ≡ Some (record { items = read })
behind_whole words read is short = grind (arith, nat_tests, append-nil read)

-- there is a first word
record HasWord (words : List (List ℕ)) : Type 0 where
  first : List ℕ
  others : List (List ℕ)
  is : words ≡ first ∷ others

has_word_at : (space : Bool) (c : ℕ) (text : List ℕ) → HasWord (words_of text)
    → HasWord (cond space ([] ∷ words_of text) (onto_first c (words_of text)))
has_word_at true c text later = record { first = []; others = words_of text; is = refl }
has_word_at false c text later =
    record { first = c ∷ later.first; others = later.others; is = ap (onto_first c) later.is }

has_word : (text : List ℕ) → HasWord (words_of text)
has_word [] = record { first = []; others = []; is = refl }
has_word (c ∷ text) = has_word_at (c == 32) c text (has_word text)

pub of_none : (octet : Option ℕ) → before octet None ≡ None
of_none None = refl
of_none (Some octet) = refl

after_digits : (space colon : Bool) (high low c : ℕ) (text : List ℕ) → (c == 32) ≡ space
    → (c == 58) ≡ colon
    → octets_of_words (onto_first high (onto_first low (colon_words (c ∷ text))))
    ≡ before (octet_of_digits high low) (octets_after (c ∷ text))
after_digits true true high low c text e f = absurd (grind (arith, nat_tests))
after_digits false true high low c text e f =
    let is : c ≡ 58 = grind (arith, nat_tests) in
    subst (λ x. octets_of_words (onto_first high (onto_first low (colon_words (x ∷ text))))
    ≡ before (octet_of_digits high low) (octets_after (x ∷ text))) (sym is)
    (ap (λ t. octets_of_words (onto_first high (onto_first low (words_of t)))) (colon_first text))
after_digits true false high low c text e f =
    let is : c ≡ 32 = grind (arith, nat_tests) in
    subst (λ x. octets_of_words (onto_first high (onto_first low (colon_words (x ∷ text))))
    ≡ before (octet_of_digits high low) (octets_after (x ∷ text))) (sym is)
    (ap (λ t. octets_of_words (onto_first high (onto_first low (words_of t))))
    (colon_later 32 text refl))
after_digits false false high low c text e f =
    let word = has_word (before_colon text) in
    let later : colon_words (c ∷ text) ≡ (c ∷ word.first) ∷ word.others =
    longer_word c text (grind arith) ∙ ap (onto_first c) word.is in
    ap (λ w. octets_of_words (onto_first high (onto_first low w))) later
    ∙ sym (ap (λ b. before (octet_of_digits high low) (cond b (Some []) (cond (c == 32)
    (octets_of_words (colon_words text)) None))) f
    ∙ ap (λ b. before (octet_of_digits high low)
    (cond b (octets_of_words (colon_words text)) None)) e ∙ of_none (octet_of_digits high low))

digits_then : (high low : ℕ) (text : List ℕ)
    → octets_of_words (onto_first high (onto_first low (colon_words text)))
    ≡ before (octet_of_digits high low) (octets_after text)
digits_then high low [] = refl
digits_then high low (c ∷ text) = after_digits (c == 32) (c == 58) high low c text refl refl

-- digits are no ends

none_at : (space colon : Bool) (c : ℕ) (text : List ℕ) → (c == 32) ≡ space → (c == 58) ≡ colon
    → ends_word c ≡ true → (words : List (List ℕ)) × (colon_words (c ∷ text) ≡ [] ∷ words)
none_at true colon c text e f ends =
    let is : c ≡ 32 = grind (arith, nat_tests) in (
      colon_words text,
      subst (λ x. colon_words (x ∷ text) ≡ [] ∷ colon_words text) (sym is)
          (ap words_of (colon_later 32 text refl)),
    )
none_at false true c text e f ends =
    let is : c ≡ 58 = grind (arith, nat_tests) in
    ([], subst (λ x. colon_words (x ∷ text) ≡ [] ∷ []) (sym is) (ap words_of (colon_first text)))
none_at false false c text e f ends = absurd (grind (arith, nat_tests))

none_first : (c : ℕ) (text : List ℕ) → ends_word c ≡ true
    → octets_of_words (colon_words (c ∷ text)) ≡ None
none_first c text e = ap octets_of_words (none_at (c == 32) (c == 58) c text refl refl e).1

none_second : (c d : ℕ) (text : List ℕ) → ends_word c ≡ false → ends_word d ≡ true
    → octets_of_words (colon_words (c ∷ d ∷ text)) ≡ None
none_second c d text e f =
    ap octets_of_words (longer_word c (d ∷ text) e
    ∙ ap (onto_first c) (none_at (d == 32) (d == 58) d text refl refl f).1)

no_digit : (c : ℕ) → ends_word c ≡ true → digit_of c ≡ None
no_digit c e = grind (arith, nat_tests)

no_octet : (first second : Option ℕ) (octets : Option (List ℕ)) → second ≡ None
    → before (of_both (λ h l. h * 16 + l) first second) octets ≡ None
no_octet None second octets e = refl
no_octet (Some first) None octets e = refl
no_octet (Some first) (Some second) octets e = absurd (cc)

few_at : (ends : Bool) (c : ℕ) → ends_word c ≡ ends → octets_of_words (colon_words (c ∷ [])) ≡ None
few_at true c e = none_first c [] e
few_at false c e = ap octets_of_words (longer_word c [] e)

of_ends : (first second : Bool) (high low : ℕ) (text : List ℕ) → ends_word high ≡ first
    → ends_word low ≡ second
    → octets_of_words (colon_words (high ∷ low ∷ text))
    ≡ before (octet_of_digits high low) (octets_after text)
of_ends true second high low text e f =
    none_first high (low ∷ text) e
    ∙ sym (ap (λ d. before (of_both (λ h l. h * 16 + l) d (digit_of low)) (octets_after text))
    (no_digit high e))
of_ends false true high low text e f =
    none_second high low text e f
    ∙ sym (no_octet (digit_of high) (digit_of low) (octets_after text) (no_digit low f))
of_ends false false high low text e f =
    ap octets_of_words (longer_word high (low ∷ text) e
    ∙ ap (onto_first high) (longer_word low text f)) ∙ digits_then high low text

pub octets_of_two : (text : List ℕ) → 2 ≤ length text
    → octets_of_words (colon_words text)
    ≡ before (octet_of_digits (get_or text 0 0) (get_or text 1 0))
    (octets_after (take (length text - 2) (drop 2 text)))
octets_of_two [] long = absurd (omega arith)
octets_of_two (high ∷ []) long = absurd (omega arith)
octets_of_two (high ∷ low ∷ text) long =
    rw take_rest (of_ends (ends_word high) (ends_word low) high low text refl refl)

-- the digits are none
pub octets_bad : (text : List ℕ) → 2 ≤ length text
    → None ≡ octet_of_digits (get_or text 0 0) (get_or text 1 0)
    → octets_of_words (colon_words text) ≡ None
octets_bad text long bad =
    octets_of_two text long
    ∙ sym (ap (λ octet. before octet (octets_after (take (length text - 2) (drop 2 text)))) bad)

-- they are
pub octets_are : (text : List ℕ) (octet : ℕ) (left : Option (List ℕ)) → 2 ≤ length text
    → Some octet ≡ octet_of_digits (get_or text 0 0) (get_or text 1 0)
    → octets_after (take (length text - 2) (drop 2 text)) ≡ left
    → octets_of_words (colon_words text) ≡ before (Some octet) left
octets_are text octet left long is later =
    octets_of_two text long
    ∙ sym (ap (λ o. before o (octets_after (take (length text - 2) (drop 2 text)))) is)
    ∙ ap (before (Some octet)) later

-- more of the word is behind them
pub octets_odd : (text : List ℕ) (octet : ℕ) → 2 ≤ length text
    → Some octet ≡ octet_of_digits (get_or text 0 0) (get_or text 1 0)
    → octets_after (take (length text - 2) (drop 2 text)) ≡ None
    → octets_of_words (colon_words text) ≡ None
octets_odd text octet long is later = octets_are text octet None long is later

-- a word of less than two octets is none
pub octets_few : (text : List ℕ) → length text < 2 → octets_of_words (colon_words text) ≡ None
octets_few [] few = refl
octets_few (c ∷ []) few = few_at (ends_word c) c refl
octets_few (c ∷ d ∷ text) few = absurd (omega arith)

-- Words that are to be one alone

pub no_rate : (first text : List ℕ) → rate_form (first ∷ colon_words text) ≡ None
no_rate first text =
    let word = has_word (before_colon text) in ap (λ words. rate_form (first ∷ words)) word.is

pub not_none : (first text : List ℕ) → are_none (first ∷ colon_words text) ≡ false
not_none first text =
    let word = has_word (before_colon text) in ap (λ words. are_none (first ∷ words)) word.is
