-- The writes of a block, one more of which is read: the clause of `block_of` needs these.
-- For the clauses of `storage_line::block_of`.
use Rattle.std.proofs.Common.{◌≡◌, ℕ, Bool, true, false, cond, List, [], ◌∷◌, Option, Some, None, codes, option_and_then, option_map, refl}
use Rattle.std.specs.Str.{bytes_eq}
use Rattle.iol_isdu.specs.declared.values.Place.{Place}
use Rattle.iol_script.specs.Numerals.{of_both}
use Rattle.iol_storage.specs.declared.download.Keep.{Keep}
use Rattle.iol_stored_script.specs.StorageLines.{block_form, keep_named, more_writes, write_behind, write_of_words, write_taken}
use Rattle.iol_stored_script.specs.declared.storage_line.StorageCall.TheVariants.{Block}

-- the writes behind one that was taken
abbrev pub behind_taken : Option (List (Place × List ℕ) × List (List ℕ))
    → Option (List (Place × List ℕ))
behind_taken taken = option_and_then (λ t. more_writes t.0 t.1) taken

never : (b : Bool) → ◌≡◌ {A = Option (List (Place × List ℕ))} None (cond b None None)
never true = refl
never false = refl

taken-is : (b : Bool) (o : Option (List (Place × List ℕ))) (words : List (List ℕ))
    → cond b (option_and_then (λ more. more_writes more words) o) None
    ≡ cond b (behind_taken (option_map (λ more. (more, words)) o)) None
taken-is true None words = refl
taken-is true (Some more) words = refl
taken-is false o words = refl

pub more_writes-first : (writes : List (Place × List ℕ)) (slash : List ℕ) (words : List (List ℕ))
    → more_writes writes (slash ∷ words)
    ≡ cond (bytes_eq slash (codes "/")) (behind_taken (write_taken writes words)) None
more_writes-first writes slash [] = never (bytes_eq slash (codes "/"))
more_writes-first writes slash (index ∷ []) = never (bytes_eq slash (codes "/"))
more_writes-first writes slash (index ∷ sub ∷ []) = never (bytes_eq slash (codes "/"))
more_writes-first writes slash (index ∷ sub ∷ word ∷ words) =
    taken-is (bytes_eq slash (codes "/"))
    (option_and_then (write_behind writes) (write_of_words index sub word)) words

some_block : (keep : Keep) (o : Option (List (Place × List ℕ)))
    → of_both Block (Some keep) o ≡ option_map (Block keep) o
some_block keep None = refl
some_block keep (Some writes) = refl

-- the first is read
pub first_write : (all words : List (List ℕ)) (word : List ℕ) (keep : Keep)
    (writes : List (Place × List ℕ)) (taken : Option (List (Place × List ℕ) × List (List ℕ)))
    → all ≡ word ∷ words → Some keep ≡ keep_named word → writes ≡ []
    → taken ≡ write_taken writes words
    → block_form all ≡ option_map (Block keep) (behind_taken taken)
first_write all words word keep writes taken is named none took =
    rw (is, ← named, more_writes-first [] (codes "/") words, ← none, ← took)
    (some_block keep (behind_taken taken))

-- another one is
pub next_write : (writes : List (Place × List ℕ)) (all words : List (List ℕ)) (word : List ℕ)
    (taken : Option (List (Place × List ℕ) × List (List ℕ))) → all ≡ word ∷ words
    → true ≡ bytes_eq word (codes "/") → taken ≡ write_taken writes words
    → more_writes writes all ≡ behind_taken taken
next_write writes all words word taken is slash took =
    rw (is, more_writes-first writes word words, ← slash, ← took) refl
