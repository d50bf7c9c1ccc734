-- The segments of a request and of its answer, as the watch takes them.
-- For the clauses of `laws::ports_are_by_the_rules`.
use Rattle.std.proofs.Common.{◌≡◌, ℕ, zero, suc, ◌+◌, ◌*◌, ◌≤◌, ◌<◌, Bool, true, false, if◌then◌else◌, nat_lt, List, [], ◌∷◌, ◌++◌, length, take, drop, replicate, refl, sym, ap, ◌∙◌, arith}
use Rattle.std.proofs.lemmas.Bool.Decides.{nat_tests}
use Rattle.std.proofs.lemmas.Grind.{common_steps}
use Rattle.std.proofs.Math.Seq.{drop-append-add}
use Rattle.std.specs.Prelude.{Some, Ok}
use Rattle.iol_octets.specs.Zeros.{are_zeros}
use Rattle.iol_octets.specs.SegmentNumber.{segment_number}
use Rattle.iol_octets.specs.declared.flow_control.Flow.{Flow}
use Rattle.iol_octets.specs.Flow.{IsFlow, flow_address}
use Rattle.iol_isdu.specs.declared.values.Request.{Request}
use Rattle.iol_isdu.specs.Answers.{is_read}
use Rattle.iol_isdu.specs.Parse.{request_of}
use Rattle.iol_isdu.specs.Texts.{IsRequest, request_text}
use Rattle.iol_segment.specs.Cut.{segment, flow_at}
use Rattle.iol_segment.specs.Join.{Open, stage, next_count}
use Rattle.iol_segment.specs.JoinLaws.{count_at}
use Rattle.iol_segment.specs.TextLaws.{TextLaws, IsLast, segments_up_to}
use Rattle.iol_segment.proofs.TextLaws.{joined-is}
use Rattle.iol_far.specs.Codec.{flow_of}
use Rattle.iol_judge.specs.declared.master_transfer.MasterTransfer.{MasterTransfer}
use Rattle.iol_judge.specs.declared.master_transfer.MasterTransfer.TheVariants.{Quiet, Written, Asked, Undecided}
use Rattle.iol_judge.specs.MasterTransfers.{transfer_in_request, transfer_after_message}

-- what is open is shorter than the longest text
pub open_short : (octets : List ℕ) → stage octets ≡ Open → length octets ≤ 238
open_short [] e = omega arith
open_short (a ∷ []) e = omega arith
open_short (a ∷ b ∷ more) e = grind (arith, nat_tests, common_steps)

-- a flow's address is read back as it
pub flow_back : (flow : Flow) → IsFlow flow → flow_of (flow_address flow) ≡ flow
unfolding flow_of
flow_back flow fits = grind (arith, nat_tests)

-- each COUNT is the one behind the last
pub counts_on : (i : ℕ) → next_count (count_at i) ≡ segment_number (suc i)
counts_on zero = refl
counts_on (suc i) = omega arith

-- Zeros behind the last segment

pub zeros_are : (n : ℕ) → are_zeros (replicate n 0) ≡ true
zeros_are zero = refl
zeros_are (suc n) = zeros_are n

zeros_taken : (n m : ℕ) → are_zeros (take n (replicate m 0)) ≡ true
zeros_taken zero m = refl
zeros_taken (suc n) zero = refl
zeros_taken (suc n) (suc m) = zeros_taken n m

-- behind these, of which as many are taken
zeros_behind : (rest : List ℕ) (size more : ℕ)
    → are_zeros (drop (length rest) (take size (rest ++ replicate more 0))) ≡ true
zeros_behind [] size more = zeros_taken size more
zeros_behind (octet ∷ rest) zero more = grind (arith, common_steps)
zeros_behind (octet ∷ rest) (suc size) more = zeros_behind rest size more

last_zeros : (size : ℕ) (text : List ℕ) (i : ℕ) → IsLast size text i
    → are_zeros (drop (length text) (segments_up_to size text i)) ≡ true
unfolding segment
last_zeros size text i last =
    let front : List ℕ = take (i * size) text in
    let rest : List ℕ = drop (i * size) text in
    let low : i * size ≤ length text = omega (arith, last.0) in
    let whole : length text ≡ length front + length rest = grind (arith, common_steps) in
    ap (λ (xs : List ℕ). are_zeros (drop (length text) xs)) (joined-is size text i low)
    ∙ ap (λ n. are_zeros (drop n (front ++ segment size text i))) whole
    ∙ ap are_zeros (drop-append-add front (segment size text i) (length rest))
    ∙ zeros_behind rest size size

-- A request's segments

-- it is none, or one that is given up
abbrev pub is_free : MasterTransfer → Bool
is_free Quiet = true
is_free Undecided = true
is_free transfer = false

abbrev pub is_silent : MasterTransfer → Bool
is_silent Quiet = true
is_silent transfer = false

-- once segment i was sent
abbrev pub sent_up_to : ℕ → Request → ℕ → MasterTransfer
sent_up_to size r i = if nat_lt (suc i * size) (length (request_text r))
    then Written (record { items = segments_up_to size (request_text r) i }) (count_at i)
    else Asked (is_read r)

-- before it is
abbrev pub Waits : ℕ → Request → ℕ → MasterTransfer → Type 0
Waits size r zero transfer = is_free transfer ≡ true
Waits size r (suc i) transfer =
    transfer ≡ Written (record { items = segments_up_to size (request_text r) i }) (count_at i)

module _ (size : ℕ) (r : Request) (fits : IsRequest r) (laws : TextLaws size) where
  found : request_of (request_text r) ≡ Some r
  found = ap request_of (sym (append-nil (request_text r))) ∙ laws.finds r [] fits
    where
      append-nil : (xs : List ℕ) → xs ++ [] ≡ xs
      append-nil [] = refl
      append-nil (x ∷ xs) = ap (λ (ys : List ℕ). x ∷ ys) (append-nil xs)

  joined_by : (more : Bool) (i : ℕ) → nat_lt (suc i * size) (length (request_text r)) ≡ more
      → i * size < length (request_text r)
      → transfer_in_request (segments_up_to size (request_text r) i) (count_at i)
      ≡ Ok (if more
      then Written (record { items = segments_up_to size (request_text r) i }) (count_at i)
      else Asked (is_read r))
  joined_by true i is begins =
      let before : stage (segments_up_to size (request_text r) i) ≡ Open =
      laws.request_grows r i fits (grind (arith, nat_tests, is)) in
      let short = open_short (segments_up_to size (request_text r) i) before in
      grind (arith, nat_tests, before, short)
  joined_by false i is begins =
      let last : IsLast size (request_text r) i = (begins, grind (arith, nat_tests, is)) in
      grind (
        arith,
        laws.request_ends r i fits last,
        last_zeros size (request_text r) i last,
        found,
      )

  pub joined : (i : ℕ) → i * size < length (request_text r)
      → transfer_in_request (segments_up_to size (request_text r) i) (count_at i)
      ≡ Ok (sent_up_to size r i)
  joined i begins = joined_by (nat_lt (suc i * size) (length (request_text r))) i refl begins

  -- the next segment is due
  pub segment_due : (i : ℕ) (before : MasterTransfer) → i * size < length (request_text r)
      → Waits size r i before
      → transfer_after_message true before false (flow_at i) (segment size (request_text r) i)
      ≡ Ok (sent_up_to size r i)
  segment_due zero before begins waits = grind (arith, joined 0 begins)
  segment_due (suc i) before begins waits =
      grind (arith, nat_tests, joined (suc i) begins, counts_on i, waits)
