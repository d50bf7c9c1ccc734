-- The restore of a set, carried out by a device of its table.
-- For the clauses of `laws::restored_sets_are_in_force`, `laws::fetched_sets_are_the_devices` and
--     `laws::sets_move`.
use Rattle.std.proofs.Common.{◌≡◌, ◌≤◌, ◌<◌, ◌+◌, ◌∷◌, ◌++◌, ◌∙◌, [], ℕ, zero, suc, List, Option, Some, None, Bool, true, false, refl, ap, arith, length, drop, subst, length-append}
use Rattle.std.specs.Prelude.{◌*◌, slice_get, nat_lt, nat_le, not, map, if◌then◌else◌, ◌==◌, ◌&&◌, ◌||◌, is_none}
use Rattle.std.proofs.lemmas.List.{length-map}
use Rattle.iol_isdu.specs.declared.values.Place.{Place}
use Rattle.iol_isdu.specs.declared.values.Request.{Request}
use Rattle.iol_isdu.specs.declared.values.Request.TheVariants as request
use Rattle.iol_isdu.specs.declared.values.Answer.{Answer}
use Rattle.iol_isdu.specs.declared.values.Answer.TheVariants as answer
use Rattle.iol_params.specs.declared.error_type.ErrorType.{ErrorType}
use Rattle.iol_params.specs.declared.error_type.ErrorType.TheVariants.{AccessDenied, ValueOutOfRange}
use Rattle.iol_params.specs.declared.member.Member.{Member}
use Rattle.iol_params.specs.declared.table.Flaw.{Flaw}
use Rattle.iol_params.specs.declared.table.Flaw.TheVariants.{TooManyMembers, ManagedIndex}
use Rattle.iol_params.specs.declared.table.OrderRule.{OrderRule}
use Rattle.iol_params.specs.declared.table.TableFault.{TableFault}
use Rattle.iol_params.specs.declared.state.Scope.TheVariants.{Storage}
use Rattle.iol_params.specs.declared.state.Locks.{Locks}
use Rattle.iol_params.specs.declared.state.WritesSoFar.TheVariants.{AllTaken, OneRefused}
use Rattle.iol_params.specs.declared.state.Activity.{Activity}
use Rattle.iol_params.specs.declared.state.Activity.TheVariants.{Idle, Upload, Download, CutOff}
use Rattle.iol_params.specs.declared.state.Command.TheVariants.{DownloadStart, DownloadEnd}
use Rattle.iol_params.specs.Values.{value_at}
use Rattle.iol_params.specs.Table.{ParamTable, table_fault, whole, is_managed, begins_stored, member_flaw, members_fault, rules_fault, storage_fault, fault_or, first_fault}
use Rattle.iol_params.specs.State.{ParamState, is_at_rest, is_in, is_foreign, bit_of, with_flag_cleared}
use Rattle.iol_params.specs.Storage.{state_octet, checksum_over}
use Rattle.iol_params.specs.Carry.{write, write_refusal, write_settled, with_write, command, own_command, unless_foreign, download_settled, is_consistent}
use Rattle.iol_params.specs.Requests.{request_result, write_request, written_answer, command_write}
use Rattle.iol_params.specs.Laws.{after_changes, all_written, writings, stored_set, set_of, SetFits, SetsFit}
use Rattle.iol_storage.specs.declared.download.Flag.{Flag}
use Rattle.iol_storage.specs.declared.download.Flag.TheVariants.{Ignored, Counts}
use Rattle.iol_storage.specs.declared.download.DownloadPurpose.TheVariants.{Restore}
use Rattle.iol_storage.specs.declared.download.DownloadResult.TheVariants.{Applied}
use Rattle.iol_storage.specs.declared.download.DownloadStage.{DownloadStage}
use Rattle.iol_storage.specs.declared.download.DownloadStage.TheVariants.{Asking, Over}
use Rattle.iol_storage.specs.Downloads.{object_write, download_command, start_requests, download_requests, lets_go_on, flag_allows, behind_taken, behind_answer, place_asked}
use Rattle.iol_exchange.specs.Exchange.{download_exchange, download_at_device, flag_lets, IsInForce, RestoredSetsAreInForce}

abbrev Values : Type 0
Values = List (Place × List ℕ)

-- what a list begins with behind so many
next-at : {X : Type 0} (xs : List X) (i : ℕ) (x : X) (rest : List X) → drop i xs ≡ x ∷ rest
    → (slice_get xs i ≡ Some x) × (drop (suc i) xs ≡ rest)
next-at [] zero x rest h = absurd (cc)
next-at [] (suc i) x rest h = absurd (cc)
next-at (y ∷ xs) zero x rest h = (cc, cc)
next-at (y ∷ xs) (suc i) x rest h = next-at xs i x rest h

pub and-parts : (a b : Bool) → (a && b) ≡ true → (a ≡ true) × (b ≡ true)
and-parts true true h = (refl, refl)
and-parts true false h = absurd (cc)
and-parts false b h = absurd (cc)

pub or-parts : (a b : Bool) → (a || b) ≡ false → (a ≡ false) × (b ≡ false)
or-parts false false h = (refl, refl)
or-parts false true h = absurd (cc)
or-parts true b h = absurd (cc)

none-is : (why : Option ErrorType) → is_none why ≡ true → why ≡ None
none-is None h = refl
none-is (Some why) h = absurd (cc)

-- No Index of a table is one that the manager has itself

pub fault-parts : (row : ℕ) (flaw : Option Flaw) (other : Option TableFault)
    → fault_or row flaw other ≡ None → (flaw ≡ None) × (other ≡ None)
fault-parts row None other h = (refl, h)
fault-parts row (Some flaw) other h = absurd (cc)

pub first-parts : (a b : Option TableFault) → first_fault a b ≡ None → (a ≡ None) × (b ≡ None)
first-parts None b h = (refl, h)
first-parts (Some fault) b h = absurd (cc)

few-parts : (b : Bool) (fault : TableFault) (other : Option TableFault)
    → (if not b then Some fault else other) ≡ None → other ≡ None
few-parts true fault other h = h
few-parts false fault other h = absurd (cc)

pub table-parts : (members : List Member) (rules : List OrderRule)
    → table_fault members rules ≡ None
    → (members_fault members [] 0 members ≡ None) × (storage_fault members ≡ None)
table-parts members rules h =
    let parts = first-parts (members_fault members [] 0 members)
    (first_fault (storage_fault members) (rules_fault members 0 rules))
    (few-parts (nat_le (length members) 1000)
    (record { row = 1000; flaw = TooManyMembers }) _ h) in
    (parts.0, (first-parts (storage_fault members) (rules_fault members 0 rules) parts.1).0)

free-of : (b : Bool) (flaw : Flaw) (other : Option Flaw)
    → (if b then Some flaw else other) ≡ None → b ≡ false
free-of false flaw other h = refl
free-of true flaw other h = absurd (cc)

pub first-free : (all before : List Member) (row : ℕ) (m : Member) (ms : List Member)
    → members_fault all before row (m ∷ ms) ≡ None
    → (is_managed m.place.index ≡ false)
    × (members_fault all (before ++ m ∷ []) (row + 1) ms ≡ None)
first-free all before row m ms h =
    let parts = fault-parts row (member_flaw all before m)
    (members_fault all (before ++ m ∷ []) (row + 1) ms) h in
    (free-of (is_managed m.place.index) ManagedIndex _ parts.0, parts.1)

abbrev AreFree : Values → Type 0
AreFree [] = Unit {0}
AreFree (w ∷ ws) = (is_managed w.0.index ≡ false) × AreFree ws

set-free : (all before : List Member) (row : ℕ) (values : List (List ℕ)) (ms : List Member)
    → members_fault all before row ms ≡ None → AreFree (stored_set all values ms)
set-free all before row values [] h = tt
set-free all before row values (m ∷ ms) h =
    let first = first-free all before row m ms h in
    by (begins_stored m) first.0
    (set-free all (before ++ m ∷ []) (row + 1) values ms first.1)
  where
    by : (b : Bool) → is_managed m.place.index ≡ false → AreFree (stored_set all values ms)
        → AreFree (if b then (whole m.place.index, value_at all values (whole m.place.index))
        ∷ stored_set all values ms else stored_set all values ms)
    by true free more = (free, more)
    by false free more = more

-- so none is one of those three
pub free-parts : (index : ℕ) → is_managed index ≡ false
    → ((index == 3) ≡ false) × ((index == 2) ≡ false) × ((index == 12) ≡ false)
free-parts index h =
    let parts = or-parts (nat_le index 3) (index == 12) h in
    let low : nat_le index 3 ≡ false = parts.0 in
    (grind (arith, low), grind (arith, low), parts.1)

-- A write of a device

free-write : (table : ParamTable) (s : ParamState) (place : Place) (octets : List ℕ)
    → is_managed place.index ≡ false
    → write_request table s place octets ≡ write table s place octets
free-write table s place octets free =
    let parts = free-parts place.index free in
    rw (parts.0, parts.1, parts.2) refl

write-locks : (table : ParamTable) (s : ParamState) (place : Place) (octets : List ℕ)
    → (write table s place octets).1.locks ≡ s.locks
write-locks table s place octets = by (write_refusal table s place octets)
  where
    changed : (activity : Activity) → (with_write activity table s place octets).locks ≡ s.locks
    changed Idle = refl
    changed (Upload scope) = refl
    changed (Download scope writes) = refl
    changed CutOff = refl

    by : (why : Option ErrorType) → (write_settled why table s place octets).1.locks ≡ s.locks
    by None = changed s.activity
    by (Some why) = refl

-- a command of Data Storage, where that isn't locked
pub command-done : (table : ParamTable) (s : ParamState) → s.locks.storage ≡ false → (octet : ℕ)
    → write_request table s (record { index = 3; sub = 1 }) (octet ∷ [])
    ≡ command_write ValueOutOfRange table s Storage (octet ∷ [])
command-done table s unlocked octet = ap (λ (b : Bool). if b then (Some AccessDenied, s)
    else command_write ValueOutOfRange table s Storage (octet ∷ [])) unlocked

pub written : (table : ParamTable) (s : ParamState) (place : Place) (octets : List ℕ)
    (result : Option ErrorType × ParamState)
    → write_request table s place octets ≡ result → result.0 ≡ None
    → request_result table s (request.Write place (record { items = octets }))
    ≡ (answer.Written, result.1)
written table s place octets result is none =
    ap (λ (e : Option ErrorType × ParamState). (written_answer e.0, e.1)) is
    ∙ ap (λ (e : Option ErrorType). (written_answer e, result.1)) none

module _ (table : ParamTable) (flag : Flag) (objects : Values) where
  abbrev last : ℕ
  last = length (start_requests (Restore flag)) + length objects

  abbrev requests : List Request
  requests = download_requests (Restore flag) objects

  abbrev end_request : Request
  end_request = download_command (Restore flag) 4

  abbrev carried : DownloadStage → ParamState → ℕ → DownloadStage × ParamState
  carried stage s count = download_at_device table (Restore flag) objects stage s count

  -- a request whose answer lets it go on
  step : (i : ℕ) (s : ParamState) (r : Request) (answer : Answer) (next : ParamState) (count : ℕ)
      → slice_get requests i ≡ Some r → request_result table s r ≡ (answer, next)
      → lets_go_on (Restore flag) i answer ≡ true
      → carried (Asking i) s (suc count) ≡ carried (behind_taken i last) next count
  step i s r answer next count is gives lets =
      let put : DownloadStage × ParamState → DownloadStage × ParamState =
      λ e. carried e.0 e.1 count in
      ap (λ q. put (download_exchange table (Restore flag) objects (Asking i) s q)) is
      ∙ (ap (λ (a : Answer × ParamState). put (
        if lets_go_on (Restore flag) i a.0 then behind_taken i last
            else behind_answer (Restore flag) i last (place_asked (Restore flag) objects i) a.0,
        a.1,
      )) gives
      ∙ ap (λ (b : Bool). put (
        if b then behind_taken i last
            else behind_answer (Restore flag) i last (place_asked (Restore flag) objects i)
            answer,
        next,
      )) lets)

  goes-on : (i : ℕ) → i < last → behind_taken i last ≡ Asking (i + 1)
  goes-on i h =
      let less : nat_lt i last ≡ true = grind (arith, h) in
      ap (λ (b : Bool). if b then Asking (i + 1) else Over Applied) less

  is-over : (i : ℕ) → i ≡ last → behind_taken i last ≡ Over Applied
  is-over i h =
      let less : nat_lt i last ≡ false = grind (arith, h) in
      ap (λ (b : Bool). if b then Asking (i + 1) else Over Applied) less

  no-look : (i : ℕ) → 2 ≤ i → lets_go_on (Restore flag) i answer.Written ≡ true
  no-look i h = grind (arith, h)

  abbrev ended : ParamState → Option ErrorType × ParamState
  ended s = command table s Storage DownloadEnd

  -- what comes of the writes from an index on, and of the end
  record Rest (i : ℕ) (s : ParamState) (ws : Values) : Type 0 where
    over : carried (Asking i) s (suc (length ws))
        ≡ (Over Applied, (ended (after_changes table s (writings ws))).1)
    before : (count : ℕ) → count ≤ length ws
        → (carried (Asking i) s count).0 ≡ Asking (i + count)

  rest-none : (i : ℕ) (s : ParamState) → slice_get requests i ≡ Some end_request
      → i ≡ last → 2 ≤ i → s.locks.storage ≡ false → (ended s).0 ≡ None → Rest i s []
  rest-none i s is at far unlocked ends =
      let gives = written table s (record { index = 3; sub = 1 }) (4 ∷ []) (ended s)
      (command-done table s unlocked 4) ends in
      record {
        over = step i s end_request answer.Written (ended s).1 0 is gives (no-look i far)
            ∙ ap (λ (stage : DownloadStage). carried stage (ended s).1 0) (is-over i at);
        before = λ count low. first count low;
      }
    where
      first : (count : ℕ) → count ≤ 0 → (carried (Asking i) s count).0 ≡ Asking (i + count)
      first zero low = ap Asking (omega arith)
      first (suc count) low = absurd (omega (arith, low))

  rest-more : (i : ℕ) (s : ParamState) (w : Place × List ℕ) (ws : Values)
      → slice_get requests i ≡ Some (object_write w) → i < last → 2 ≤ i
      → is_managed w.0.index ≡ false → (write table s w.0 w.1).0 ≡ None
      → Rest (i + 1) (write table s w.0 w.1).1 ws → Rest i s (w ∷ ws)
  rest-more i s w ws is at far free none more =
      let next = (write table s w.0 w.1).1 in
      let gives = written table s w.0 w.1 (write table s w.0 w.1)
      (free-write table s w.0 w.1 free) none in
      let to : (count : ℕ) → carried (Asking i) s (suc count)
      ≡ carried (Asking (i + 1)) next count =
      λ count. step i s (object_write w) answer.Written next count is gives (no-look i far)
      ∙ ap (λ (stage : DownloadStage). carried stage next count) (goes-on i at) in
      record {
        over = to (suc (length ws)) ∙ more.over;
        before = λ count low. first to more count low;
      }
    where
      first : ((count : ℕ) → carried (Asking i) s (suc count)
          ≡ carried (Asking (i + 1)) (write table s w.0 w.1).1 count)
          → Rest (i + 1) (write table s w.0 w.1).1 ws
          → (count : ℕ) → count ≤ suc (length ws)
          → (carried (Asking i) s count).0 ≡ Asking (i + count)
      first to more zero low = ap Asking (omega arith)
      first to more (suc count) low =
          ap (λ (e : DownloadStage × ParamState). e.0) (to count)
          ∙ (more.before count (omega (arith, low)) ∙ ap Asking (omega arith))

  rest : (ws : Values) (i : ℕ) (s : ParamState)
      → drop i requests ≡ map object_write ws ++ end_request ∷ []
      → i + length ws ≡ last → 2 ≤ i → AreFree ws
      → all_written table s (writings ws) ≡ true → s.locks.storage ≡ false
      → (ended (after_changes table s (writings ws))).0 ≡ None → Rest i s ws
  rest [] i s is at far free all unlocked ends =
      rest-none i s (next-at requests i end_request [] is).0 (omega (arith, at)) far unlocked ends
  rest (w ∷ ws) i s is at far free all unlocked ends =
      let next = next-at requests i (object_write w) (map object_write ws ++ end_request ∷ []) is in
      let one : i + 1 ≡ suc i = omega arith in
      let first = write table s w.0 w.1 in
      let parts = and-parts (is_none first.0) (all_written table first.1 (writings ws)) all in
      rest-more i s w ws next.0 (omega (arith, at)) far free.0 (none-is first.0 parts.0)
      (rest ws (i + 1) first.1 (ap (λ n. drop n requests) one ∙ next.1) (omega (arith, at))
      (omega (arith, far)) free.1 parts.1
      (ap (λ (l : Locks). l.storage) (write-locks table s w.0 w.1) ∙ unlocked) ends)

-- an end that is Written leaves no activity and no flag
abbrev IsClear : ParamState → Type 0
IsClear s = (is_at_rest s.activity ≡ true) × (s.flag ≡ false)

end-clear : (table : ParamTable) (s : ParamState)
    → (command table s Storage DownloadEnd).0 ≡ None
    → IsClear (command table s Storage DownloadEnd).1
end-clear table s ends = by (is_foreign Storage s.activity) ends
  where
    settled : (activity : Activity) (consistent : Bool)
        → (download_settled activity consistent s (with_flag_cleared Storage)).0 ≡ None
        → IsClear (download_settled activity consistent s (with_flag_cleared Storage)).1
    settled Idle consistent h = absurd (cc)
    settled (Upload scope) consistent h = absurd (cc)
    settled CutOff consistent h = absurd (cc)
    settled (Download scope OneRefused) consistent h = absurd (cc)
    settled (Download scope AllTaken) false h = absurd (cc)
    settled (Download scope AllTaken) true h = (refl, refl)

    by : (foreign : Bool)
        → (unless_foreign foreign s (own_command table s Storage DownloadEnd)).0 ≡ None
        → IsClear (unless_foreign foreign s (own_command table s Storage DownloadEnd)).1
    by true h = absurd (cc)
    by false h = settled s.activity (is_consistent table s.copy) h

-- The start and the look

abbrev begun_at : ParamState → ParamState
begun_at to = record to { activity = Download Storage AllTaken; copy = to.values }

begins : (table : ParamTable) (to : ParamState) → is_at_rest to.activity ≡ true
    → command table to Storage DownloadStart ≡ (None, begun_at to)
begins table to resting =
    let near : is_foreign Storage to.activity ≡ false =
    ap (λ (b : Bool). not b && not (is_in Storage to.activity)) resting in
    ap (λ (b : Bool). unless_foreign b to (own_command table to Storage DownloadStart)) near

flag-allows : (flag : Flag) (to : ParamState) → flag_lets flag to ≡ true
    → to.locks.storage ≡ false → flag_allows flag (state_octet (begun_at to) ∷ []) ≡ true
flag-allows Ignored to lets unlocked = refl
flag-allows Counts to lets unlocked = by to.flag to.locks.storage lets unlocked
  where
    by : (set locked : Bool) → not set ≡ true → locked ≡ false
        → nat_lt (128 * bit_of set + 2 * (if locked then 3 else 2)) 128 ≡ true
    by false false lets unlocked = refl
    by false true lets unlocked = absurd (cc)
    by true locked lets unlocked = absurd (cc)

module _ (table : ParamTable) (from to : ParamState) (flag : Flag) where
  abbrev set : Values
  set = set_of table from

  abbrev job : DownloadStage → ParamState → ℕ → DownloadStage × ParamState
  job stage s count = download_at_device table (Restore flag) set stage s count

  abbrev all_requests : List Request
  all_requests = download_requests (Restore flag) set

  abbrev at : ParamState
  at = begun_at to

  started : (count : ℕ) → is_at_rest to.activity ≡ true → to.locks.storage ≡ false
      → job (Asking 0) to (suc count) ≡ job (Asking 1) at count
  started count resting unlocked =
      let is = begins table to resting in
      let gives = written table to (record { index = 3; sub = 1 }) (3 ∷ [])
      (None, at) (command-done table to unlocked 3 ∙ is) refl in
      step table flag set 0 to (download_command (Restore flag) 3) answer.Written at count refl
      gives refl
      ∙ ap (λ (stage : DownloadStage). job stage at count)
      (goes-on table flag set 0 (omega arith))

  looked : (count : ℕ) → flag_lets flag to ≡ true → to.locks.storage ≡ false
      → job (Asking 1) at (suc count) ≡ job (Asking 2) at count
  looked count lets unlocked =
      step table flag set 1 at (request.Read (record { index = 3; sub = 2 }))
      (answer.Read (record { items = state_octet at ∷ [] })) at count refl refl
      (flag-allows flag to lets unlocked)
      ∙ ap (λ (stage : DownloadStage). job stage at count)
      (goes-on table flag set 1 (omega arith))

  count-all : length all_requests ≡ suc (suc (suc (length set)))
  count-all = ap (λ n. suc (suc n)) (length-append (map object_write set)
      (download_command (Restore flag) 4 ∷ [])
      ∙ grind (arith, length-map set object_write))

  restored : table_fault table.members table.rules ≡ None
      → is_at_rest to.activity ≡ true → to.locks.storage ≡ false → flag_lets flag to ≡ true
      → SetFits table from to (command table to Storage DownloadStart)
      (command table (after_changes table (command table to Storage DownloadStart).1
      (writings set)) Storage DownloadEnd)
      → ((before : ℕ) → before < length all_requests
      → (job (Asking 0) to before).0 ≡ Asking before)
      × IsInForce table from (job (Asking 0) to (length all_requests))
  restored sound resting unlocked lets fits =
      let good : SetFits table from to (None, at)
      (command table (after_changes table at (writings set)) Storage DownloadEnd) =
      subst (λ (e : Option ErrorType × ParamState). SetFits table from to e
      (command table (after_changes table e.1 (writings set)) Storage DownloadEnd))
      (begins table to resting) fits in
      let free = set-free table.members [] 0 from.values table.members
      (table-parts table.members table.rules sound).0 in
      let r = rest table flag set set 2 at refl (omega arith) (omega arith) free good.written
      unlocked good.ends in
      let there : (count : ℕ) → job (Asking 0) to (suc (suc count)) ≡ job (Asking 2) at count =
      λ count. started (suc count) resting unlocked ∙ looked count lets unlocked in
      let clear = end-clear table (after_changes table at (writings set)) good.ends in
      let over = ap (job (Asking 0) to) count-all ∙ (there (suc (length set)) ∙ r.over) in (
        before there (λ count low. r.before count low),
        record {
          applied = ap (λ (e : DownloadStage × ParamState). e.0) over;
          same = ap (λ (e : DownloadStage × ParamState). set_of table e.1) over ∙ good.same;
          checksum = ap (λ (e : DownloadStage × ParamState). checksum_over table e.1) over
              ∙ good.checksum;
          rests = ap (λ (e : DownloadStage × ParamState). is_at_rest e.1.activity) over ∙ clear.0;
          clear = ap (λ (e : DownloadStage × ParamState). e.1.flag) over ∙ clear.1;
        },
      )
    where
      before : ((count : ℕ) → job (Asking 0) to (suc (suc count)) ≡ job (Asking 2) at count)
          → ((count : ℕ) → count ≤ length set → (job (Asking 2) at count).0 ≡ Asking (2 + count))
          → (count : ℕ) → count < length all_requests
          → (job (Asking 0) to count).0 ≡ Asking count
      before there more zero low = refl
      before there more (suc zero) low =
          ap (λ (e : DownloadStage × ParamState). e.0) (started 0 resting unlocked)
      before there more (suc (suc count)) low =
          ap (λ (e : DownloadStage × ParamState). e.0) (there count)
          ∙ (more count (omega (arith, count-all, low)) ∙ ap Asking (omega arith))

pub sets-in-force : SetsFit → RestoredSetsAreInForce
sets-in-force fits table from to flag sound a can =
    restored table from to flag sound can.rests can.storage_open can.allowed
    (fits table from to sound a can.consistent can.rests can.parameters_open)
