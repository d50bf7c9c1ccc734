-- The fetch of a set, carried out by a device.
-- For the clauses of `laws::fetched_sets_are_the_devices` and `laws::sets_move`.
use Rattle.std.proofs.Common.{◌≡◌, ◌≤◌, ◌<◌, ◌+◌, ◌∷◌, ◌++◌, ◌∙◌, [], ℕ, zero, suc, List, Option, Some, None, Bool, true, false, refl, sym, ap, arith, length, drop, subst, length-append, append_assoc}
use Rattle.std.specs.Prelude.{◌*◌, ◌/◌, ◌%◌, ◌-◌, slice_index, nat_lt, nat_le, not, if◌then◌else◌, ◌==◌, ◌&&◌, ◌||◌, bytes_eq, count_by}
use Rattle.std.specs.List.{list_any}
use Rattle.std.proofs.lemmas.List.{append-nil}
use Rattle.std.proofs.lemmas.Slice.Eq.{bytes_eq-Decides}
use Rattle.std.proofs.lemmas.Grind.{common_steps}
use Rattle.iol_isdu.specs.declared.values.Place.{Place}
use Rattle.iol_isdu.specs.declared.values.Request.{Request}
use Rattle.iol_isdu.specs.declared.values.Request.TheVariants as request
use Rattle.iol_isdu.specs.declared.values.Answer.{Answer}
use Rattle.iol_isdu.specs.declared.values.Answer.TheVariants as answer
use Rattle.iol_book.specs.declared.entries.Outcome.TheVariants.{Done}
use Rattle.iol_params.specs.declared.error_type.ErrorType.{ErrorType}
use Rattle.iol_params.specs.declared.error_type.ErrorType.TheVariants.{IndexNotAvailable, SubindexNotAvailable}
use Rattle.iol_params.specs.declared.member.Member.{Member}
use Rattle.iol_params.specs.declared.table.Flaw.{Flaw}
use Rattle.iol_params.specs.declared.table.Flaw.TheVariants.{ManagedIndex, SubindexOutOfTurn, MixedAccess, BadLength, BadDefault, TooMuchStored}
use Rattle.iol_params.specs.declared.table.TableFault.{TableFault}
use Rattle.iol_params.specs.declared.state.Scope.TheVariants.{Storage}
use Rattle.iol_params.specs.declared.state.Activity.TheVariants.{Upload as Uploading}
use Rattle.iol_params.specs.declared.state.Command.TheVariants.{UploadStart}
use Rattle.iol_params.specs.Members.{selects, fits_type}
use Rattle.iol_params.specs.Values.{value_at, all_fit, most_of, most_at}
use Rattle.iol_params.specs.Table.{ParamTable, table_fault, whole, is_managed, is_of_index, begins_stored, has_length, may_stand, differs, sub_in_turn, member_flaw, members_fault, two_octets, index_list, set_size}
use Rattle.iol_params.specs.State.{ParamState, is_at_rest, is_in, is_foreign}
use Rattle.iol_params.specs.Storage.{four_octets, checksum_over}
use Rattle.iol_params.specs.Carry.{command, own_command, unless_foreign}
use Rattle.iol_params.specs.Manager.{read_answer, read_settled}
use Rattle.iol_params.specs.Requests.{request_result, read_request}
use Rattle.iol_params.specs.Laws.{stored_set, set_of}
use Rattle.iol_storage.specs.declared.upload.UploadResult.TheVariants.{Whole}
use Rattle.iol_storage.specs.declared.upload.UploadStage.{UploadStage}
use Rattle.iol_storage.specs.declared.upload.UploadStage.TheVariants.{Starting, Listing, Reading, Over}
use Rattle.iol_storage.specs.declared.upload.Upload.{Upload}
use Rattle.iol_storage.specs.declared.download.DownloadPurpose.TheVariants.{Restore}
use Rattle.iol_storage.specs.declared.download.DownloadStage.{DownloadStage}
use Rattle.iol_storage.specs.declared.download.DownloadStage.TheVariants.{Asking}
use Rattle.iol_storage.specs.Downloads.{download_requests}
use Rattle.iol_storage.specs.Objects.{values_size, fits_behind, is_command_place}
use Rattle.iol_storage.specs.Uploads.{storage_place, storage_command, is_list, names_more, place_named, upload_asks, upload_after}
use Rattle.iol_exchange.specs.Exchange.{upload_exchange, upload_at_device, fetch_of, download_at_device, IsInForce, FetchedSetsAreTheDevices, RestoredSetsAreInForce, SetsMove}
use Rattle.iol_exchange.proofs.Restores.{and-parts, fault-parts, table-parts, first-free, free-parts, command-done, written}

abbrev Values : Type 0
Values = List (Place × List ℕ)

-- Lists

-- what a list of octets begins with behind so many
octet-at : (xs : List ℕ) (i x : ℕ) (rest : List ℕ) → drop i xs ≡ x ∷ rest
    → (slice_index xs i ≡ x) × (drop (suc i) xs ≡ rest)
octet-at [] zero x rest h = absurd (cc)
octet-at [] (suc i) x rest h = absurd (cc)
octet-at (y ∷ xs) zero x rest h = (cc, cc)
octet-at (y ∷ xs) (suc i) x rest h = octet-at xs i x rest h

drop-length : (xs : List ℕ) (i x : ℕ) (rest : List ℕ) → drop i xs ≡ x ∷ rest
    → length xs ≡ i + (1 + length rest)
drop-length [] zero x rest h = absurd (cc)
drop-length [] (suc i) x rest h = absurd (cc)
drop-length (y ∷ xs) zero x rest h = omega (arith, ap length h)
drop-length (y ∷ xs) (suc i) x rest h = omega (arith, drop-length xs i x rest h)

-- an Index_List ends with an Index 0
record IsEnded (list : List ℕ) : Type 0 where
  count : ℕ
  long : length list ≡ 3 * count + 2
  high : slice_index list (3 * count) ≡ 0
  low : slice_index list (3 * count + 1) ≡ 0

one-more : (a b c : ℕ) (list : List ℕ) → IsEnded list → IsEnded (a ∷ (b ∷ (c ∷ list)))
one-more a b c list e =
    let high : 3 * (e.count + 1) ≡ suc (suc (suc (3 * e.count))) = omega arith in
    let low : 3 * (e.count + 1) + 1 ≡ suc (suc (suc (3 * e.count + 1))) = omega arith in
    record {
      count = e.count + 1;
      long = omega (arith, e.long);
      high = ap (slice_index (a ∷ (b ∷ (c ∷ list)))) high ∙ e.high;
      low = ap (slice_index (a ∷ (b ∷ (c ∷ list)))) low ∙ e.low;
    }

ended : (ms : List Member) → IsEnded (index_list ms)
ended [] = record { count = 0; long = refl; high = refl; low = refl }
ended (m ∷ ms) = by (begins_stored m) (ended ms)
  where
    by : (b : Bool) → IsEnded (index_list ms)
        → IsEnded (if b then two_octets m.place.index ++ (0 ∷ index_list ms) else index_list ms)
    by true e = one-more (m.place.index / 256) (m.place.index % 256) 0 (index_list ms) e
    by false e = e

all-three : (a b c : Bool) → a ≡ true → b ≡ true → c ≡ true → (a && (b && c)) ≡ true
all-three a b c p q r = rw (p, q, r) refl

list-is : (list : List ℕ) → IsEnded list → is_list list ≡ true
list-is list e =
    let size : length list % 3 ≡ 2 = omega (arith, e.long) in
    let high : length list - 2 ≡ 3 * e.count = omega (arith, e.long) in
    let low : length list - 1 ≡ 3 * e.count + 1 = omega (arith, e.long) in
    all-three ((length list % 3) == 2) (slice_index list (length list - 2) == 0)
    (slice_index list (length list - 1) == 0)
    (ap (λ n. n == 2) size)
    (ap (λ i. slice_index list i == 0) high ∙ ap (λ n. n == 0) e.high)
    (ap (λ i. slice_index list i == 0) low ∙ ap (λ n. n == 0) e.low)

values-more : (objects : Values) (object : Place × List ℕ)
    → values_size (objects ++ object ∷ []) ≡ values_size objects + length object.1
values-more [] object = omega arith
values-more (first ∷ objects) object = omega (arith, values-more objects object)

-- Members of a table without a fault

value-short : (ms : List Member) (values : List (List ℕ)) (place : Place)
    → all_fit ms values ≡ true → length (value_at ms values place) ≤ most_at ms place
value-short [] values place fit = omega arith
value-short (m ∷ ms) [] place fit = absurd (cc)
value-short (m ∷ ms) (v ∷ values) place fit =
    grind (
      arith,
      common_steps,
      value-short ms values place,
      length-append v
          (value_at ms values place),
    )

length-of : (a b c d e : Bool) (v w x y z : Flaw)
    → (if a then Some v else if not b then Some w else if c then Some x else
    if not d then Some y else if not e then Some z else None) ≡ None
    → d ≡ true
length-of true b c d e v w x y z h = absurd (cc)
length-of false false c d e v w x y z h = absurd (cc)
length-of false true true d e v w x y z h = absurd (cc)
length-of false true false true e v w x y z h = refl
length-of false true false false e v w x y z h = absurd (cc)

le-of : (a b : ℕ) → nat_le a b ≡ true → a ≤ b
le-of a b h = grind (arith, h)

is-le : (a b : ℕ) → a ≤ b → nat_le a b ≡ true
is-le a b h = grind (arith, h)

not-le : (a b : ℕ) → b < a → nat_le a b ≡ false
not-le a b h = grind (arith, h)

is-lt : (a b : ℕ) → a < b → nat_lt a b ≡ true
is-lt a b h = grind (arith, h)

place-is : (i j a b : ℕ) → i ≡ j → a ≡ b
    → ◌≡◌ {A = Place} (record { index = i; sub = a }) (record { index = j; sub = b })
place-is i j a b h k = rw (h, k) refl

short-first : (all before : List Member) (row : ℕ) (m : Member) (ms : List Member)
    → members_fault all before row (m ∷ ms) ≡ None
    → most_at all (whole m.place.index) ≤ 232
short-first all before row m ms h =
    let none = (fault-parts row (member_flaw all before m)
    (members_fault all (before ++ m ∷ []) (row + 1) ms) h).0 in
    let turn = sub_in_turn (count_by (is_of_index m.place.index) all)
    (count_by (is_of_index m.place.index) before) in
    let long = length-of (is_managed m.place.index) (m.place.sub == turn)
    (list_any (differs m) all) (has_length all m) (fits_type m.data_type m.default.now)
    ManagedIndex SubindexOutOfTurn MixedAccess BadLength BadDefault none in
    let most = nat_le (most_at all (whole m.place.index)) 232 in
    let parts = and-parts (nat_le 1 (most_of m) && most)
    (may_stand m.data_type m.place.sub) long in
    le-of (most_at all (whole m.place.index)) 232
    (and-parts (nat_le 1 (most_of m)) most parts.0).1

whole-of : (index : ℕ) (m : Member) → selects (whole index) m ≡ is_of_index index m
whole-of index m = grind (arith, common_steps)

any-of : (ms : List Member) (index : ℕ)
    → list_any (selects (whole index)) ms ≡ list_any (is_of_index index) ms
any-of [] index = refl
any-of (m ∷ ms) index =
    ap (λ (b : Bool). b || list_any (selects (whole index)) ms) (whole-of index m)
    ∙ ap (λ (b : Bool). is_of_index index m || b) (any-of ms index)

-- each Index of these is one of all
abbrev AreAmong : List Member → List Member → Type 0
AreAmong ms all = (index : ℕ) → list_any (is_of_index index) ms ≡ true
    → list_any (is_of_index index) all ≡ true

or-left : (a b : Bool) → a ≡ true → (a || b) ≡ true
or-left a b h = ap (λ (c : Bool). c || b) h

or-right : (a b : Bool) → b ≡ true → (a || b) ≡ true
or-right true b h = refl
or-right false b h = h

none-if : (a b : Bool) (x y : ErrorType) → a ≡ true → b ≡ true
    → (if not a then Some x else if not b then Some y else None) ≡ None
none-if a b x y h k = rw (h, k) refl

-- a read of a parameter
free-read : (table : ParamTable) (s : ParamState) (index : ℕ) → is_managed index ≡ false
    → list_any (is_of_index index) table.members ≡ true
    → read_request table s (whole index)
    ≡ answer.Read (record { items = value_at table.members s.values (whole index) })
free-read table s index free found =
    let parts = free-parts index free in
    let value = value_at table.members s.values (whole index) in
    let read : read_request table s (whole index) ≡ read_answer table s (whole index) =
    rw (parts.0, parts.1, parts.2) refl in
    read ∙ ap (λ (why : Option ErrorType). read_settled why value)
    (none-if (list_any (is_of_index index) table.members)
    (list_any (selects (whole index)) table.members) IndexNotAvailable SubindexNotAvailable
    found (any-of table.members index ∙ found))

-- The jobs

abbrev job_at : List ℕ → List ℕ → UploadStage → Values → Upload × Values
job_at checksum list stage objects = (
  record { checksum = checksum; list = record { items = list }; stage = stage },
  objects,
)

module _ (table : ParamTable) where
  -- a request, carried out
  step : (job : Upload × Values) (s : ParamState) (r : Request) (answer : Answer)
      (next : ParamState) (behind : Upload × Values) (count : ℕ)
      → upload_asks job.0 job.1 ≡ Some r → request_result table s r ≡ (answer, next)
      → upload_after job.0 job.1 (Done answer) ≡ behind
      → upload_at_device table job s (suc count) ≡ upload_at_device table behind next count
  step job s r answer next behind count asks gives becomes =
      let put : (Upload × Values) × ParamState → (Upload × Values) × ParamState =
      λ e. upload_at_device table e.0 e.1 count in
      ap (λ (q : Option Request). put (upload_exchange table job s q)) asks
      ∙ (ap (λ (a : Answer × ParamState). put (upload_after job.0 job.1 (Done a.0), a.1)) gives
      ∙ ap (λ (j : Upload × Values). put (j, next)) becomes)

  module _ (checksum : List ℕ) (s : ParamState)
      (fit : all_fit table.members s.values ≡ true)
      (same : four_octets (checksum_over table s) ≡ checksum) where
    abbrev list : List ℕ
    list = index_list table.members

    abbrev value_of : ℕ → List ℕ
    value_of index = value_at table.members s.values (whole index)

    abbrev reading : Values → Upload × Values
    reading objects = job_at checksum list Reading objects

    -- what is read behind the last value
    read-sum : (objects : Values) → names_more list (length objects) ≡ false
        → upload_at_device table (reading objects) s 1
        ≡ (job_at checksum list (Over Whole) objects, s)
    read-sum objects none =
        let octets = four_octets (checksum_over table s) in
        let equal : bytes_eq octets checksum ≡ true =
        (bytes_eq-Decides octets checksum).1 same in
        step (reading objects) s (request.Read (storage_place 4))
        (answer.Read (record { items = octets })) s (job_at checksum list (Over Whole) objects) 0
        (ap (λ (b : Bool). Some (request.Read (if b then place_named list (length objects)
        else storage_place 4))) none)
        refl (rw (none, equal) refl)

    -- no parameter lies where commands are written
    not-command : (index : ℕ) → is_managed index ≡ false → is_command_place (whole index) ≡ false
    not-command index free = grind (arith, common_steps, free)

    read-one : (objects : Values) (index : ℕ) (count : ℕ)
        → names_more list (length objects) ≡ true
        → place_named list (length objects) ≡ whole index
        → is_managed index ≡ false → list_any (is_of_index index) table.members ≡ true
        → fits_behind objects (value_of index) ≡ true
        → upload_at_device table (reading objects) s (suc count)
        ≡ upload_at_device table (reading (objects ++ (whole index, value_of index) ∷ [])) s count
    read-one objects index count more named free found room =
        let value = value_of index in
        let owned : is_command_place (place_named list (length objects)) ≡ false =
        ap is_command_place named ∙ not-command index free in
        step (reading objects) s (request.Read (whole index))
        (answer.Read (record { items = value })) s
        (reading (objects ++ (whole index, value) ∷ [])) count
        (ap (λ (b : Bool). Some (request.Read (if b then place_named list (length objects)
        else storage_place 4))) more ∙ ap (λ (p : Place). Some (request.Read p)) named)
        (ap (λ (a : Answer). (a, s)) (free-read table s index free found))
        (rw (more, owned, room, named) refl)

    abbrev members : List Member
    members = table.members

    -- there is room for each value
    has-room : (objects : Values) (octets : List ℕ) (most later : ℕ) → length octets ≤ most
        → most ≤ 232 → values_size objects + 4 * length objects + (4 + most + later) ≤ 2048
        → length objects * 3 + 5 ≤ 232 → fits_behind objects octets ≡ true
    has-room objects octets most later short few size listed =
        all-three (nat_lt (length objects) 76) (nat_le (length octets) 232)
        (nat_le (values_size objects + 4 * (length objects + 1) + length octets) 2048)
        (is-lt (length objects) 76 (omega (arith, listed)))
        (is-le (length octets) 232 (omega (arith, short, few)))
        (is-le (values_size objects + 4 * (length objects + 1) + length octets) 2048
        (omega (arith, short, size)))

    -- the place that a list names next
    named-next : (count index : ℕ) (more : List ℕ)
        → drop (count * 3) list ≡ (index / 256) ∷ ((index % 256) ∷ (0 ∷ more))
        → (place_named list count ≡ whole index) × (drop (suc (suc (suc (count * 3)))) list ≡ more)
    named-next count index more is =
        let first = octet-at list (count * 3) (index / 256) ((index % 256) ∷ (0 ∷ more)) is in
        let second = octet-at list (suc (count * 3)) (index % 256) (0 ∷ more) first.1 in
        let third = octet-at list (suc (suc (count * 3))) 0 more second.1 in
        let low : slice_index list (count * 3 + 1) ≡ index % 256 =
        ap (slice_index list) (omega arith) ∙ second.0 in
        let sub : slice_index list (count * 3 + 2) ≡ 0 =
        ap (slice_index list) (omega arith) ∙ third.0 in
        let both : 256 * slice_index list (count * 3) + slice_index list (count * 3 + 1) ≡ index =
        omega (arith, first.0, low) in (
          place-is (256 * slice_index list (count * 3) + slice_index list (count * 3 + 1)) index
              (slice_index list (count * 3 + 2)) 0 both sub,
          third.1,
        )

    abbrev set_behind : List Member → Values
    set_behind rest = stored_set members s.values rest

    abbrev ends : Values → (Upload × Values) × ParamState
    ends objects = (job_at checksum list (Over Whole) objects, s)

    reads : (before : List Member) (row : ℕ) (rest : List Member) (objects : Values)
        → members_fault members before row rest ≡ None → AreAmong rest members
        → length list ≤ 232 → drop (length objects * 3) list ≡ index_list rest
        → values_size objects + 4 * length objects + set_size members rest ≤ 2048
        → upload_at_device table (reading objects) s (suc (length (set_behind rest)))
        ≡ ends (objects ++ set_behind rest)
    reads before row [] objects sound among short names size =
        let long = drop-length list (length objects * 3) 0 (0 ∷ []) names in
        let none : names_more list (length objects) ≡ false =
        not-le (length objects * 3 + 3) (length list) (omega (arith, long)) in
        read-sum objects none ∙ ap ends (sym (append-nil objects))
    reads before row (m ∷ rest) objects sound among short names size =
        let later : AreAmong rest members = λ index found.
        among index (or-right (is_of_index index m) (list_any (is_of_index index) rest) found) in
        let self : is_of_index m.place.index m ≡ true = grind arith in
        let here = among m.place.index (or-left (is_of_index m.place.index m)
        (list_any (is_of_index m.place.index) rest) self) in
        let first = first-free members before row m rest sound in
        by (begins_stored m) names size first.0 here
        (short-first members before row m rest sound)
        (λ more n z. reads (before ++ m ∷ []) (row + 1) rest more first.1 later short n z)
      where
        index : ℕ
        index = m.place.index

        object : Place × List ℕ
        object = (whole index, value_of index)

        most : ℕ
        most = most_at members (whole index)

        left : ℕ
        left = set_size members rest

        more : Values
        more = set_behind rest

        next : Values
        next = objects ++ object ∷ []

        by : (b : Bool)
            → drop (length objects * 3) list
            ≡ (if b then two_octets index ++ (0 ∷ index_list rest) else index_list rest)
            → values_size objects + 4 * length objects + (if b then 4 + most + left else left)
            ≤ 2048
            → is_managed index ≡ false → list_any (is_of_index index) members ≡ true
            → most ≤ 232
            → ((others : Values) → drop (length others * 3) list ≡ index_list rest
            → values_size others + 4 * length others + left ≤ 2048
            → upload_at_device table (reading others) s (suc (length more)) ≡ ends (others ++ more))
            → upload_at_device table (reading objects) s
            (suc (length (if b then object ∷ more else more)))
            ≡ ends (objects ++ (if b then object ∷ more else more))
        by false names size free found few rest-reads = rest-reads objects names size
        by true names size free found few rest-reads =
            let named = named-next (length objects) index (index_list rest) names in
            let long = drop-length list (length objects * 3) (index / 256)
            ((index % 256) ∷ (0 ∷ index_list rest)) names in
            let end = (ended rest).long in
            let names-it : names_more list (length objects) ≡ true =
            is-le (length objects * 3 + 3) (length list) (omega (arith, long)) in
            let fits = value-short members s.values (whole index) fit in
            let room = has-room objects (value_of index) most left fits few size
            (omega (arith, long, end, short)) in
            let count : length next ≡ length objects + 1 = length-append objects (object ∷ []) in
            let place : length next * 3 ≡ suc (suc (suc (length objects * 3))) =
            omega (arith, count) in
            let sum = values-more objects object in
            read-one objects index (suc (length more)) names-it named.0 free found room
            ∙ (rest-reads next (ap (λ n. drop n list) place ∙ named.1)
            (omega (arith, count, sum, fits, size))
            ∙ ap ends (append_assoc objects (object ∷ []) more))

-- The whole fetch

stored-parts : (a b : Bool) (fault : TableFault)
    → (if a && b then None else Some fault) ≡ None → (a ≡ true) × (b ≡ true)
stored-parts true true fault h = (refl, refl)
stored-parts true false fault h = absurd (cc)
stored-parts false b fault h = absurd (cc)

abbrev begun_at : ParamState → ParamState
begun_at s = record s { activity = Uploading Storage; copy = [] }

begins : (table : ParamTable) (s : ParamState) → is_at_rest s.activity ≡ true
    → command table s Storage UploadStart ≡ (None, begun_at s)
begins table s resting =
    let near : is_foreign Storage s.activity ≡ false =
    ap (λ (b : Bool). not b && not (is_in Storage s.activity)) resting in
    ap (λ (b : Bool). unless_foreign b s (own_command table s Storage UploadStart)) near

module _ (table : ParamTable) (s : ParamState) where
  abbrev sum : List ℕ
  sum = four_octets (checksum_over table s)

  abbrev named : List ℕ
  named = index_list table.members

  started : (count : ℕ) → is_at_rest s.activity ≡ true → s.locks.storage ≡ false
      → upload_at_device table (job_at sum [] Starting []) s (suc count)
      ≡ upload_at_device table (job_at sum [] Listing []) (begun_at s) count
  started count resting unlocked =
      step table (job_at sum [] Starting []) s (storage_command 1) answer.Written (begun_at s)
      (job_at sum [] Listing []) count refl
      (written table s (storage_place 1) (1 ∷ []) (None, begun_at s)
      (command-done table s unlocked 1 ∙ begins table s resting) refl)
      refl

  listed : (count : ℕ) → upload_at_device table (job_at sum [] Listing []) (begun_at s) (suc count)
      ≡ upload_at_device table (job_at sum named Reading []) (begun_at s) count
  listed count =
      let is = list-is named (ended table.members) in
      step table (job_at sum [] Listing []) (begun_at s) (request.Read (storage_place 5))
      (answer.Read (record { items = named })) (begun_at s) (job_at sum named Reading []) count
      refl refl (rw is refl)

  whole-fetch : table_fault table.members table.rules ≡ None
      → all_fit table.members s.values ≡ true
      → is_at_rest s.activity ≡ true → s.locks.storage ≡ false
      → fetch_of table s ≡ (job_at sum named (Over Whole) (set_of table s), begun_at s)
  whole-fetch sound fit resting unlocked =
      let set = set_of table s in
      let parts = table-parts table.members table.rules sound in
      let stored = stored-parts (nat_le (length named) 232)
      (nat_le (set_size table.members table.members) 2048)
      (record { row = length table.members; flaw = TooMuchStored }) parts.1 in
      let size = le-of (set_size table.members table.members) 2048 stored.1 in
      let count : 3 + length set ≡ suc (suc (suc (length set))) = omega arith in
      ap (upload_at_device table (job_at sum [] Starting []) s) count
      ∙ (started (suc (suc (length set))) resting unlocked
      ∙ (listed (suc (length set))
      ∙ reads table sum (begun_at s) fit refl [] 0 table.members [] parts.0
      (λ index found. found) (le-of (length named) 232 stored.0) refl (omega (arith, size))))

pub sets-fetched : FetchedSetsAreTheDevices
sets-fetched table from sound can =
    let over = whole-fetch table from sound can.consistent.fit can.rests can.storage_open in
    record {
      whole = ap (λ (e : (Upload × Values) × ParamState). e.0.0.stage) over;
      set = ap (λ (e : (Upload × Values) × ParamState). e.0.1) over;
      values = ap (λ (e : (Upload × Values) × ParamState). e.1.values) over;
      flag = ap (λ (e : (Upload × Values) × ParamState). e.1.flag) over;
    }

pub sets-moved : FetchedSetsAreTheDevices → RestoredSetsAreInForce → SetsMove
sets-moved fetches restores table from to flag sound fetch restore =
    let read = fetches table from sound fetch in
    let taken = restores table from to flag sound fetch.consistent restore in
    let last : Values → DownloadStage × ParamState = λ set.
    download_at_device table (Restore flag) set (Asking 0) to
    (length (download_requests (Restore flag) set)) in (
      read.whole,
      subst (λ (set : Values). IsInForce table from (last set)) (sym read.set) taken.1,
    )
