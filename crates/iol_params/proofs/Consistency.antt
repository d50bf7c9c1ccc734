-- Values fit and order rules hold, whatever happens.
-- For the clauses of `Manager::alone_refusal`, `Manager::put`, `Manager::reset` and 16 more.
use Rattle.std.specs.Prelude.{if◌then◌else◌, ◌&&◌, ◌||◌, ◌==◌, not, nat_le, nat_lt, length, count_by, ◌+◌}
use Rattle.std.specs.List.{list_all, list_any}
use Rattle.std.proofs.Common.{◌≡◌, ℕ, ◌≤◌, Bool, true, false, refl, List, [], ◌∷◌, ◌++◌, Option, Some, None, ap, arith, ◌∙◌, drop}
use Rattle.std.proofs.lemmas.Grind.{common_steps}
use Rattle.iol_isdu.specs.declared.values.Place.{Place}
use Rattle.iol_params.specs.declared.error_type.ErrorType.{ErrorType}
use Rattle.iol_params.specs.declared.member.Member.{Member}
use Rattle.iol_params.specs.declared.table.OrderRule.{OrderRule}
use Rattle.iol_params.specs.declared.table.Flaw.{Flaw}
use Rattle.iol_params.specs.declared.table.TableFault.{TableFault}
use Rattle.iol_params.specs.Members.{fits_type, selects}
use Rattle.iol_params.specs.Values.{all_fit, overlay, defaults, reset_values, fits_place, value_at, most_of, most_at, least_at, has_stored_number, is_writable, holds_rule}
use Rattle.iol_params.specs.declared.state.Scope.{Scope}
use Rattle.iol_params.specs.declared.state.Scope.TheVariants.{Block, Storage}
use Rattle.iol_params.specs.declared.state.WritesSoFar.TheVariants.{AllTaken, OneRefused}
use Rattle.iol_params.specs.declared.state.Activity.{Activity}
use Rattle.iol_params.specs.declared.state.Activity.TheVariants.{Idle, Upload, Download, CutOff}
use Rattle.iol_params.specs.declared.state.Command.{Command}
use Rattle.iol_params.specs.declared.state.Restart.{Restart}
use Rattle.iol_params.specs.declared.state.Restart.TheVariants.{Warm, Silent}
use Rattle.iol_params.specs.declared.state.Command.TheVariants.{UploadStart, UploadEnd, DownloadStart, DownloadEnd, DownloadStore, Break, ApplicationReset, FactoryReset, DeviceReset, BackToBox}
use Rattle.iol_params.specs.declared.error_type.ErrorType.TheVariants.{AccessDenied, TooLong, TooShort, ValueOutOfRange, InvalidSet, FunctionUnavailable}
use Rattle.iol_params.specs.declared.table.Flaw.TheVariants.{TooManyMembers, ManagedIndex, SubindexOutOfTurn, MixedAccess, BadLength, BadDefault, NoStoredNumber, BrokenAtFirst}
use Rattle.iol_params.specs.Members.{big_endian}
use Rattle.iol_params.specs.State.{ParamState, is_at_rest, is_uploading, is_downloading, is_foreign, left_in_silence, after_end, after_quiet, with_flag_cleared, with_flag_set}
use Rattle.iol_params.specs.Table.{ParamTable, table_fault, whole, is_managed, sub_in_turn, is_of_index, differs, has_length, fault_or, first_fault, storage_fault, member_flaw, members_fault, rules_fault, rule_flaw, is_stored_number}
use Rattle.iol_params.specs.Carry.{local_access_refusal, local_refusal, local_settled, is_stored_at, with_flag_if, first_refusal, place_refusal, access_refusal, content_refusal, alone_refusal, write_refusal, with_write, write_settled, after_refused_write, download_settled, upload_settled, own_command, unless_foreign, command, with_activity, is_consistent, rules_hold, with_reset}
use Rattle.iol_params.specs.Laws.{IsConsistent, StaysConsistent, Writing, Setting, Commanding, Resetting, Over, Silent}

pub overlay-fits : (ms : List Member) (values : List (List ℕ)) (place : Place) (octets : List ℕ)
    → all_fit ms values ≡ true → fits_place ms place octets ≡ true
    → all_fit ms (overlay ms values place octets) ≡ true
overlay-fits [] [] place octets fit here = refl
overlay-fits [] (v ∷ values) place octets fit here = absurd (cc)
overlay-fits (m ∷ ms) [] place octets fit here = absurd (cc)
overlay-fits (m ∷ ms) (v ∷ values) place octets fit here = grind (
  arith,
  common_steps,
  overlay-fits ms values place octets,
  overlay-fits ms values place (drop (most_of m) octets),
)

pub reset-fits : (ms : List Member) (values : List (List ℕ))
    → all_fit ms (defaults ms) ≡ true → all_fit ms values ≡ true
    → all_fit ms (reset_values ms values) ≡ true
reset-fits [] [] first fit = refl
reset-fits [] (v ∷ values) first fit = absurd (cc)
reset-fits (m ∷ ms) [] first fit = absurd (cc)
reset-fits (m ∷ ms) (v ∷ values) first fit = grind (arith, common_steps, reset-fits ms values)

-- a place of stored numbers alone has its default after a reset
pub reset-value : (ms : List Member) (values : List (List ℕ)) (place : Place)
    → all_fit ms values ≡ true
    → list_all (λ m. not (selects place m) || has_stored_number m) ms ≡ true
    → value_at ms (reset_values ms values) place ≡ value_at ms (defaults ms) place
reset-value [] values place fit stored = refl
reset-value (m ∷ ms) [] place fit stored = absurd (cc)
reset-value (m ∷ ms) (v ∷ values) place fit stored =
    grind (arith, common_steps, reset-value ms values place, stored-writable m)
  where
    stored-writable : (m : Member) → has_stored_number m ≡ true → is_writable m.access ≡ true
    stored-writable m h = grind (arith, common_steps)

pub first_refusal-none : (a b : Option ErrorType) → first_refusal a b ≡ None
    → (a ≡ None) × (b ≡ None)
first_refusal-none None b h = (refl, h)
first_refusal-none (Some why) b h = absurd (cc)

pub and-both : (a b : Bool) → a ≡ true → b ≡ true → (a && b) ≡ true
and-both true true h k = refl
and-both true false h k = absurd (cc)
and-both false b h k = absurd (cc)

-- what a chain of refusals that ends in none says
pub third-none : (a b c : Bool) (x y z : ErrorType)
    → (if a then Some x else if b then Some y else if not c then Some z else None) ≡ None
    → c ≡ true
third-none true b c x y z h = absurd (cc)
third-none false true c x y z h = absurd (cc)
third-none false false true x y z h = refl
third-none false false false x y z h = absurd (cc)

pub second-none : (a b : Bool) (x y : ErrorType)
    → (if a then Some x else if not b then Some y else None) ≡ None → b ≡ true
second-none true b x y h = absurd (cc)
second-none false true x y h = refl
second-none false false x y h = absurd (cc)

pub alone-none : (resting c : Bool) (x : ErrorType)
    → (if resting && not c then Some x else None) ≡ None → resting ≡ true → c ≡ true
alone-none true true x h r = refl
alone-none true false x h r = absurd (cc)
alone-none false c x h r = absurd (cc)

pub fault_or-none : (row : ℕ) (flaw : Option Flaw) (other : Option TableFault)
    → fault_or row flaw other ≡ None → (flaw ≡ None) × (other ≡ None)
fault_or-none row None other h = (refl, h)
fault_or-none row (Some flaw) other h = absurd (cc)

pub first_fault-none : (a b : Option TableFault) → first_fault a b ≡ None → (a ≡ None) × (b ≡ None)
first_fault-none None b h = (refl, h)
first_fault-none (Some fault) b h = absurd (cc)

pub fifth-none : (a b c d e : Bool) (v w x y z : Flaw)
    → (if a then Some v else if b then Some w else if c then Some x else
    if not d then Some y else if not e then Some z else None) ≡ None
    → (d ≡ true) × (e ≡ true)
fifth-none true b c d e v w x y z h = absurd (cc)
fifth-none false true c d e v w x y z h = absurd (cc)
fifth-none false false true d e v w x y z h = absurd (cc)
fifth-none false false false true true v w x y z h = (refl, refl)
fifth-none false false false true false v w x y z h = absurd (cc)
fifth-none false false false false e v w x y z h = absurd (cc)

-- a table without a fault
pub too_many-none : (b : Bool) (fault : TableFault) (other : Option TableFault)
    → (if not b then Some fault else other) ≡ None → other ≡ None
too_many-none true fault other h = h
too_many-none false fault other h = absurd (cc)

pub table-none : (members : List Member) (rules : List OrderRule)
    → table_fault members rules ≡ None
    → (members_fault members [] 0 members ≡ None) × (rules_fault members 0 rules ≡ None)
table-none members rules h =
    let parts = first_fault-none (members_fault members [] 0 members)
    (first_fault (storage_fault members) (rules_fault members 0 rules))
    (too_many-none (nat_le (length members) 1000)
    (record { row = 1000; flaw = TooManyMembers }) _ h) in
    (parts.0, (first_fault-none (storage_fault members) (rules_fault members 0 rules) parts.1).1)

pub storage-none : (members : List Member) (rules : List OrderRule)
    → table_fault members rules ≡ None → storage_fault members ≡ None
storage-none members rules h =
    let parts = first_fault-none (members_fault members [] 0 members)
    (first_fault (storage_fault members) (rules_fault members 0 rules))
    (too_many-none (nat_le (length members) 1000)
    (record { row = 1000; flaw = TooManyMembers }) _ h) in
    (first_fault-none (storage_fault members) (rules_fault members 0 rules) parts.1).0

pub members-fit : (all before : List Member) (row : ℕ) (ms : List Member)
    → members_fault all before row ms ≡ None → all_fit ms (defaults ms) ≡ true
members-fit all before row [] h = refl
members-fit all before row (m ∷ ms) h =
    let parts = fault_or-none row (member_flaw all before m)
    (members_fault all (before ++ m ∷ []) (row + 1) ms) h in
    let here = fifth-none (is_managed m.place.index)
    (not (m.place.sub == sub_in_turn (count_by (is_of_index m.place.index) all)
    (count_by (is_of_index m.place.index) before)))
    (list_any (differs m) all) (has_length all m) (fits_type m.data_type m.default.now)
    ManagedIndex SubindexOutOfTurn MixedAccess BadLength BadDefault parts.0 in
    and-both (fits_type m.data_type m.default.now) (all_fit ms (defaults ms)) here.1
    (members-fit all (before ++ m ∷ []) (row + 1) ms parts.1)

-- a parameter of which a member stands in a table fits into one ISDU
pub members-length : (all before : List Member) (row : ℕ) (ms : List Member) (index : ℕ)
    → members_fault all before row ms ≡ None → list_any (is_of_index index) ms ≡ true
    → most_at all (whole index) ≤ 232
members-length all before row [] index h found = absurd (cc)
members-length all before row (m ∷ ms) index h found =
    let parts = fault_or-none row (member_flaw all before m)
    (members_fault all (before ++ m ∷ []) (row + 1) ms) h in
    let here = fifth-none (is_managed m.place.index)
    (not (m.place.sub == sub_in_turn (count_by (is_of_index m.place.index) all)
    (count_by (is_of_index m.place.index) before)))
    (list_any (differs m) all) (has_length all m) (fits_type m.data_type m.default.now)
    ManagedIndex SubindexOutOfTurn MixedAccess BadLength BadDefault parts.0 in
    grind (
      arith,
      common_steps,
      here.0,
      members-length all (before ++ m ∷ []) (row + 1) ms index parts.1,
    )

-- what a rule without a flaw is
pub rule-none : (a b c : Bool) (x y : Flaw)
    → (if not a || not b then Some x else if not c then Some y else None) ≡ None
    → (a ≡ true) × (b ≡ true) × (c ≡ true)
rule-none true true true x y h = (refl, refl, refl)
rule-none true true false x y h = absurd (cc)
rule-none true false c x y h = absurd (cc)
rule-none false b c x y h = absurd (cc)

pub stored-all : (one all : Bool) → (one && all) ≡ true → all ≡ true
stored-all true true h = refl
stored-all true false h = absurd (cc)
stored-all false all h = absurd (cc)

pub reset-rules : (ms : List Member) (row : ℕ) (rules : List OrderRule) (values : List (List ℕ))
    → rules_fault ms row rules ≡ None → all_fit ms values ≡ true
    → rules_hold ms rules (reset_values ms values) ≡ true
reset-rules ms row [] values none fit = refl
reset-rules ms row (rule ∷ rules) values none fit =
    let parts = fault_or-none row (rule_flaw ms rule) (rules_fault ms (row + 1) rules) none in
    let here = rule-none (is_stored_number ms rule.low) (is_stored_number ms rule.high)
    (holds_rule ms (defaults ms) rule) NoStoredNumber BrokenAtFirst parts.0 in
    let stored = λ (place : Place).
    list_all (λ m. not (selects place m) || has_stored_number m) ms in
    let low = reset-value ms values rule.low fit
    (stored-all (count_by (selects rule.low) ms == 1) (stored rule.low) here.0) in
    let high = reset-value ms values rule.high fit
    (stored-all (count_by (selects rule.high) ms == 1) (stored rule.high) here.1) in
    let same : holds_rule ms (reset_values ms values) rule ≡ holds_rule ms (defaults ms) rule
    = ap (λ (v : List ℕ). nat_le (big_endian v)
    (big_endian (value_at ms (reset_values ms values) rule.high))) low
    ∙ ap (λ (v : List ℕ). nat_le (big_endian (value_at ms (defaults ms) rule.low))
    (big_endian v)) high in
    and-both (holds_rule ms (reset_values ms values) rule)
    (rules_hold ms rules (reset_values ms values)) (same ∙ here.2)
    (reset-rules ms (row + 1) rules values parts.1 fit)

pub refused-downloading : (a : Activity) → is_downloading (after_refused_write a) ≡ true
    → is_downloading a ≡ true
refused-downloading Idle h = h
refused-downloading (Upload scope) h = h
refused-downloading CutOff h = h
refused-downloading (Download scope writes) h = refl

pub rest_downloads_nothing : (a : Activity) → is_at_rest a ≡ true → is_downloading a ≡ false
rest_downloads_nothing Idle h = refl
rest_downloads_nothing CutOff h = refl
rest_downloads_nothing (Upload scope) h = absurd (cc)
rest_downloads_nothing (Download scope writes) h = absurd (cc)

module _ (table : ParamTable) where
  pub end-consistent : (s : ParamState) → IsConsistent table s → IsConsistent table (after_end s)
  end-consistent s h = record { fit = h.fit; copy_fit = λ never. absurd (cc); rules = h.rules }

  pub silence-consistent : (s : ParamState) → IsConsistent table s
      → IsConsistent table (after_quiet s)
  silence-consistent s h = record {
    fit = h.fit;
    copy_fit = λ under. absurd (never s.activity under);
    rules = h.rules;
  }
    where
      never : (a : Activity) → is_downloading (left_in_silence a) ≡ true → ⊥
      never Idle under = cc
      never (Upload scope) under = cc
      never (Download scope writes) under = cc
      never CutOff under = cc

  pub cleared-consistent : (scope : Scope) (s : ParamState) → IsConsistent table s
      → IsConsistent table (with_flag_cleared scope s)
  cleared-consistent Block s h = h
  cleared-consistent Storage s h =
      record { fit = h.fit; copy_fit = h.copy_fit; rules = h.rules }

  pub set-consistent : (s : ParamState) → IsConsistent table s
      → IsConsistent table (with_flag_set s)
  set-consistent s h = record { fit = h.fit; copy_fit = h.copy_fit; rules = h.rules }

  pub restart-consistent : (restart : Restart) (s : ParamState) → IsConsistent table s
      → IsConsistent table (record s { restart = restart })
  restart-consistent restart s h =
      record { fit = h.fit; copy_fit = h.copy_fit; rules = h.rules }

  pub if-consistent : (b : Bool) (s : ParamState) → IsConsistent table s
      → IsConsistent table (with_flag_if b s)
  if-consistent true s h = set-consistent s h
  if-consistent false s h = h

  module _ (s : ParamState) (h : IsConsistent table s) where
    pub taken-consistent : (place : Place) (octets : List ℕ) (a : Activity) → s.activity ≡ a
        → fits_place table.members place octets ≡ true
        → alone_refusal table s place octets ≡ None
        → IsConsistent table (with_write a table s place octets)
    taken-consistent place octets Idle e fits alone = record {
      fit = overlay-fits table.members s.values place octets h.fit fits;
      copy_fit = h.copy_fit;
      rules = alone-none (is_at_rest s.activity)
          (is_consistent table (overlay table.members s.values place octets)) InvalidSet alone
          (ap is_at_rest e);
    }
    taken-consistent place octets (Upload scope) e fits alone = h
    taken-consistent place octets CutOff e fits alone = h
    taken-consistent place octets (Download scope writes) e fits alone = record {
      fit = h.fit;
      copy_fit = λ under. overlay-fits table.members s.copy place octets (h.copy_fit under) fits;
      rules = h.rules;
    }

    pub settled-consistent : (place : Place) (octets : List ℕ) (r : Option ErrorType)
        → write_refusal table s place octets ≡ r
        → IsConsistent table (write_settled r table s place octets).1
    settled-consistent place octets (Some why) e = record {
      fit = h.fit;
      copy_fit = λ under. h.copy_fit (refused-downloading s.activity under);
      rules = h.rules;
    }
    settled-consistent place octets None e =
        let content = content_refusal table.members place octets in
        let alone = alone_refusal table s place octets in
        let first = first_refusal-none (place_refusal table.members place)
        (first_refusal (access_refusal table s place) (first_refusal content alone)) e in
        let second = first_refusal-none (access_refusal table s place)
        (first_refusal content alone) first.1 in
        let third = first_refusal-none content alone second.1 in
        taken-consistent place octets s.activity refl
        (third-none (nat_lt (most_at table.members place) (length octets))
        (nat_lt (length octets) (least_at table.members place))
        (fits_place table.members place octets) TooLong TooShort ValueOutOfRange third.0)
        third.1

    pub local-consistent : (place : Place) (octets : List ℕ) (r : Option ErrorType)
        → local_refusal table s place octets ≡ r
        → IsConsistent table (local_settled r table s place octets).1
    local-consistent place octets (Some why) e = h
    local-consistent place octets None e =
        let content = content_refusal table.members place octets in
        let alone = alone_refusal table s place octets in
        let access = local_access_refusal s in
        let new = record s { values = overlay table.members s.values place octets } in
        let first = first_refusal-none (place_refusal table.members place)
        (first_refusal access (first_refusal content alone)) e in
        let second = first_refusal-none access (first_refusal content alone) first.1 in
        let third = first_refusal-none content alone second.1 in
        if-consistent (list_any (is_stored_at place) table.members) new (record {
          fit = overlay-fits table.members s.values place octets h.fit
              (third-none (nat_lt (most_at table.members place) (length octets))
              (nat_lt (length octets) (least_at table.members place))
              (fits_place table.members place octets) TooLong TooShort ValueOutOfRange third.0);
          copy_fit = h.copy_fit;
          rules = alone-none (is_at_rest s.activity)
              (is_consistent table (overlay table.members s.values place octets)) InvalidSet third.1
              (second-none s.locks.local (is_at_rest s.activity) AccessDenied FunctionUnavailable
              second.0);
        })

    pub download-consistent : (a : Activity) (c : Bool) (applied : ParamState → ParamState)
        → s.activity ≡ a → is_consistent table s.copy ≡ c
        → ((t : ParamState) → IsConsistent table t → IsConsistent table (applied t))
        → IsConsistent table (download_settled a c s applied).1
    download-consistent Idle c applied ea ec keeps = h
    download-consistent (Upload scope) c applied ea ec keeps = h
    download-consistent CutOff c applied ea ec keeps = h
    download-consistent (Download scope OneRefused) c applied ea ec keeps = end-consistent s h
    download-consistent (Download scope AllTaken) false applied ea ec keeps = end-consistent s h
    download-consistent (Download scope AllTaken) true applied ea ec keeps =
        keeps (after_end (record s { values = s.copy })) (record {
          fit = h.copy_fit (ap is_downloading ea);
          copy_fit = λ never. absurd (cc);
          rules = ec;
        })

    pub upload_end-consistent : (b : Bool) (scope : Scope)
        → IsConsistent table (upload_settled b scope s).1
    upload_end-consistent true scope = cleared-consistent scope (after_end s) (end-consistent s h)
    upload_end-consistent false scope = h

    pub reset-consistent : table_fault table.members table.rules ≡ None
        → IsConsistent table (with_reset table (after_end s))
    reset-consistent sound =
        let parts = table-none table.members table.rules sound in
        record {
          fit = reset-fits table.members s.values
              (members-fit table.members [] 0 table.members parts.0) h.fit;
          copy_fit = λ never. absurd (cc);
          rules = reset-rules table.members 0 table.rules s.values parts.1 h.fit;
        }

    pub own-consistent : table_fault table.members table.rules ≡ None → (scope : Scope)
        (asked : Command) → IsConsistent table (own_command table s scope asked).1
    own-consistent sound scope UploadStart =
        record { fit = h.fit; copy_fit = λ never. absurd (cc); rules = h.rules }
    own-consistent sound scope UploadEnd =
        upload_end-consistent (is_uploading s.activity) scope
    own-consistent sound scope DownloadStart =
        record { fit = h.fit; copy_fit = λ under. h.fit; rules = h.rules }
    own-consistent sound scope DownloadEnd = download-consistent s.activity
        (is_consistent table s.copy) (with_flag_cleared scope) refl refl (cleared-consistent scope)
    own-consistent sound scope DownloadStore = download-consistent s.activity
        (is_consistent table s.copy) with_flag_set refl refl set-consistent
    own-consistent sound scope Break = end-consistent s h
    own-consistent sound scope ApplicationReset =
        set-consistent (with_reset table (after_end s)) (reset-consistent sound)
    own-consistent sound scope FactoryReset = cleared-consistent Storage
        (with_reset table (after_end s)) (reset-consistent sound)
    own-consistent sound scope DeviceReset = restart-consistent Warm (after_end s)
        (end-consistent s h)
    own-consistent sound scope BackToBox =
        let reset = with_reset table (after_end s) in
        restart-consistent Silent (with_flag_cleared Storage reset)
        (cleared-consistent Storage reset (reset-consistent sound))

    pub command-consistent : table_fault table.members table.rules ≡ None → (scope : Scope)
        (asked : Command) (foreign : Bool)
        → IsConsistent table (unless_foreign foreign s (own_command table s scope asked)).1
    command-consistent sound scope asked true = h
    command-consistent sound scope asked false = own-consistent sound scope asked

    pub reset_here-consistent : table_fault table.members table.rules ≡ None → (rest : Bool)
        → is_at_rest s.activity ≡ rest
        → IsConsistent table (if rest
        then with_activity s.activity (command table s Block FactoryReset)
        else (Some FunctionUnavailable, s)).1
    reset_here-consistent sound true e =
        let reset = command-consistent sound Block FactoryReset (is_foreign Block s.activity) in
        let never = rest_downloads_nothing s.activity e in
        record {
          fit = reset.fit;
          copy_fit = λ under. absurd (cc);
          rules = reset.rules;
        }
    reset_here-consistent sound false e = h

pub stays-consistent : StaysConsistent
stays-consistent table s (Writing place octets) sound h =
    settled-consistent table s h place octets (write_refusal table s place octets) refl
stays-consistent table s (Setting place octets) sound h =
    local-consistent table s h place octets (local_refusal table s place octets) refl
stays-consistent table s (Commanding scope asked) sound h =
    command-consistent table s h sound scope asked (is_foreign scope s.activity)
stays-consistent table s Resetting sound h =
    reset_here-consistent table s h sound (is_at_rest s.activity) refl
stays-consistent table s Over sound h = end-consistent table s h
stays-consistent table s Silent sound h = silence-consistent table s h
