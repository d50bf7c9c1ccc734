-- What clears the flag.
-- For the clauses of `laws::flag_stays`.
use Rattle.std.proofs.Common.{◌≡◌, ℕ, Bool, true, false, refl, List, Option, Some, None, ◌∙◌}
use Rattle.std.specs.Prelude.{if◌then◌else◌}
use Rattle.iol_isdu.specs.declared.values.Place.{Place}
use Rattle.iol_params.specs.declared.error_type.ErrorType.{ErrorType}
use Rattle.iol_params.specs.declared.error_type.ErrorType.TheVariants.{FunctionUnavailable}
use Rattle.iol_params.specs.declared.state.Scope.{Scope}
use Rattle.iol_params.specs.declared.state.Scope.TheVariants.{Block, Storage}
use Rattle.iol_params.specs.declared.state.WritesSoFar.TheVariants.{AllTaken, OneRefused}
use Rattle.iol_params.specs.declared.state.Activity.{Activity}
use Rattle.iol_params.specs.declared.state.Activity.TheVariants.{Idle, Upload, Download, CutOff}
use Rattle.iol_params.specs.declared.state.Command.{Command}
use Rattle.iol_params.specs.declared.state.Command.TheVariants.{UploadStart, UploadEnd, DownloadStart, DownloadEnd, DownloadStore, Break, ApplicationReset, FactoryReset, DeviceReset, BackToBox}
use Rattle.std.specs.List.{list_any}
use Rattle.iol_params.specs.Values.{overlay}
use Rattle.iol_params.specs.Table.{ParamTable}
use Rattle.iol_params.specs.State.{ParamState, is_at_rest, is_foreign, is_uploading, after_end, with_flag_cleared, with_flag_set}
use Rattle.iol_params.specs.Carry.{local_settled, local_refusal, is_stored_at, with_flag_if, write_settled, write_refusal, with_write, download_settled, upload_settled, own_command, unless_foreign, command, with_activity, is_consistent}
use Rattle.iol_params.specs.Laws.{Writing, Setting, Commanding, Resetting, Over, Silent, FlagStays, may_clear}

pub with_write-flag : (a : Activity) (table : ParamTable) (s : ParamState) (place : Place)
    (octets : List ℕ) → (with_write a table s place octets).flag ≡ s.flag
with_write-flag Idle table s place octets = refl
with_write-flag (Upload scope) table s place octets = refl
with_write-flag (Download scope writes) table s place octets = refl
with_write-flag CutOff table s place octets = refl

pub write-flag : (r : Option ErrorType) (table : ParamTable) (s : ParamState) (place : Place)
    (octets : List ℕ) → (write_settled r table s place octets).1.flag ≡ s.flag
write-flag None table s place octets = with_write-flag s.activity table s place octets
write-flag (Some why) table s place octets = refl

pub if-flag : (b : Bool) (s : ParamState) → s.flag ≡ true → (with_flag_if b s).flag ≡ true
if-flag true s h = refl
if-flag false s h = h

pub local-flag : (r : Option ErrorType) (table : ParamTable) (s : ParamState) (place : Place)
    (octets : List ℕ) → s.flag ≡ true → (local_settled r table s place octets).1.flag ≡ true
local-flag None table s place octets h = if-flag (list_any (is_stored_at place) table.members)
    (record s { values = overlay table.members s.values place octets }) h
local-flag (Some why) table s place octets h = h

module _ (s : ParamState) (applied : ParamState → ParamState) where
  pub settled-flag : (a : Activity) (c : Bool) → s.flag ≡ true
      → ((t : ParamState) → t.flag ≡ true → (applied t).flag ≡ true)
      → (download_settled a c s applied).1.flag ≡ true
  settled-flag Idle c h keeps = h
  settled-flag (Upload scope) c h keeps = h
  settled-flag CutOff c h keeps = h
  settled-flag (Download scope OneRefused) c h keeps = h
  settled-flag (Download scope AllTaken) false h keeps = h
  settled-flag (Download scope AllTaken) true h keeps =
      keeps (after_end (record s { values = s.copy })) h

  pub settled-refused : (a : Activity) (c : Bool) (why : ErrorType)
      → (download_settled a c s applied).0 ≡ Some why
      → (download_settled a c s applied).1.flag ≡ s.flag
  settled-refused Idle c why h = refl
  settled-refused (Upload scope) c why h = refl
  settled-refused CutOff c why h = refl
  settled-refused (Download scope OneRefused) c why h = refl
  settled-refused (Download scope AllTaken) false why h = refl
  settled-refused (Download scope AllTaken) true why h = absurd (cc)

pub upload_end-flag : (b : Bool) (s : ParamState) → s.flag ≡ true
    → (upload_settled b Block s).1.flag ≡ true
upload_end-flag true s h = h
upload_end-flag false s h = h

pub upload_end-refused : (b : Bool) (scope : Scope) (s : ParamState) (why : ErrorType)
    → (upload_settled b scope s).0 ≡ Some why → (upload_settled b scope s).1.flag ≡ s.flag
upload_end-refused true scope s why h = absurd (cc)
upload_end-refused false scope s why h = refl

module _ (table : ParamTable) (s : ParamState) where
  pub own-flag : (scope : Scope) (asked : Command) → s.flag ≡ true
      → may_clear (Commanding scope asked) ≡ false
      → (own_command table s scope asked).1.flag ≡ true
  own-flag scope UploadStart h uncleared = h
  own-flag Block UploadEnd h uncleared = upload_end-flag (is_uploading s.activity) s h
  own-flag Storage UploadEnd h uncleared = absurd (cc)
  own-flag scope DownloadStart h uncleared = h
  own-flag Block DownloadEnd h uncleared = settled-flag s (with_flag_cleared Block) s.activity
      (is_consistent table s.copy) h (λ t same. same)
  own-flag Storage DownloadEnd h uncleared = absurd (cc)
  own-flag scope DownloadStore h uncleared = settled-flag s with_flag_set s.activity
      (is_consistent table s.copy) h (λ t same. refl)
  own-flag scope Break h uncleared = h
  own-flag scope ApplicationReset h uncleared = refl
  own-flag Block FactoryReset h uncleared = absurd (cc)
  own-flag Storage FactoryReset h uncleared = absurd (cc)
  own-flag scope DeviceReset h uncleared = h
  own-flag Block BackToBox h uncleared = absurd (cc)
  own-flag Storage BackToBox h uncleared = absurd (cc)

  pub own-refused : (scope : Scope) (asked : Command) (why : ErrorType)
      → (own_command table s scope asked).0 ≡ Some why
      → (own_command table s scope asked).1.flag ≡ s.flag
  own-refused scope UploadStart why h = absurd (cc)
  own-refused scope UploadEnd why h = upload_end-refused (is_uploading s.activity) scope s why h
  own-refused scope DownloadStart why h = absurd (cc)
  own-refused scope DownloadEnd why h = settled-refused s (with_flag_cleared scope) s.activity
      (is_consistent table s.copy) why h
  own-refused scope DownloadStore why h = settled-refused s with_flag_set s.activity
      (is_consistent table s.copy) why h
  own-refused scope Break why h = absurd (cc)
  own-refused scope ApplicationReset why h = absurd (cc)
  own-refused scope FactoryReset why h = absurd (cc)
  own-refused scope DeviceReset why h = absurd (cc)
  own-refused scope BackToBox why h = absurd (cc)

  pub command-flag : (scope : Scope) (asked : Command) (foreign : Bool) → s.flag ≡ true
      → may_clear (Commanding scope asked) ≡ false
      → (unless_foreign foreign s (own_command table s scope asked)).1.flag ≡ true
  command-flag scope asked true h uncleared = h
  command-flag scope asked false h uncleared = own-flag scope asked h uncleared

  pub command-refused : (scope : Scope) (asked : Command) (foreign : Bool) (why : ErrorType)
      → (unless_foreign foreign s (own_command table s scope asked)).0 ≡ Some why
      → (unless_foreign foreign s (own_command table s scope asked)).1.flag ≡ s.flag
  command-refused scope asked true why h = refl
  command-refused scope asked false why h = own-refused scope asked why h

  pub reset-refused : (rest : Bool) (why : ErrorType)
      → (if rest then with_activity s.activity (command table s Block FactoryReset)
      else (Some FunctionUnavailable, s)).0 ≡ Some why
      → (if rest then with_activity s.activity (command table s Block FactoryReset)
      else (Some FunctionUnavailable, s)).1.flag ≡ s.flag
  reset-refused true why h = command-refused Block FactoryReset (is_foreign Block s.activity) why h
  reset-refused false why h = refl

pub flag-stays : FlagStays
flag-stays table s (Writing place octets) h =
    let same = write-flag (write_refusal table s place octets) table s place octets ∙ h in
    (λ uncleared. same, λ why refusal. same)
flag-stays table s (Setting place octets) h =
    let stays = local-flag (local_refusal table s place octets) table s place octets h in
    (λ uncleared. stays, λ why refusal. stays)
flag-stays table s (Commanding scope asked) h = (
  λ uncleared. command-flag table s scope asked (is_foreign scope s.activity) h uncleared,
  λ why refusal. command-refused table s scope asked (is_foreign scope s.activity) why refusal ∙ h,
)
flag-stays table s Resetting h = (
  λ uncleared. absurd (cc),
  λ why refusal. reset-refused table s (is_at_rest s.activity) why refusal ∙ h,
)
flag-stays table s Over h = (λ uncleared. h, λ why refusal. h)
flag-stays table s Silent h = (λ uncleared. h, λ why refusal. h)
