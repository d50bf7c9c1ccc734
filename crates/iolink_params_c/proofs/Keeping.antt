-- What a request leaves as it was saved.
-- For the clauses of `ParamSensor::work`.
use Rattle.std.proofs.Common.{◌≡◌, ◌∙◌, ◌==◌, ◌&&◌, ◌||◌, ℕ, List, [], ◌∷◌, Bool, true, false, Option, Some, None, refl, sym, ap}
use Rattle.std.specs.Prelude.{not, nat_le, nat_lt, if◌then◌else◌}
use Rattle.iol_isdu.specs.declared.values.Place.{Place}
use Rattle.iol_isdu.specs.declared.values.Answer.{Answer}
use Rattle.iol_isdu.specs.declared.values.Request.{Request}
use Rattle.iol_isdu.specs.declared.values.Request.TheVariants as request
use Rattle.iol_event.specs.Memory.{is_full}
use Rattle.iol_far.specs.Isdu.{handed_request}
use Rattle.iol_params.specs.declared.error_type.ErrorType.{ErrorType}
use Rattle.iol_params.specs.declared.state.Scope.{Scope}
use Rattle.iol_params.specs.declared.state.Scope.TheVariants.{Block, Storage}
use Rattle.iol_params.specs.declared.error_type.ErrorType.TheVariants.{SubindexNotAvailable, AccessDenied, ValueOutOfRange, FunctionNotAvailable, FunctionUnavailable}
use Rattle.iol_params.specs.declared.state.WritesSoFar.TheVariants.{AllTaken, OneRefused}
use Rattle.iol_params.specs.declared.state.Activity.{Activity}
use Rattle.iol_params.specs.declared.state.Activity.TheVariants.{Idle, Upload, Download, CutOff}
use Rattle.iol_params.specs.declared.state.Command.{Command}
use Rattle.iol_params.specs.declared.state.Command.TheVariants.{UploadStart, UploadEnd, DownloadStart, DownloadEnd, DownloadStore, Break, ApplicationReset, FactoryReset, DeviceReset, BackToBox}
use Rattle.iol_params.specs.Commands.{param_command}
use Rattle.iol_params.specs.Table.{ParamTable}
use Rattle.iol_params.specs.State.{ParamState, after_end, is_at_rest, takes_writes, is_foreign, is_uploading, with_flag_cleared, with_flag_set, locks_in}
use Rattle.iol_params.specs.Carry.{write, write_settled, write_refusal, with_write, download_settled, upload_settled, own_command, unless_foreign, is_consistent}
use Rattle.iol_params.specs.Requests.{request_result, written_answer, write_request, storage_write, command_write, asked_command, locks_set, locks_write}
use Rattle.iol_params.specs.Image.{lasting_of}
use Rattle.iol_params.proofs.Sets.{and-parts}
use Rattle.iol_param_device.specs.Device.{Both, both, event_reported}
use Rattle.iolink_params_c.specs.declared.sensor.ParamSensor.{ParamSensor}
use Rattle.iolink_params_c.specs.Line.{with_state}
use Rattle.iolink_params_c.specs.Work.{is_nothing, is_saved_first, sensor_after_answer, after_handed, after_report, if_nothing, sensor_after_work}

-- what need not be saved first changes nothing that outlives the power
abbrev Keeps : ParamState → Option ErrorType × ParamState → Type 0
Keeps s w = is_saved_first (written_answer w.0) w.1.activity ≡ false → lasting_of w.1 ≡ lasting_of s

clash : {A : Type 0} → false ≡ true → A
clash e = absurd (cc)

either : (b : Bool) (s : ParamState) (w v : Option ErrorType × ParamState)
    → (b ≡ true → Keeps s w) → (b ≡ false → Keeps s v) → Keeps s (if b then w else v)
either true s w v h k = h refl
either false s w v h k = k refl

with_write-keeps : (a : Activity) (table : ParamTable) (s : ParamState) (place : Place)
    (octets : List ℕ) → s.activity ≡ a → Keeps s (None, with_write a table s place octets)
with_write-keeps Idle table s place octets e h = absurd (cc)
with_write-keeps (Upload scope) table s place octets e h = refl
with_write-keeps (Download scope writes) table s place octets e h = refl
with_write-keeps CutOff table s place octets e h = refl

write-keeps : (r : Option ErrorType) (table : ParamTable) (s : ParamState) (place : Place)
    (octets : List ℕ) → Keeps s (write_settled r table s place octets)
write-keeps None table s place octets = with_write-keeps s.activity table s place octets refl
write-keeps (Some why) table s place octets = λ h. refl

module _ (s : ParamState) where
  locks-keeps : (octets : List ℕ) → is_at_rest s.activity ≡ true → Keeps s (locks_set s octets)
  locks-keeps [] e = λ h. refl
  locks-keeps (only ∷ []) e = λ h. refl
  locks-keeps (high ∷ low ∷ []) e = either ((high == 0) && nat_lt low 16) s
      (None, record s { locks = locks_in low }) (Some ValueOutOfRange, s)
      (λ t h. absurd (cc)) (λ t h. refl)
  locks-keeps (first ∷ second ∷ third ∷ more) e = λ h. refl

  upload-keeps : (b : Bool) (scope : Scope) → Keeps s (upload_settled b scope s)
  upload-keeps true Block = λ h. absurd (cc)
  upload-keeps true Storage = λ h. absurd (cc)
  upload-keeps false scope = λ h. refl

  download-keeps : (a : Activity) (c : Bool) (applied : ParamState → ParamState)
      → ((t : ParamState) → (applied t).activity ≡ t.activity)
      → Keeps s (download_settled a c s applied)
  download-keeps Idle c applied same = λ h. refl
  download-keeps (Upload scope) c applied same = λ h. refl
  download-keeps CutOff c applied same = λ h. refl
  download-keeps (Download scope OneRefused) c applied same = λ h. refl
  download-keeps (Download scope AllTaken) false applied same = λ h. refl
  download-keeps (Download scope AllTaken) true applied same = λ h.
      clash (sym h ∙ ap is_at_rest (same (after_end (record s { values = s.copy }))))

cleared-rest : (scope : Scope) (t : ParamState) → (with_flag_cleared scope t).activity ≡ t.activity
cleared-rest Block t = refl
cleared-rest Storage t = refl

module _ (table : ParamTable) (s : ParamState) where
  own-keeps : (scope : Scope) (asked : Command) → Keeps s (own_command table s scope asked)
  own-keeps scope UploadStart = λ h. refl
  own-keeps scope UploadEnd = upload-keeps s (is_uploading s.activity) scope
  own-keeps scope DownloadStart = λ h. refl
  own-keeps scope DownloadEnd = download-keeps s s.activity (is_consistent table s.copy)
      (with_flag_cleared scope) (cleared-rest scope)
  own-keeps scope DownloadStore = download-keeps s s.activity (is_consistent table s.copy)
      with_flag_set (λ t. refl)
  own-keeps scope Break = λ h. refl
  own-keeps scope ApplicationReset = λ h. absurd (cc)
  own-keeps scope FactoryReset = λ h. absurd (cc)
  own-keeps scope DeviceReset = λ h. refl
  own-keeps scope BackToBox = λ h. absurd (cc)

  unless-keeps : (b : Bool) (w : Option ErrorType × ParamState) → Keeps s w
      → Keeps s (unless_foreign b s w)
  unless-keeps true w k = λ h. refl
  unless-keeps false w k = k

  asked-keeps : (unknown : ErrorType) (scope : Scope) (asked : Option Command)
      → Keeps s (asked_command unknown table s scope asked)
  asked-keeps unknown scope None = λ h. refl
  asked-keeps unknown scope (Some asked) = unless-keeps (is_foreign scope s.activity)
      (own_command table s scope asked) (own-keeps scope asked)

  command-keeps : (unknown : ErrorType) (scope : Scope) (octets : List ℕ)
      → Keeps s (command_write unknown table s scope octets)
  command-keeps unknown scope [] = λ h. refl
  command-keeps unknown scope (octet ∷ []) =
      asked-keeps unknown scope (param_command scope octet)
  command-keeps unknown scope (first ∷ second ∷ more) = λ h. refl

  storage-keeps : (sub : ℕ) (octets : List ℕ) → Keeps s (storage_write table s sub octets)
  storage-keeps sub octets = either (sub == 1) s
      (if s.locks.storage then (Some AccessDenied, s)
      else command_write ValueOutOfRange table s Storage octets)
      (if nat_le 2 sub && nat_le sub 5 then (Some AccessDenied, s)
      else (Some SubindexNotAvailable, s))
      (λ e. either s.locks.storage s (Some AccessDenied, s)
      (command_write ValueOutOfRange table s Storage octets) (λ f h. refl)
      (λ f. command-keeps ValueOutOfRange Storage octets))
      (λ e. either (nat_le 2 sub && nat_le sub 5) s (Some AccessDenied, s)
      (Some SubindexNotAvailable, s) (λ f h. refl) (λ f h. refl))

  locks_write-keeps : (octets : List ℕ) → Keeps s (locks_write s octets)
  locks_write-keeps octets = either (is_at_rest s.activity && takes_writes s.activity) s
      (locks_set s octets) (Some FunctionUnavailable, s)
      (λ e. locks-keeps s octets
      (and-parts (is_at_rest s.activity) (takes_writes s.activity) e).0) (λ e h. refl)

  write_request-keeps : (place : Place) (octets : List ℕ)
      → Keeps s (write_request table s place octets)
  write_request-keeps place octets =
      let own = (place.index == 2) || (place.index == 12) in
      let locked = if place.index == 2
      then command_write FunctionNotAvailable table s Block octets else locks_write s octets in
      let managed = if not (place.sub == 0) then (Some SubindexNotAvailable, s) else locked in
      let others = if not own then write table s place octets else managed in
      either (place.index == 3) s (storage_write table s place.sub octets) others
      (λ e. storage-keeps place.sub octets)
      (λ e. either (not own) s (write table s place octets) managed
      (λ f. write-keeps (write_refusal table s place octets) table s place octets)
      (λ f. either (not (place.sub == 0)) s (Some SubindexNotAvailable, s) locked
      (λ g h. refl)
      (λ g. either (place.index == 2) s
      (command_write FunctionNotAvailable table s Block octets) (locks_write s octets)
      (λ i. command-keeps FunctionNotAvailable Block octets)
      (λ i. locks_write-keeps octets))))

  request-keeps : (r : Request) → let done = request_result table s r in
      is_saved_first done.0 done.1.activity ≡ false → lasting_of done.1 ≡ lasting_of s
  request-keeps (request.Read place) h = refl
  request-keeps (request.Write place octets) h = write_request-keeps place octets.items h

-- what is left without something to be saved is kept as it was
settled-keeps : (s : ParamSensor) (b : Bool) (answer : Answer) (state : ParamState)
    → is_nothing (sensor_after_answer b answer (with_state s state)).unsaved ≡ true
    → (b ≡ false → lasting_of state ≡ lasting_of s.manager.state)
    → lasting_of (sensor_after_answer b answer (with_state s state)).manager.state
    ≡ lasting_of s.manager.state
settled-keeps s true answer state e k = absurd (cc)
settled-keeps s false answer state e k = k refl

handed-keeps : (r : Option Request) (s : ParamSensor) → is_nothing (after_handed r s).unsaved ≡ true
    → lasting_of (after_handed r s).manager.state ≡ lasting_of s.manager.state
handed-keeps None s e = refl
handed-keeps (Some request) s e =
    let done = request_result s.manager.table s.manager.state request in
    settled-keeps s (is_saved_first done.0 done.1.activity) done.0 done.1 e
    (request-keeps s.manager.table s.manager.state request)

event-keeps : (reported : Bool) (b : Both)
    → lasting_of (event_reported reported b).state ≡ lasting_of b.state
event-keeps true b = refl
event-keeps false b = refl

reported-keeps : (s : ParamSensor)
    → lasting_of (after_report s).manager.state ≡ lasting_of s.manager.state
reported-keeps s = event-keeps (s.manager.state.event_due && not (is_full s.device.far.events))
    (both s.device.far s.manager.state)

worked-by : (a b : Bool) (s done : ParamSensor) → is_nothing done.unsaved ≡ b
    → (b ≡ true → lasting_of done.manager.state ≡ lasting_of s.manager.state)
    → (a ≡ false → is_nothing s.unsaved ≡ false)
    → is_nothing (if_nothing a s (if_nothing b done (after_report done))).unsaved ≡ true
    → lasting_of (if_nothing a s (if_nothing b done (after_report done))).manager.state
    ≡ lasting_of s.manager.state
worked-by false b s done is k f h = refl
worked-by true true s done is k f h = reported-keeps done ∙ k refl
worked-by true false s done is k f h = absurd (cc)

-- where nothing is to be saved, what outlives the power is as it was
pub worked_keeps : (old new : ParamSensor) → new ≡ sensor_after_work old
    → is_nothing new.unsaved ≡ true
    → lasting_of new.manager.state ≡ lasting_of old.manager.state
worked_keeps old new e h =
    let done = after_handed (handed_request old.device.far.isdu) old in
    ap (λ (s : ParamSensor). lasting_of s.manager.state) e
    ∙ worked-by (is_nothing old.unsaved) (is_nothing done.unsaved) old done refl
    (λ b. handed-keeps (handed_request old.device.far.isdu) old b)
    (λ a. a)
    (ap (λ (s : ParamSensor). is_nothing s.unsaved) (sym e) ∙ h)
