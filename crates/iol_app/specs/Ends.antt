-- How parts of a session stand to the device, and to what nothing stores of them.
use Rattle.std.specs.Prelude.{◌≡◌, ◌⊎◌, ◌&&◌, ℕ, min, Bool, true, false, List, Option, Some, None, IfSome, IsSome, ⊤, IsTrue}
use Rattle.std.specs.Option.{option_map}
use Rattle.iol_mseq.specs.Shape.{Shape}
use Rattle.iol_isdu.specs.declared.values.Cause.{Cause}
use Rattle.iol_page.specs.declared.page.Layouts.{Layouts}
use Rattle.iol_far.specs.declared.mode.DeviceMode.TheVariants.{Operate as FarOperate}
use Rattle.iol_far.specs.Far.{Far}
use Rattle.iol_far.specs.Level.{Progress, Quiet, FarLink}
use Rattle.iol_mode.specs.Stands.{entering_link, operate_link}
use Rattle.iol_app.specs.Abstract.Steps.{ImageOctets}
use Rattle.iol_app.specs.Abstract.Shown.{ShownProcessData}
use Rattle.iol_app.specs.BothEnds.{ReadingState, EventsFit, WaitsElsewhere, wants_confirm}
use Rattle.iol_app.specs.Exchange.{MayAbort}
use Rattle.iol_app.specs.declared.request.Current.{Current}
use Rattle.iol_app.specs.declared.request.RequestProgress.{RequestProgress}
use Rattle.iol_app.specs.declared.request.RequestProgress.TheVariants.{Sending, Doubting, Asking, Receiving, Refused as NoText}
use Rattle.iol_app.specs.declared.session.Purpose.{Purpose}
use Rattle.iol_app.specs.declared.session.Purpose.TheVariants.{EnableOutput, DropOutput}
use Rattle.iol_app.specs.State.{SessionState}

-- so many busy replies: they are counted while the answer is asked for. No text of an answer was
-- refused, unless it may be in doubt what the device made of a request
abbrev pub BusyAt : Bool → RequestProgress → ℕ → Type 0
BusyAt doubts (Sending flow segment) busy = busy ≡ 0
BusyAt doubts Doubting busy = busy ≡ 0
BusyAt doubts (Asking counted) busy = counted ≡ min busy 65535
BusyAt doubts (Receiving joining last) busy = ⊤
BusyAt doubts NoText busy = IsTrue doubts

-- an abort waits for what it may
abbrev pub AbortAt : Bool → ℕ → Option Cause → ℕ → Bool → Type 0
AbortAt doubts limit abort busy asked = IfSome abort (MayAbort doubts limit busy asked)

abbrev pub BusyFits : Bool → ℕ → Option Current → ℕ → Bool → Type 0
BusyFits doubts limit None busy asked = ⊤
BusyFits doubts limit (Some current) busy asked = BusyAt doubts current.progress busy
    × AbortAt doubts limit current.abort busy asked

-- DeviceOperate waits at the device, and no segment of a request had a good reply;
-- or no command waits
abbrev pub OperateLink : Layouts → Progress → FarLink → Type 0
OperateLink layouts progress link = ((link ≡ entering_link layouts) × (progress ≡ Quiet))
    ⊎ (link ≡ operate_link)

-- The process data

-- the last output that was wanted and that a message carried; before lengths were told none was
abbrev pub SentFits : Option Shape → List ℕ → Option ImageOctets → Type 0
SentFits None carried sent = sent ≡ None
SentFits (Some layout) carried sent = IfSome sent (λ image. image ≡ carried)

pub record ShownFits (s : SessionState) (shown : ShownProcessData) : Type 0 where
  pub image : shown.image ≡ s.image
  pub wanted : shown.wanted ≡ s.output.wanted
  pub sent : SentFits s.layout s.output.carried.items shown.sent
  -- the output length
  pub known_length : shown.known_length ≡ option_map (λ layout. layout.pd_out) s.layout
  pub isdu : shown.isdu ≡ s.isdu
  pub page : shown.page ≡ option_map (λ t. t.page) s.present

-- the output command that a message for this is
abbrev pub output_for : Purpose → Option Bool
output_for EnableOutput = Some true
output_for DropOutput = Some false
output_for any = None

-- The device's output: an image that is valid was sent, in OPERATE; it is as told, where that is
-- known; and a command that waits is for another mode

abbrev pub IsValid : Option ImageOctets → Far → Type 0
IsValid sent far = far.awake ≡ true → far.valid ≡ true → (far.mode ≡ FarOperate) × IsSome sent

abbrev pub IsAcknowledged : Type 0 → Bool → Far → Type 0
IsAcknowledged known acknowledged far = far.awake ≡ true → known → far.valid ≡ acknowledged

abbrev pub OutputFits : Option ImageOctets → Type 0 → Bool → Far → Type 0
OutputFits sent known acknowledged far = IsValid sent far
    × IsAcknowledged known acknowledged far × WaitsElsewhere far

-- The device's events: they fit the reading while it is awake, and are reported, outside down,
-- exactly while it is awake and their confirm is due
abbrev pub EventsReported : ReadingState → Bool → Far → Bool → Type 0
EventsReported reading confirming far reported =
    (far.awake ≡ true → EventsFit reading confirming far.events)
    × (reported ≡ (far.awake && wants_confirm reading))
