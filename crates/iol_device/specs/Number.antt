-- The numbers of the requests that are handed over, and the answers brought for them.
use Rattle.std.specs.Prelude.{ℕ, ◌+◌, ◌%◌, ◌^◌, Bool, true, false, not, ◌&&◌, ◌==◌, if◌then◌else◌, List, Option, Some, None, option_map, is_some}
use Rattle.iol_octets.specs.declared.control.Channel.{Channel}
use Rattle.iol_octets.specs.declared.control.Channel.TheVariants.{Isdu}
use Rattle.iol_octets.specs.declared.flow_control.Flow.{Flow}
use Rattle.iol_octets.specs.declared.flow_control.Flow.TheVariants.{Start}
use Rattle.iol_mseq.specs.declared.master.MasterMsg.{MasterMsg}
use Rattle.iol_isdu.specs.declared.values.Request.{Request}
use Rattle.iol_isdu.specs.declared.values.Answer.{Answer}
use Rattle.iol_far.specs.Codec.{flow_of}
use Rattle.iol_far.specs.Far.{Far, accepted_message, hear}
use Rattle.iol_far.specs.Isdu.{handed_request, fits}
use Rattle.iol_far.specs.Local.{has_room}
use Rattle.iol_device.specs.Device.{Running}
use Rattle.iol_device.specs.declared.fault.DeviceFault.{DeviceFault}
use Rattle.iol_device.specs.declared.fault.DeviceFault.TheVariants.{OtherRequest, WrongAnswerKind, OutOfMemory}

-- the number behind this one; behind 2^64 - 1 stands 0
abbrev pub next_number : ℕ → ℕ
next_number number = (number + 1) % 2 ^ 64

-- a START write on the ISDU channel, which begins another text
abbrev pub is_start_write : Channel → Bool → Flow → Bool
is_start_write Isdu false Start = true
is_start_write channel read flow = false

-- whether a request that is handed over may stay so as a message comes, by the far end that accepts
-- it: a START write drops that request, even where it brings the same one anew
abbrev pub keeps_handed : Far → MasterMsg → Bool
keeps_handed there message = is_some (handed_request there.isdu)
    && not (is_start_write message.mc.channel message.mc.read (flow_of message.mc.address))

-- whether a message hands a request over, by the far end then: it has one that it didn't keep
abbrev pub is_hand_over : Option (Far × MasterMsg) → Far → Bool
is_hand_over None new = false
is_hand_over (Some (there, message)) new =
    is_some (handed_request new.isdu) && not (keeps_handed there message)

-- the number once these octets came: each hand-over takes the next
-- DEV-18
abbrev pub number_after : ℕ → Far → List ℕ → ℕ
number_after number far octets =
    if is_hand_over (accepted_message far octets) (hear far octets).far then next_number number
    else number

-- the number of the request that is handed over
abbrev pub handed_number : {P : Type 0} → Running P → Option ℕ
handed_number device = option_map (λ request. device.number) (handed_request device.far.isdu)

-- what an answer to the request that is handed over is refused with
abbrev pub misfit : Option Request → Bool → Answer → Option DeviceFault
misfit None room answer = Some OtherRequest
misfit (Some request) room answer =
    if not (fits request answer) then Some WrongAnswerKind else
    if room then None else Some OutOfMemory

-- what an answer that is brought for a number is refused with, none where it is taken
-- DEV-18
abbrev pub answer_refusal : {P : Type 0} → Running P → ℕ → Answer → Option DeviceFault
answer_refusal device number answer =
    if device.number == number then misfit (handed_request device.far.isdu)
    (has_room device.far) answer
    else Some OtherRequest
