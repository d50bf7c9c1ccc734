-- Laws of the numbers: what is past stays past, and a number has one request.
use Rattle.std.specs.Prelude.{◌≡◌, ◌≢◌, ℕ, ◌+◌, ◌^◌, ◌<◌, ◌≤◌, List, [], ◌∷◌, length, Bool, true, false, ◌||◌, Some}
use Rattle.iol_octets.specs.declared.control.Channel.{Channel}
use Rattle.iol_octets.specs.declared.control.Channel.TheVariants.{Isdu}
use Rattle.iol_octets.specs.declared.flow_control.Flow.{Flow}
use Rattle.iol_octets.specs.declared.flow_control.Flow.TheVariants.{Start, Count}
use Rattle.iol_isdu.specs.declared.values.Request.{Request}
use Rattle.iol_isdu.specs.declared.values.Answer.{Answer}
use Rattle.iol_mseq.specs.declared.master.MasterMsg.{MasterMsg}
use Rattle.iol_far.specs.Codec.{flow_of}
use Rattle.iol_far.specs.declared.kind.HandsOver.{HandsOver}
use Rattle.iol_far.specs.declared.kind.HandsOver.TheVariants.{FirstRead, LastSegment}
use Rattle.iol_far.specs.Far.{Far, accepted_message, hear}
use Rattle.iol_far.specs.Isdu.{handed_request}
use Rattle.iol_far.specs.Laws.{is_start_read}
use Rattle.iol_far.specs.Local.{LocalStep, local, far_after_wake}
use Rattle.iol_device.specs.Device.{Running}
use Rattle.iol_device.specs.Number.{is_start_write, is_hand_over, handed_number, answer_refusal}
use Rattle.iol_device.specs.Hearing.{device_after_hearing}
use Rattle.iol_device.specs.declared.fault.DeviceFault.TheVariants.{OtherRequest}

-- what a call does at a device; an answer that is taken is a step, one that is refused does nothing
pub data DeviceDeed : Type 0 where
  Hears : List ℕ → DeviceDeed
  Wakes : DeviceDeed
  Silences : DeviceDeed
  Steps : LocalStep → DeviceDeed

abbrev pub after_deed : {P : Type 0} → Running P → DeviceDeed → Running P
after_deed device (Hears octets) = device_after_hearing device octets
after_deed device Wakes = record device { far = far_after_wake device.far }
after_deed device Silences = record device { silent = true }
after_deed device (Steps step) = record device { far = local device.far step }

abbrev pub after_deeds : {P : Type 0} → Running P → List DeviceDeed → Running P
after_deeds device [] = device
after_deeds device (deed ∷ deeds) = after_deeds (after_deed device deed) deeds

-- fewer deeds than numbers are left
abbrev pub HasNumbersFor : {P : Type 0} → Running P → List DeviceDeed → Type 0
HasNumbersFor device deeds = device.number + length deeds < 2 ^ 64

-- a request had this number, and none that is handed over has it
abbrev pub IsPast : {P : Type 0} → Running P → ℕ → Type 0
IsPast device number = (number ≤ device.number) × (handed_number device ≢ Some number)

-- a write that brings a segment of a text
abbrev pub is_segment_write : Channel → Bool → Flow → Bool
is_segment_write Isdu false Start = true
is_segment_write Isdu false (Count count) = true
is_segment_write channel read flow = false

-- the messages that may hand a request over: START reads, and segments where the last one does
abbrev pub may_hand_over : HandsOver → Channel → Bool → Flow → Bool
may_hand_over FirstRead channel read flow = is_start_read channel read flow
may_hand_over LastSegment channel read flow =
    is_start_read channel read flow || is_segment_write channel read flow

pub record NumbersAreOwn {P : Type 0} (device : Running P) : Type 0 where
  -- an answer for a number that is past is refused, whatever happens then
  pub past : (number : ℕ) → IsPast device number
      → (deeds : List DeviceDeed) → HasNumbersFor device deeds → (answer : Answer)
      → answer_refusal (after_deeds device deeds) number answer ≡ Some OtherRequest
  -- whatever happens, the number of a request is that of no other
  pub one : (request other : Request) → handed_request device.far.isdu ≡ Some request
      → (deeds : List DeviceDeed) → HasNumbersFor device deeds
      → handed_request (after_deeds device deeds).far.isdu ≡ Some other
      → (after_deeds device deeds).number ≡ device.number → other ≡ request
  -- a START write leaves the number till then past, even where it brings the same request
  pub anew : (octets : List ℕ) (there : Far) (message : MasterMsg)
      → accepted_message device.far octets ≡ Some (there, message)
      → is_start_write message.mc.channel message.mc.read (flow_of message.mc.address) ≡ true
      → HasNumbersFor device (Hears octets ∷ [])
      → IsPast (device_after_hearing device octets) device.number
  -- of all messages these alone hand a request over
  pub by_message : (octets : List ℕ) (there : Far) (message : MasterMsg)
      → accepted_message device.far octets ≡ Some (there, message)
      → is_hand_over (Some (there, message)) (hear device.far octets).far ≡ true
      → may_hand_over device.far.kind.hands_over message.mc.channel message.mc.read
      (flow_of message.mc.address) ≡ true
