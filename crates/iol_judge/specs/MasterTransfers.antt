-- The ISDU transfer of a master: which message is due there, and what its reply tells.
use Rattle.std.specs.Prelude.{ℕ, Bool, true, false, ◌&&◌, ◌==◌, nat_le, if◌then◌else◌, List, ◌++◌, length, drop, slice_index, Option, Some, None, is_some, Result, Ok, Err}
use Rattle.arrayvec.specs.ArrayVec.{ArrayVec}
use Rattle.iol_octets.specs.Zeros.{are_zeros}
use Rattle.iol_octets.specs.declared.flow_control.Flow.{Flow}
use Rattle.iol_octets.specs.declared.flow_control.Flow.TheVariants.{Start, Count, Idle1, Idle2, Abort, Reserved}
use Rattle.iol_isdu.specs.declared.values.Request.{Request}
use Rattle.iol_isdu.specs.Answers.{answer_fault, is_read}
use Rattle.iol_isdu.specs.Parse.{request_of}
use Rattle.iol_segment.specs.Join.{Open, Complete, Wrong, stage, next_count}
use Rattle.iol_judge.specs.declared.blame.Blame.{Blame}
use Rattle.iol_judge.specs.declared.blame.Blame.TheVariants.{NotDue, RequestText, NotInLine}
use Rattle.iol_judge.specs.declared.master_transfer.MasterTransfer.{MasterTransfer}
use Rattle.iol_judge.specs.declared.master_transfer.MasterTransfer.TheVariants.{Quiet, Written, Asked, Doubted, Answered, Repeated, Undecided, Refused}
use Rattle.iol_judge.specs.declared.master_transfer.TheConstants.{LONGEST, NO_SERVICE, BUSY, START_WRITE, START_READ}

-- The request's segments

-- not all octets of a request
abbrev pub request_begun : List ℕ → Option ℕ → Result MasterTransfer Blame
request_begun octets last = if nat_le (length octets) LONGEST
    then Ok (Written (record { items = octets }) last) else Err RequestText

-- a text, and the octets behind it
abbrev pub request_joined : Option Request → List ℕ → Result MasterTransfer Blame
request_joined None rest = Err RequestText
request_joined (Some request) rest =
    if are_zeros rest then Ok (Asked (is_read request)) else Err RequestText

-- of a request these octets were written, the last of them under this COUNT
abbrev pub transfer_in_request : List ℕ → Option ℕ → Result MasterTransfer Blame
transfer_in_request octets last = elim (stage octets) [
  | Open ↦ request_begun octets last
  | Complete text ↦ request_joined (request_of text) (drop (length text) octets)
  | Wrong ↦ Err RequestText
]

abbrev pub start_sent : Bool → MasterTransfer → List ℕ → Result MasterTransfer Blame
start_sent true Quiet octets = transfer_in_request octets None
start_sent true Undecided octets = transfer_in_request octets None
start_sent isdu transfer octets = Err NotDue

abbrev pub count_sent : MasterTransfer → ℕ → List ℕ → Result MasterTransfer Blame
count_sent (Written text last) count octets = if count == next_count last
    then transfer_in_request (text.items ++ octets) (Some count) else Err NotInLine
count_sent (Asked read) count octets = Err RequestText
count_sent transfer count octets = Err NotDue

-- The answer's segments

abbrev pub start_asked : MasterTransfer → Result MasterTransfer Blame
start_asked (Asked read) = Ok (Asked read)
start_asked transfer = Err NotDue

-- the next one is asked for, behind the one of this COUNT
abbrev pub next_asked : Bool → ArrayVec ℕ → Option ℕ → ℕ → Result MasterTransfer Blame
next_asked read text last count =
    if count == next_count last then Ok (Answered read text (Some count)) else Err NotInLine

abbrev pub count_asked : MasterTransfer → ℕ → Result MasterTransfer Blame
count_asked (Answered read text last) count = next_asked read text last count
count_asked (Repeated read text last) count = next_asked read text last count
count_asked transfer count = Err NotDue

-- not all octets of an answer
abbrev pub answer_begun : Bool → List ℕ → Option ℕ → MasterTransfer
answer_begun read octets last = if nat_le (length octets) LONGEST
    then Answered read (record { items = octets }) last else Refused

abbrev pub answer_joined : Bool → List ℕ → MasterTransfer
answer_joined read text = if is_some (answer_fault read text) then Refused else Quiet

-- of an answer these octets came, the last of them under this COUNT
abbrev pub transfer_in_answer : Bool → List ℕ → Option ℕ → MasterTransfer
transfer_in_answer read octets last = elim (stage octets) [
  | Open ↦ answer_begun read octets last
  | Complete text ↦ answer_joined read text
  | Wrong ↦ Refused
]

-- busy, no service, or the answer's first segment
abbrev pub asked_after_reply : Bool → List ℕ → MasterTransfer
asked_after_reply read octets =
    if slice_index octets 0 == BUSY then Asked read else
    if slice_index octets 0 == NO_SERVICE then Refused else
    transfer_in_answer read octets None

-- the same of a START read in place of a START write: of which the device has heard nothing
abbrev pub doubted_updated : Bool → List ℕ → MasterTransfer
doubted_updated read octets =
    if slice_index octets 0 == NO_SERVICE then Undecided else asked_after_reply read octets

-- zeros came to a COUNT read that went out again: where they end the answer, a device that forgot
-- it would send them too
abbrev pub ended_by_zeros : MasterTransfer → MasterTransfer
ended_by_zeros Quiet = Undecided
ended_by_zeros transfer = transfer

abbrev pub repeat_updated : Bool → ArrayVec ℕ → Option ℕ → List ℕ → MasterTransfer
repeat_updated read text last octets =
    let updated = transfer_in_answer read (text.items ++ octets) last in
    if are_zeros octets then ended_by_zeros updated else updated

-- once the good reply to a read on the ISDU channel brought these octets
abbrev pub transfer_after_reply : MasterTransfer → List ℕ → MasterTransfer
transfer_after_reply (Asked read) octets = asked_after_reply read octets
transfer_after_reply (Doubted read) octets = doubted_updated read octets
transfer_after_reply (Answered read text last) octets =
    transfer_in_answer read (text.items ++ octets) last
transfer_after_reply (Repeated read text last) octets = repeat_updated read text last octets
transfer_after_reply transfer octets = transfer

-- A message in place of a repeat

-- a START read, in place of a START write that holds a whole request
abbrev pub asks_instead : MasterTransfer → List ℕ → List ℕ → Bool
asks_instead (Asked read) out octets =
    (slice_index out 0 == START_WRITE) && (slice_index octets 0 == START_READ)
asks_instead transfer out octets = false

-- once that goes out
abbrev pub transfer_in_doubt : MasterTransfer → MasterTransfer
transfer_in_doubt (Asked read) = Doubted read
transfer_in_doubt transfer = transfer

-- once the message that is out goes out again: what came to it may have been the answer, or its
-- last segment
abbrev pub transfer_after_repeat : MasterTransfer → MasterTransfer
transfer_after_repeat (Doubted read) = Asked read
transfer_after_repeat (Answered read text last) = Repeated read text last
transfer_after_repeat transfer = transfer

-- A message

abbrev pub idle_sent : MasterTransfer → Result MasterTransfer Blame
idle_sent Quiet = Ok Quiet
idle_sent Undecided = Ok Quiet
idle_sent transfer = Err NotDue

abbrev pub abort_sent : MasterTransfer → Result MasterTransfer Blame
abort_sent Quiet = Err NotDue
abort_sent transfer = Ok Quiet

-- once a new message is sent on the ISDU channel, to a device that has ISDU or not
abbrev pub transfer_after_message : Bool → MasterTransfer → Bool → Flow → List ℕ
    → Result MasterTransfer Blame
transfer_after_message isdu transfer true Start octets = start_asked transfer
transfer_after_message isdu transfer false Start octets = start_sent isdu transfer octets
transfer_after_message isdu transfer true (Count count) octets = count_asked transfer count
transfer_after_message isdu transfer false (Count count) octets = count_sent transfer count octets
transfer_after_message isdu transfer read Idle1 octets = idle_sent transfer
transfer_after_message isdu transfer read Idle2 octets = idle_sent transfer
transfer_after_message isdu transfer read Abort octets = abort_sent transfer
transfer_after_message isdu transfer read (Reserved address) octets = Err NotDue
