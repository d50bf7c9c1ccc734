-- What the messages of OPERATE say (IEC 61131-9, A.1.2 and 7.3.6).
use Rattle.std.specs.Prelude.{◌≡◌, ℕ, ◌+◌, Bool, true, false, List, [], Option, Some, None}
use Rattle.iol_octets.specs.SegmentNumber.{segment_number}
use Rattle.iol_octets.specs.Control.{control_of}
use Rattle.iol_octets.specs.declared.control.Mc.{Mc}
use Rattle.iol_octets.specs.declared.control.Channel.{Channel}
use Rattle.iol_octets.specs.declared.control.Channel.TheVariants.{Page, Diagnosis, Isdu}
use Rattle.iol_octets.specs.declared.flow_control.Flow.{Flow}
use Rattle.iol_octets.specs.declared.flow_control.Flow.TheVariants.{Start, Count, Idle1, Abort as AbortFlow}
use Rattle.iol_octets.specs.Flow.{flow_address}
use Rattle.iol_page.specs.Commands.{command_octet}
use Rattle.iol_page.specs.declared.master_command.MasterCommand.TheVariants.{ProcessDataOutputOperate, DeviceOperate}
use Rattle.iol_event.specs.Reading.{next_address}
use Rattle.iol_mseq.specs.Parts.{first_of_zeros}
use Rattle.iol_mseq.specs.declared.master.MasterMsg.{MasterMsg}
use Rattle.iol_app.specs.declared.event_work.ReadingProgress.{ReadingProgress}
use Rattle.iol_app.specs.declared.request.Current.{Current}
use Rattle.iol_app.specs.declared.request.RequestProgress.{RequestProgress}
use Rattle.iol_app.specs.declared.request.RequestProgress.TheVariants.{Sending, Doubting, Asking, Receiving, Refused}
use Rattle.iol_app.specs.declared.session.Purpose.{Purpose}
use Rattle.iol_app.specs.declared.session.Purpose.TheVariants.{EnableOutput, DropOutput, Abort, ReadEvent, ConfirmEvents, CheckEvents, Request, Idle}
use Rattle.iol_app.specs.EventReading.{reader_of}

-- nothing is said yet
pub record IsBlank (message : MasterMsg) : Type 0 where
  pub out : message.out.items ≡ []
  pub od : message.od.items ≡ []

-- what a control octet says
pub record Head : Type 0 where
  pub read : Bool
  pub channel : Channel
  pub address : ℕ

abbrev pub head_of : Mc → Head
head_of mc = record { read = mc.read; channel = mc.channel; address = mc.address }

abbrev pub read_head : Channel → ℕ → Head
read_head channel address = record { read = true; channel = channel; address = address }

abbrev pub write_of : Channel → ℕ → Head
write_of channel address = record { read = false; channel = channel; address = address }

-- a read on the ISDU channel
abbrev pub ask_of : Flow → Head
ask_of flow = read_head Isdu (flow_address flow)

-- the request's next message: the segment, START until the answer begins, then COUNT
abbrev pub progress_head : RequestProgress → Head
progress_head (Sending flow segment) = write_of Isdu (flow_address flow)
progress_head Doubting = ask_of Start
progress_head (Asking busy) = ask_of Start
progress_head (Receiving joining last) = ask_of (Count (segment_number (last + 1)))
progress_head Refused = ask_of Idle1

abbrev pub progress_data : RequestProgress → List ℕ
progress_data (Sending flow segment) = segment.items
progress_data any = []

abbrev pub request_head : Option Current → Head
request_head None = ask_of Idle1
request_head (Some current) = progress_head current.progress

abbrev pub request_data : Option Current → List ℕ
request_data None = []
request_data (Some current) = progress_data current.progress

-- a new message for this
abbrev pub head_for : Purpose → ReadingProgress → Option Current → Head
head_for EnableOutput _ current = write_of Page 0
head_for DropOutput _ current = write_of Page 0
head_for Abort _ current = ask_of AbortFlow
head_for ReadEvent reading current = read_head Diagnosis (next_address (reader_of reading))
head_for ConfirmEvents _ current = write_of Diagnosis 0
head_for CheckEvents _ current = read_head Diagnosis 0
head_for Request _ current = request_head current
head_for Idle _ current = ask_of Idle1

-- and its on-request data, of this size in a write
abbrev pub data_for : Purpose → ℕ → Option Current → List ℕ
data_for EnableOutput size current = first_of_zeros size (command_octet ProcessDataOutputOperate)
data_for DropOutput size current = first_of_zeros size (command_octet DeviceOperate)
data_for ConfirmEvents size current = first_of_zeros size 0
data_for Request size current = request_data current
data_for any size current = []

-- a read of this control octet, which carries these process data
abbrev pub read_with : ℕ → List ℕ → MasterMsg
read_with control out = record {
  mc = control_of control;
  out = record { items = out };
  od = record { items = [] };
}

-- a START read: whether the device has a request
abbrev pub question : List ℕ → MasterMsg
question out = read_with 0xF0 out

-- a read of the StatusCode: whether the device has events
abbrev pub check : List ℕ → MasterMsg
check out = read_with 0xC0 out
