-- Messages, as the far end reads and writes them.
use Rattle.std.specs.Prelude.{ℕ, ◌==◌, nat_lt, if◌then◌else◌, List, Option, unwrap_or, Result, Ok, Err}
use Rattle.iol_octets.specs.declared.flow_control.Flow.{Flow}
use Rattle.iol_octets.specs.declared.flow_control.Flow.TheVariants.{Start, Count, Idle1, Idle2, Abort, Reserved}
use Rattle.iol_mseq.specs.Shape.{Shape, startup_shape}
use Rattle.iol_mseq.specs.Master.{master_in}
use Rattle.iol_mseq.specs.Texts.{reply_text}
use Rattle.iol_mseq.specs.declared.master.MasterMsg.{MasterMsg}
use Rattle.iol_mseq.specs.declared.reply.Reply.{Reply}
use Rattle.iol_page.specs.Page.{layouts_of}
use Rattle.iol_page.specs.declared.page.Layouts.{Layouts}
use Rattle.iol_page.specs.declared.fault.PageFault.{PageFault}
use Rattle.iol_far.specs.declared.mode.DeviceMode.{DeviceMode}
use Rattle.iol_far.specs.declared.mode.DeviceMode.TheVariants.{Startup, Preoperate, Operate}

-- the layout of a mode, by the layouts that a page asks for; a page that asks for none
-- has that of STARTUP alone, and so has PREOPERATE where a device of V1.0 has none
abbrev pub layout_by : DeviceMode → Result Layouts PageFault → Shape
layout_by Startup asked = startup_shape
layout_by Preoperate (Ok layouts) = unwrap_or layouts.pre startup_shape
layout_by Operate (Ok layouts) = layouts.run
layout_by mode (Err fault) = startup_shape

unfoldable pub layout_in : List ℕ → DeviceMode → Shape
layout_in page mode = layout_by mode (layouts_of page)

-- the message that octets are in a layout, none where they are not well-formed there
unfoldable pub message_in : Shape → List ℕ → Option MasterMsg
message_in layout octets = master_in layout octets

-- the octets of a reply
unfoldable pub reply_octets : Reply → List ℕ
reply_octets reply = reply_text reply

-- the flow that an address on the ISDU channel means
unfoldable pub flow_of : ℕ → Flow
flow_of address =
    if nat_lt address 0x10 then Count address else
    if address == 0x10 then Start else
    if address == 0x11 then Idle1 else
    if address == 0x12 then Idle2 else
    if address == 0x1F then Abort else
    Reserved address
