-- A port without a wire, and where the line stands: one that loses and never lies.
use Rattle.std.specs.Prelude.{◌≡◌, ℕ, List, Option}
use Rattle.iol_link.specs.Honest.{HonestExchange}
use Rattle.iol_mode.specs.Exchanges.{text_out}
use Rattle.iol_mode.specs.Kinds.{SeesPulses}
use Rattle.iol_mode.specs.declared.configuration.Devices.{Devices}
use Rattle.iol_book.specs.declared.limits.Limits.{Limits}
use Rattle.iol_port.specs.declared.call.Call.{Call}
use Rattle.iol_port.specs.declared.call.Answered.{Answered}
use Rattle.iol_port.specs.Run.{PortState, Piece, Pieces, port_at_opening}
use Rattle.iol_port.specs.View.{PortParts, StandsFor, KeepsRecord}
use Rattle.iol_port.specs.Clean.{IsLevelBetween}
use Rattle.iol_port.specs.Called.{CallAt, CoreCalled}
use Rattle.iol_port.specs.Standing.{LinePosition}

pub record HonestParts : Type 0 where
  pub parts : PortParts
  -- where the line stands
  pub at : LinePosition
  -- with what it was opened: for which devices, its limits, and where the line stood then
  pub devices : Devices
  pub limits : Limits
  pub from : LinePosition

-- at a port for our own devices its device is one that misses no pulse of a wake
abbrev pub BeganWell : HonestParts → Type 0
BeganWell p = SeesPulses p.devices p.from.far

-- What every such port keeps: where it began well, it stands, with the device that the line
-- stands at, for an abstract port that is a run, in pieces, of the one that was opened
pub record IsRunInPieces (p : HonestParts) : Type 0 where
  pub runs : BeganWell p → (pieces : List Piece) × (replies : List Answered) × (b : PortState)
      × Pieces (port_at_opening p.devices p.limits p.from.far p.from.silence) pieces replies b
      × StandsFor p.at.far p.at.silence p.parts b

-- for some choice both ends stand together, and the record fits the journal
abbrev pub RecordFitsJournal : HonestParts → Type 0
RecordFitsJournal p = KeepsRecord p.at.far p.at.silence p.parts

-- between requests, with no message out in OPERATE, both ends are level and the device is awake
abbrev pub BothEndsAreLevel : HonestParts → Type 0
BothEndsAreLevel p = IsLevelBetween p.at.far p.parts

-- the line stands there afterwards, and with what the port was opened stays
abbrev pub Moves : HonestParts → LinePosition → HonestParts → Type 0
Moves p after next = next ≡ record p { parts = next.parts; at = after }

-- a call of the port within, which leaves the line where it stands
pub record Calls (p next : HonestParts) (c : Call) (reply : Answered) (effect : Type 0) : Type 0
  where
    pub call : CoreCalled p.parts next.parts c reply effect
    pub moves : Moves p p.at next

abbrev pub honest_call : HonestParts → HonestParts → CallAt
honest_call p next = record { old = p.parts; new = next.parts; Says = Calls p next }

-- The premise: this is what an honest exchange of the octets that are out could bring, and the
-- line stands there then
abbrev pub Exchanges : HonestParts → Option (List ℕ) → LinePosition → Type 0
Exchanges p received after =
    HonestExchange p.at.far p.at.silence (text_out p.parts.core.state) received after.far
    after.silence
