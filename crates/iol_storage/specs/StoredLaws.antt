-- What a reader may conclude of a stored port: it is its port, with calls of its own.
use Rattle.std.specs.Prelude.{◌≡◌, ℕ, Bool, false, IsTrue, List, [], ◌∷◌, Option, Some, None}
use Rattle.iol_isdu.specs.declared.values.Request.{Request}
use Rattle.iol_far.specs.Far.{Far}
use Rattle.iol_link.specs.Honest.{HonestWake, HonestExchange}
use Rattle.iol_mode.specs.Exchanges.{text_out}
use Rattle.iol_book.specs.declared.entries.Ticket.{Ticket}
use Rattle.iol_book.specs.BookModel.{is_served, next_taken}
use Rattle.iol_port.specs.declared.call.Call.{Call}
use Rattle.iol_port.specs.declared.call.Answered.{Answered}
use Rattle.iol_port.specs.CorePort.{SendDoes, ReceiveDoes, WakeDoes}
use Rattle.iol_port.specs.Run.{PortState, Piece, Pieces}
use Rattle.iol_port.specs.View.{PortParts, StandsFor}
use Rattle.iol_storage.specs.declared.set.Set.{Set}
use Rattle.iol_storage.specs.declared.stored.storage.Storage.{Storage}
use Rattle.iol_storage.specs.Stored.{storage_watched, storage_serves, page_device, is_check}
use Rattle.iol_storage.specs.StoredPort.{StoredParts, CoreCalls, Tends}

-- What happens at the port within: some of its calls, a sending, or what came back, which leaves
-- the line with this far end and this silence
pub data StoredMove : Type 0 where
  Calls : List (Call × Answered) → StoredMove
  Send : StoredMove
  Receive : Option (List ℕ) → Far → ℕ → StoredMove
  Wake : Bool → Far → StoredMove

-- where the line stands
abbrev pub StoredLine : Type 0
StoredLine = Far × ℕ

abbrev pub MoveDoes : PortParts → StoredLine → StoredMove → PortParts → StoredLine → Type 0
MoveDoes p line (Calls calls) next after = CoreCalls p calls next × (after ≡ line)
MoveDoes p line Send next after = SendDoes p next × (after ≡ line)
MoveDoes p line (Receive received far silence) next after = ReceiveDoes p received next
    × HonestExchange line.0 line.1 (text_out p.core.state) received far silence
    × (after ≡ (far, silence))
MoveDoes p line (Wake answered far) next after = WakeDoes p answered next
    × HonestWake line.0 answered far × (after ≡ (far, line.1))

abbrev pub MovesDo : PortParts → StoredLine → List StoredMove → PortParts → StoredLine → Type 0
MovesDo p line [] next after = (next ≡ p) × (after ≡ line)
MovesDo p line (move ∷ moves) next after = (mid : PortParts) × (between : StoredLine)
    × MoveDoes p line move mid between × MovesDo mid between moves next after

-- a job's step is some calls of the port within
abbrev pub StepsAreCalls : Type 0
StepsAreCalls = (old new : StoredParts) → Tends old new
    → (calls : List (Call × Answered)) × CoreCalls old.port calls new.port

-- whatever happens at it is a run, in pieces, of each abstract port that it stands for
abbrev pub MovesAreRuns : Type 0
MovesAreRuns = (moves : List StoredMove) (p next : PortParts) (line after : StoredLine)
    → MovesDo p line moves next after
    → (a : PortState) → StandsFor line.0 line.1 p a
    → (pieces : List Piece) × (replies : List Answered) × (b : PortState)
    × Pieces a pieces replies b × StandsFor after.0 after.1 next b

-- behind a job's step, a request that may be taken is one that the storage serves: in a job its
-- own alone, and before there is a standing none
abbrev pub JobsAreAlone : Type 0
JobsAreAlone = (old new : StoredParts) → Tends old new → (next : Ticket × Request)
    → next_taken new.port.book.state ≡ Some next
    → IsTrue (is_served (storage_serves new.storage) next.0)

-- the kept set, if there is one, is one of this device
abbrev pub IsOfDevice : Option Set → List ℕ → Type 0
IsOfDevice None device = Unit {0}
IsOfDevice (Some set) device = set.device ≡ device

-- an attempt begins in a session alone, whose device is the one of the kept set, if one is kept
-- STO-4
abbrev pub AttemptsAreForTheDevice : Type 0
AttemptsAreForTheDevice = (s : Storage) (session : Option (List ℕ))
    → is_check s.job ≡ false → IsTrue (is_check (storage_watched s session).job)
    → (page : List ℕ) × (session ≡ Some page) × IsOfDevice s.backup (page_device page)
    × ((storage_watched s session).device ≡ page_device page)
