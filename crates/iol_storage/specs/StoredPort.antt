-- A port with Data Storage and blocks: what its calls are at the port within.
use Rattle.std.specs.Prelude.{◌≡◌, ℕ, ◌+◌, ◌-◌, ◌^◌, ◌/◌, min, Bool, true, false, IfSome, IsTrue, is_some, nat_le, nat_lt, if◌then◌else◌, List, [], ◌∷◌, Option, Some, None, Result, Ok, Err, ◌&&◌}
use Rattle.iol_isdu.specs.declared.values.Request.{Request}
use Rattle.iol_isdu.specs.declared.values.Request.TheVariants.{Write, Read}
use Rattle.iol_isdu.specs.Texts.{IsRequest}
use Rattle.iol_book.specs.Limits.{has_journal}
use Rattle.iol_book.specs.declared.entries.Ticket.{Ticket}
use Rattle.iol_book.specs.declared.fault.BookFault.TheVariants.{Full, UnknownTicket, OutOfMemory}
use Rattle.iol_book.specs.declared.limits.Limits.{Limits}
use Rattle.iol_app.specs.Abstract.Steps.{ImageOctets}
use Rattle.iol_app.specs.declared.transmission.Transmission.{Transmission}
use Rattle.iol_app.specs.declared.transmission.Transmission.TheVariants as asked
use Rattle.iol_app.specs.declared.mode.Mode.{Mode}
use Rattle.iol_app.specs.declared.mode.Mode.TheVariants.{Operate}
use Rattle.iol_app.specs.StationState.{mode_in}
use Rattle.iol_app.specs.Pieces.{IsAskedOut}
use Rattle.iol_port.specs.declared.awaited.AwaitedAnswer.{AwaitedAnswer}
use Rattle.iol_port.specs.declared.awaited.AwaitedAnswer.TheVariants as awaited
use Rattle.iol_port.specs.declared.call.Call.{Call}
use Rattle.iol_port.specs.declared.call.Call.TheVariants as call
use Rattle.iol_port.specs.declared.call.Answered.{Answered}
use Rattle.iol_port.specs.declared.call.Answered.TheVariants as answered
use Rattle.iol_port.specs.declared.fault.PortFault.{PortFault}
use Rattle.iol_port.specs.declared.fault.PortFault.TheVariants as port_fault
use Rattle.iol_port.specs.Asks.{asks_of, begun_next}
use Rattle.iol_port.specs.Called.{CallAt, CoreCalled}
use Rattle.iol_port.specs.CorePort.{CoreDoes, SendDoes, PortSendGives}
use Rattle.iol_port.specs.EveryWire.{CoreCallGives, page_shown, takes_next}
use Rattle.iol_port.specs.View.{PortParts}
use Rattle.iol_storage.specs.declared.stored.fault.StoredFault.{StoredFault}
use Rattle.iol_storage.specs.declared.stored.fault.StoredFault.TheVariants as fault
use Rattle.iol_storage.specs.declared.set.Set.{Set}
use Rattle.iol_storage.specs.declared.stored.storage.Storage.{Storage}
use Rattle.iol_storage.specs.Stored.{storage_asks, storage_heard, storage_watched, storage_serves, is_unserved}
use Rattle.iol_storage.specs.Objects.{is_owned}
use Rattle.iol_storage.specs.Sets.{is_no_set}

-- the parts of a stored port
pub record StoredParts : Type 0 where
  -- the port within
  pub port : PortParts
  pub storage : Storage
  -- the output that clients want, and whether the port within wants it
  pub output : Option ImageOctets
  pub shown : Bool
  -- how many tickets clients have, and may have
  pub tickets : ℕ
  pub most : ℕ

-- Calls at the port within

-- one, in all that is said of it: it is a call of each abstract port that the port stands for, and
-- gives what it gives on every line
pub record CoreMakes (p : PortParts) (c : Call) (reply : Answered) (next : PortParts) : Type 0 where
  pub does : CoreDoes p c reply next
  pub gives : CoreCallGives p c reply next

-- all that is said of its sending: what goes out is what it asks, and while a message is out the
-- same goes out again and nothing changes
pub record PortSends (p : PortParts) (asked : Transmission) (next : PortParts) : Type 0 where
  pub says : IsAskedOut asked next.core.state
  pub asked_is : asked ≡ asks_of p
  pub repeat : IsTrue p.sent → next ≡ p
  pub begun : p.sent ≡ false → IsTrue (takes_next p) → IfSome (begun_next p) IsRequest
  pub gives : PortSendGives p next
  pub does : SendDoes p next

-- these, each with its reply, in order
abbrev pub CoreCalls : PortParts → List (Call × Answered) → PortParts → Type 0
CoreCalls p [] next = next ≡ p
CoreCalls p (first ∷ rest) next = (mid : PortParts) × CoreMakes p first.0 first.1 mid
    × CoreCalls mid rest next

-- they are all that happens to a stored port beside these parts
pub record MakesCalls (calls : List (Call × Answered)) (storage : Storage) (shown : Bool)
    (old new : StoredParts) : Type 0 where
  pub made : CoreCalls old.port calls new.port
  pub rest : new ≡ record old { port = new.port; storage = storage; shown = shown }

-- A job's step, between two messages

-- what came of its request. Out of a session one that waits still is withdrawn first
abbrev pub collect_calls : Bool → Ticket → Answered → Answered → List (Call × Answered)
collect_calls session ticket withdrawn collected =
    if session then (call.Collect ticket, collected) ∷ []
    else (call.Withdraw ticket, withdrawn) ∷ ((call.Collect ticket, collected) ∷ [])

abbrev pub storage_answered : Storage → Answered → Storage
storage_answered s (answered.Outcome outcome) = storage_heard s outcome
storage_answered s other = s

abbrev pub CollectsOf : Option Ticket → Bool → StoredParts → StoredParts → Type 0
CollectsOf None session old new = new ≡ old
CollectsOf (Some ticket) session old new = (withdrawn : Answered) × (collected : Answered)
    × MakesCalls (collect_calls session ticket withdrawn collected)
    (storage_answered old.storage collected) old.shown old new

-- the next one is submitted; where that is refused, in a later turn
-- JOB-1, JOB-6
abbrev pub storage_submitted : Storage → Answered → Storage
storage_submitted s (answered.Ticket ticket) = record s { asked = Some ticket }
storage_submitted s other = s

abbrev pub SubmitsOf : Option Request → StoredParts → StoredParts → Type 0
SubmitsOf None old new = new ≡ old
SubmitsOf (Some request) old new = (reply : Answered)
    × MakesCalls ((call.Submit request, reply) ∷ []) (storage_submitted old.storage reply)
    old.shown old new

abbrev pub to_submit : Storage → Option Request
to_submit s = if is_some s.asked then None else storage_asks s

-- the clients' output is wanted where the device is served
abbrev pub ShowsOf : Bool → Bool → Option ImageOctets → StoredParts → StoredParts → Type 0
ShowsOf true shown output old new =
    MakesCalls ((call.ClearOutput, answered.Nothing) ∷ []) old.storage false old new
ShowsOf false true output old new = new ≡ old
ShowsOf false false None old new = MakesCalls [] old.storage true old new
ShowsOf false false (Some image) old new = (reply : Answered)
    × MakesCalls ((call.SetOutput image, reply) ∷ []) old.storage true old new

-- the page of the session, where it has reached OPERATE
abbrev pub page_in_operate : Mode → Option (List ℕ) → Option (List ℕ)
page_in_operate Operate page = page
page_in_operate other page = None

abbrev pub session_page : PortParts → Option (List ℕ)
session_page p = page_in_operate (mode_in p.core.state) (page_shown p)

-- JOB-1, JOB-2, JOB-7
pub record Tends (old new : StoredParts) : Type 0 where
  pub heard : StoredParts
  pub collects : CollectsOf old.storage.asked (is_some (session_page old.port)) old heard
  pub watched : Storage
  pub watches : watched ≡ storage_watched heard.storage (session_page old.port)
  pub asked : StoredParts
  pub submits : SubmitsOf (to_submit watched) (record heard { storage = watched }) asked
  pub served : StoredParts
  pub serves : MakesCalls
      ((call.Serve (storage_serves asked.storage), answered.Nothing) ∷ []) asked.storage
      asked.shown asked served
  pub shows : ShowsOf (is_unserved served.storage) served.shown served.output served new

-- Between two messages a job's step comes, and then what the port within sends
abbrev pub TendsIfFree : Bool → StoredParts → StoredParts → Type 0
TendsIfFree true old new = new ≡ old
TendsIfFree false old new = Tends old new

pub record StoredSends (old : StoredParts) (sent : Transmission) (new : StoredParts) : Type 0 where
  pub mid : StoredParts
  pub tends : TendsIfFree old.port.sent old mid
  pub sends : PortSends mid.port sent new.port
  pub rest : new ≡ record mid { port = new.port }
  -- while a message is out nothing changes
  pub repeat : IsTrue old.port.sent → new ≡ old

-- what the port waits for behind it
abbrev pub answer_to : Transmission → AwaitedAnswer
answer_to asked.Wake = awaited.Wake
answer_to (asked.Exchange message) = awaited.Reply

-- Clients' calls

-- a call of the port within, which leaves the rest but for how many tickets clients have
pub record StoredCalled (old new : StoredParts) (c : Call) (reply : Answered) (effect : Type 0) :
    Type 0 where
  pub call : CoreCalled old.port new.port c reply effect
  pub rest : new ≡ record old { port = new.port; tickets = new.tickets }

-- one that leaves all the rest
pub record StoredForwards (old new : StoredParts) (c : Call) (reply : Answered) (effect : Type 0) :
    Type 0 where
  pub call : CoreCalled old.port new.port c reply effect
  pub rest : new ≡ record old { port = new.port }

abbrev pub stored_call : StoredParts → StoredParts → CallAt
stored_call old new = record { old = old.port; new = new.port; Says = StoredCalled old new }

abbrev pub stored_forward : StoredParts → StoredParts → CallAt
stored_forward old new = record { old = old.port; new = new.port; Says = StoredForwards old new }

-- a client may not write at the Index of Data Storage, nor have the tickets that are kept
-- STO-15, JOB-6
abbrev pub writes_owned : Request → Bool
writes_owned (Write place octets) = is_owned place
writes_owned (Read place) = false

abbrev pub client_refusal : StoredParts → Request → Option StoredFault
client_refusal p request = if writes_owned request then Some fault.OwnedIndex
    else if nat_le p.most p.tickets then Some (fault.Port (port_fault.Book Full)) else None

-- the refusals of the port within are the stored port's
abbrev pub by_port : {X : Type 0} → Result X PortFault → Result X StoredFault
by_port (Ok value) = Ok value
by_port (Err why) = Err (fault.Port why)

-- this answer is that of the port within, of which this holds
abbrev pub PortAnswers : {X : Type 0} → Result X StoredFault → (Result X PortFault → Type 0)
    → Type 0
PortAnswers {X = X} result Holds =
    (returned : Result X PortFault) × (result ≡ by_port returned) × Holds returned

abbrev pub tickets_behind_submit : {X : Type 0} → ℕ → Result X StoredFault → ℕ
tickets_behind_submit tickets (Ok ticket) = min (tickets + 1) (2 ^ 64 - 1)
tickets_behind_submit tickets (Err why) = tickets

abbrev pub tickets_without : Bool → ℕ → ℕ
tickets_without true tickets = tickets - 1
tickets_without false tickets = tickets

-- a job's ticket is unknown to clients
-- JOB-5
abbrev pub unknown_ticket : PortFault
unknown_ticket = port_fault.Book UnknownTicket

-- an output is wanted, of the port within only where the device is served
abbrev pub output_calls : Bool → ImageOctets → List (Call × Answered)
output_calls quiet image = (call.SetOutput image, answered.Nothing)
    ∷ (if quiet then (call.ClearOutput, answered.Nothing) ∷ [] else [])

abbrev pub SetsStoredOutput : ImageOctets → Result (Unit {0}) PortFault → StoredParts
    → StoredParts → Type 0
SetsStoredOutput image (Ok _) old new =
    CoreCalls old.port (output_calls (is_unserved old.storage) image) new.port
    × (new ≡ record old { port = new.port; output = Some image })
SetsStoredOutput image (Err why) old new =
    CoreCalls old.port ((call.SetOutput image, answered.Refused why) ∷ []) new.port
    × (new ≡ record old { port = new.port })

abbrev pub image_shown : StoredParts → Option ImageOctets
image_shown p = if is_unserved p.storage then None else p.port.core.session.image

-- how many tickets may be outstanding so that the journal, where one is kept, has room for four
-- entries of each
abbrev pub places_with_room : Limits → ℕ
places_with_room limits = if has_journal limits.journal && nat_lt (limits.journal / 4) limits.queue
    then limits.journal / 4 else limits.queue

-- at an opening, too few tickets, a set that is none, or no memory
abbrev pub IsOpeningRefused : Limits → Option Set → StoredFault → Type 0
IsOpeningRefused limits backup fault.SmallQueue = IsTrue (nat_le (places_with_room limits) 2)
IsOpeningRefused limits backup fault.OwnedIndex = IsTrue (is_no_set backup)
IsOpeningRefused limits backup other = other ≡ fault.Port (port_fault.Book OutOfMemory)
