-- A port with Data Storage at a wire: what each call of it does there.
use Rattle.std.specs.Prelude.{◌≡◌, ◌⊎◌, ℕ, ◌+◌, Bool, true, false, if◌then◌else◌, IfNone, IfSome, IsTrue, is_none, is_ok, is_some, List, length, Option, Some, None, Result, Ok, Err, option_map}
use Rattle.std.specs.Result.{result_map_both}
use Rattle.arrayvec.specs.ArrayVec.{ArrayVec}
use Rattle.iol_isdu.specs.declared.values.Request.{Request}
use Rattle.iol_event.specs.declared.event.Event.{Event}
use Rattle.iol_far.specs.Octets.{octets_in}
use Rattle.iol_book.specs.declared.entries.Entry.{Entry}
use Rattle.iol_book.specs.declared.entries.Outcome.{Outcome}
use Rattle.iol_book.specs.declared.entries.Ticket.{Ticket}
use Rattle.iol_book.specs.declared.fault.BookFault.TheVariants.{OutOfMemory}
use Rattle.iol_book.specs.declared.limits.Limits.{Limits}
use Rattle.iol_link.specs.WireFacts.{WireFacts}
use Rattle.iol_link.specs.declared.wire.Rate.{Rate}
use Rattle.iol_app.specs.declared.transmission.Transmission.{Transmission}
use Rattle.iol_app.specs.declared.transmission.Transmission.TheVariants.{Wake, Exchange}
use Rattle.iol_port.specs.declared.awaited.AwaitedAnswer.{AwaitedAnswer}
use Rattle.iol_port.specs.declared.awaited.AwaitedAnswer.TheVariants as awaited
use Rattle.iol_port.specs.declared.call.Answered.{Answered}
use Rattle.iol_port.specs.declared.call.Answered.TheVariants as answered
use Rattle.iol_port.specs.declared.call.Call.{Call}
use Rattle.iol_port.specs.declared.call.Call.TheVariants as call
use Rattle.iol_port.specs.declared.call.Counting.{Counting}
use Rattle.iol_mode.specs.declared.configuration.Devices.{Devices}
use Rattle.iol_port.specs.declared.fault.PortFault.{PortFault}
use Rattle.iol_port.specs.declared.fault.PortFault.TheVariants as port_fault
use Rattle.iol_port.specs.Called.{Submits, SubmitsUrgent, Collects, Withdraws, Cancels, Abandons, Restarts, ClearsOutput, Expects, SetsCycle, TakesEvent, Archives, Drains, core_call}
use Rattle.iol_port.specs.CorePort.{CoreOpensFor, PortReceiveGives, ReceiveDoes, WakeGives, WakeDoes, awaited_answer}
use Rattle.iol_port.specs.EveryWire.{page_shown}
use Rattle.iol_port.specs.Replies.{drained_answer}
use Rattle.iol_port.specs.View.{IsNewFor, status_of}
use Rattle.iol_storage.specs.declared.attempt.StorageMode.{StorageMode}
use Rattle.iol_storage.specs.declared.set.Set.{Set}
use Rattle.iol_storage.specs.declared.stored.fault.StoredFault.{StoredFault}
use Rattle.iol_storage.specs.declared.stored.fault.StoredFault.TheVariants as fault
use Rattle.iol_storage.specs.declared.stored.storage.Storage.{Storage}
use Rattle.iol_storage.specs.Sets.{set_image}
use Rattle.iol_storage.specs.Stored.{block_answer, block_collected, is_own, load_refusal, number_unsaved, storage_at_opening, storage_behind_block, storage_behind_event, storage_loaded, storage_released, storage_saved, storage_with_block}
use Rattle.iol_storage.specs.StoredPort.{PortAnswers, SetsStoredOutput, stored_call, stored_forward, StoredParts, StoredSends, client_refusal, image_shown, places_with_room, tickets_behind_submit, tickets_without, unknown_ticket}
use Rattle.iol_stored_script.specs.declared.storage_line.StorageCall.{StorageCall}
use Rattle.iol_stored_script.specs.declared.storage_line.StorageCall.TheVariants as storage
use Rattle.iol_stored_commands.specs.declared.storage_answer.StorageAnswer.{StorageAnswer}
use Rattle.iol_stored_commands.specs.declared.storage_answer.StorageAnswer.TheVariants as answer

-- a port with Data Storage, and the wire that it is at
pub record StoredOver (W : Type 0) : Type 0 where
  pub port : StoredParts
  pub wire : W

-- a new port, with this mode of Data Storage and no set
pub record IsNewStored (mode : StorageMode) (devices : Devices) (limits : Limits)
    (p : StoredParts) : Type 0 where
  pub storage : p.storage ≡ storage_at_opening mode None
  pub output : p.output ≡ None
  pub port : IsNewFor devices limits p.port
  pub opens : CoreOpensFor devices limits p.port
  pub room : p.most + 2 ≡ places_with_room limits

-- Turns

module _ {W : Type 0} (facts : WireFacts W) where
  -- what goes out goes over the wire, and the port is told what came back
  abbrev pub TakesAnswer : Transmission → StoredOver W → StoredOver W → Type 0
  TakesAnswer Wake mid next = (rate : Option Rate) × facts.wake_gives mid.wire rate next.wire
      × WakeDoes mid.port.port (is_some rate) next.port.port
      × WakeGives mid.port.port (is_some rate) next.port.port
      × (next.port ≡ record mid.port { port = next.port.port })
  TakesAnswer (Exchange message) mid next = (received : Option (ArrayVec ℕ))
      × facts.exchange_gives mid.wire message.octets.items received next.wire
      × ReceiveDoes mid.port.port (octets_in received) next.port.port
      × PortReceiveGives mid.port.port (octets_in received) next.port.port
      × (next.port ≡ record mid.port { port = next.port.port })

  pub record StoredTurns (old new : StoredOver W) : Type 0 where
    pub sent : Transmission
    pub mid : StoredParts
    pub sends : StoredSends old.port sent mid
    pub takes : TakesAnswer sent (record old { port = mid }) new

-- Calls that a plain port has, too

-- an answer in its own way, else the refusal of the port within
abbrev pub port_reply : {X : Type 0} → (X → Answered) → Result X PortFault
    → Result Answered StoredFault
port_reply reply (Ok value) = Ok (reply value)
port_reply reply (Err why) = Err (fault.Port why)

-- a client's request is submitted, where it isn't denied
pub record ClientSubmits (old : StoredParts) (request : Request)
    (submits : Result Ticket PortFault → Type 0) (result : Result Ticket StoredFault)
    (new : StoredParts) : Type 0 where
  pub denied : IfSome (client_refusal old request) (λ why. (result ≡ Err why) × (new ≡ old))
  pub is : IfNone (client_refusal old request) (PortAnswers result submits)
  pub tickets : new.tickets ≡ tickets_behind_submit old.tickets result

-- a call of a ticket is made, where that isn't a job's
pub record OfClients {X : Type 0} (old : StoredParts) (ticket : Ticket) (made : Type 0)
    (result : Result X PortFault) (new : StoredParts) : Type 0 where
  pub own : IsTrue (is_own old.storage ticket) → (result ≡ Err unknown_ticket) × (new ≡ old)
  pub is : is_own old.storage ticket ≡ false → made

-- nothing is out between two turns, and a restart is made there
abbrev pub RestartsIfFree : AwaitedAnswer → StoredParts → StoredParts → Type 0
RestartsIfFree awaited.Nothing old new = Restarts (stored_forward old new)
RestartsIfFree other old new = new ≡ old

abbrev pub PortMakes : StoredParts → Call → Result Answered StoredFault → StoredParts → Type 0
PortMakes old (call.Submit request) reply new = (returned : Result Ticket StoredFault)
    × (reply ≡ result_map_both (λ ticket. answered.Ticket ticket) (λ why. why) returned)
    × ClientSubmits old request
    (Submits (stored_call old new) request) returned new
PortMakes old (call.SubmitUrgent request) reply new = (returned : Result Ticket StoredFault)
    × (reply ≡ result_map_both (λ ticket. answered.Ticket ticket) (λ why. why) returned)
    × ClientSubmits old request
    (SubmitsUrgent (stored_call old new) request) returned new
PortMakes old (call.Collect ticket) reply new = (returned : Result Outcome PortFault)
    × (reply ≡ port_reply (λ outcome. answered.Outcome outcome) returned)
    × OfClients old ticket
    (Collects (stored_call old new) ticket returned) returned new
    × (new.tickets ≡ tickets_without (is_ok returned) old.tickets)
PortMakes old (call.Withdraw ticket) reply new = (returned : Result (Unit {0}) PortFault)
    × (reply ≡ port_reply (λ _. answered.Nothing) returned)
    × OfClients old ticket
    (Withdraws (stored_call old new) ticket returned) returned new
    × (new.tickets ≡ old.tickets)
PortMakes old (call.Cancel ticket) reply new = (returned : Result (Unit {0}) PortFault)
    × (reply ≡ port_reply (λ _. answered.Nothing) returned)
    × OfClients old ticket
    (Cancels (stored_call old new) ticket returned) returned new
    × (new.tickets ≡ old.tickets)
PortMakes old (call.Abandon ticket) reply new = (returned : Result (Unit {0}) PortFault)
    × (reply ≡ port_reply (λ _. answered.Nothing) returned)
    × OfClients old ticket
    (Abandons (stored_call old new) ticket returned) returned new
    × (new.tickets ≡ tickets_without (is_ok returned) old.tickets)
PortMakes old (call.SetOutput image) reply new = (returned : Result (Unit {0}) PortFault)
    × (reply ≡ port_reply (λ _. answered.Nothing) returned)
    × SetsStoredOutput image returned old new
PortMakes old call.TakeEvent reply new = (returned : Result Event PortFault)
    × (reply ≡ port_reply (λ event. answered.Event event) returned)
    × TakesEvent (core_call old.port new.port) returned
    × (new ≡ record old {
      port = new.port;
      storage = storage_behind_event old.storage returned;
    })
PortMakes old call.Archive reply new = (returned : Result (List Entry) PortFault)
    × (reply ≡ port_reply (λ entries. answered.Archived (length entries)) returned)
    × Archives (stored_forward old new) (λ entries. entries) returned
PortMakes old call.Drain reply new = (returned : Result (List Entry) PortFault)
    × (reply ≡ port_reply
    (λ entries. drained_answer (length entries) old.port.book.state.restated) returned)
    × Drains (stored_forward old new) (λ entries. entries) returned
PortMakes old call.Restart reply new = (reply ≡ Ok answered.Nothing)
    × RestartsIfFree (awaited_answer old.port) old new
PortMakes old call.ClearOutput reply new = (reply ≡ Ok answered.Nothing)
    × ClearsOutput (core_call old.port new.port)
    × (new ≡ record old { port = new.port; output = None })
PortMakes old (call.Expect identity) reply new = (returned : Counting)
    × (reply ≡ Ok (answered.Counts returned))
    × Expects (stored_forward old new) identity returned
PortMakes old (call.Cycle cycle) reply new = (returned : Counting)
    × (reply ≡ Ok (answered.Counts returned))
    × SetsCycle (stored_forward old new) cycle returned
PortMakes old call.Look reply new = (reply ≡ Ok (answered.Image (image_shown old))) × (new ≡ old)
PortMakes old call.Page reply new = (reply ≡ Ok (answered.Page (page_shown old.port)))
    × (new ≡ old)
PortMakes old call.Counters reply new = (reply ≡ Ok (answered.Counters old.port.counters))
    × (new ≡ old)
PortMakes old call.LastLoss reply new = (reply ≡ Ok (answered.LastLoss old.port.last_loss))
    × (new ≡ old)
PortMakes old call.Status reply new = (reply ≡ Ok (answered.Status (status_of old.port.core)))
    × (new ≡ old)
PortMakes old other reply new = (reply ≡ Ok answered.Nothing) × (new ≡ old)

-- whether a call was refused for want of memory
abbrev pub lacks_room : Result Answered StoredFault → Bool
lacks_room (Err (fault.Port (port_fault.Book OutOfMemory))) = true
lacks_room other = false

-- a turn makes a call of the wire, and no other call touches it
abbrev pub CallMakes : {W : Type 0} → WireFacts W → StoredOver W → Call
    → Result Answered StoredFault → StoredOver W → Type 0
CallMakes facts old call.Turn reply new = (reply ≡ Ok answered.Nothing) × StoredTurns facts old new
CallMakes facts old other reply new = PortMakes old.port other reply new.port
    × (new.wire ≡ old.wire)

-- Calls that a plain port hasn't

-- no answer, or the refusal
abbrev pub answer_unless : Option StoredFault → Result StorageAnswer StoredFault
answer_unless None = Ok answer.Nothing
answer_unless (Some why) = Err why

abbrev pub answer_to_call : Storage → StorageCall → Result StorageAnswer StoredFault
answer_to_call s (storage.Block keep writes) =
    result_map_both (λ block. answer.Block block) (λ why. why) (block_answer s writes)
answer_to_call s (storage.Outcome block) =
    result_map_both (λ end. answer.Outcome block end) (λ why. why) (block_collected s block)
answer_to_call s storage.Standing = Ok (answer.Standing s.standing)
answer_to_call s storage.Backup =
    Ok (answer.Backup (option_map (λ set. record { items = set_image set }) s.backup))
answer_to_call s storage.Save = Ok (answer.Saved (number_unsaved s))
answer_to_call s storage.Forget = answer_unless (load_refusal s None)
answer_to_call s other = Ok answer.Nothing

-- what is loaded, where it isn't refused
abbrev pub behind_load : Storage → Option Set → Storage
behind_load s backup = if is_none (load_refusal s backup) then storage_loaded s backup else s

abbrev pub behind_call : Storage → StorageCall → Storage
behind_call s (storage.Block keep writes) =
    if is_ok (block_answer s writes) then storage_with_block s writes keep else s
behind_call s (storage.Outcome block) = storage_behind_block s block
behind_call s storage.Save = if is_some (number_unsaved s) then storage_saved s else s
behind_call s storage.Forget = behind_load s None
behind_call s storage.Release = storage_released s
behind_call s other = s

-- octets are no set's, or the set that has them is loaded
abbrev pub LoadsOctets : Storage → List ℕ → Result StorageAnswer StoredFault → Storage → Type 0
LoadsOctets s octets reply next = ((reply ≡ Ok answer.NoSet) × (next ≡ s))
    ⊎ ((set : Set) × (set_image set ≡ octets) × (reply ≡ answer_unless (load_refusal s (Some set)))
    × (next ≡ behind_load s (Some set)))

abbrev pub StorageDoes : Storage → StorageCall → Result StorageAnswer StoredFault → Storage
    → Type 0
StorageDoes s (storage.Load octets) reply next = LoadsOctets s octets.items reply next
StorageDoes s other reply next = (reply ≡ answer_to_call s other) × (next ≡ behind_call s other)

-- they change what is known of Data Storage, and nothing else
pub record StorageMakes {W : Type 0} (old : StoredOver W) (asked : StorageCall)
    (reply : Result StorageAnswer StoredFault) (new : StoredOver W) : Type 0 where
  pub does : StorageDoes old.port.storage asked reply new.port.storage
  pub rest : new ≡ record old { port = record old.port { storage = new.port.storage } }
