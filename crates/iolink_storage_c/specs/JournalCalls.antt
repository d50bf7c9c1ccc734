-- What the calls of C on the journal answer and leave, where the handle is open.
use Rattle.std.specs.Prelude.{◌≡◌, ℕ, length, Result, IfOk, OnOk, OnErr}
use Rattle.iol_port.specs.declared.fault.PortFault.{PortFault}
use Rattle.iol_port.specs.Called.{Drains}
use Rattle.iol_storage.specs.StoredPort.{StoredParts, stored_forward}
use Rattle.iolink_port_forms.specs.Answers.{answer_number}
use Rattle.iolink_storage_c.specs.declared.held.HeldStore.{HeldStore}

-- the port is drained, or there is no memory for it
abbrev pub DrainsStored : StoredParts → StoredParts → Result (ℕ × ℕ) PortFault → Type 0
DrainsStored old new answer = Drains (stored_forward old new)
    (λ counts. old.port.book.state.journal) answer

-- what was drained goes to the handle, which has read none of it, with how many entries it has, and
-- how many of these are restated; else the journal that the handle keeps stays
pub record StoreDrains (old : HeldStore) (number count restated : ℕ) (new : HeldStore) : Type 0
  where
    pub answer : Result (ℕ × ℕ) PortFault
    pub number_is : number ≡ answer_number answer
    pub drains : DrainsStored old.port new.port answer
    pub counts : IfOk answer (λ counts. (counts.0 ≡ length old.port.port.book.state.journal)
        × (counts.1 ≡ old.port.port.book.state.restated))
    pub shown : IfOk answer (λ counts. (count ≡ counts.0) × (restated ≡ counts.1))
    pub retained : OnOk answer (new.journal.entries.items ≡ old.port.port.book.state.journal)
    pub read : OnOk answer (new.journal.read ≡ 0)
    pub writes : new.writes ≡ old.writes
    pub none : OnErr answer ((count ≡ 0) × (restated ≡ 0))
    pub stays : OnErr answer (new ≡ record old { port = new.port })
