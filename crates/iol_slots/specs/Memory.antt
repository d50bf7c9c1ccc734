-- What two slots hold, and what storing octets makes of it.
use Rattle.std.specs.Prelude.{◌≡◌, ℕ, ◌+◌, List, [], ◌∷◌, slice_set}
use Rattle.iol_slots.specs.declared.slots.Slot.{Slot}
use Rattle.iol_slots.specs.declared.slots.Slot.TheVariants.{First, Second}
use Rattle.iol_slots.specs.declared.slots.Store.{Store}

pub record Memory : Type 0 where
  pub first : List ℕ
  pub second : List ℕ

abbrev pub slot_octets : Memory → Slot → List ℕ
slot_octets m First = m.first
slot_octets m Second = m.second

abbrev pub with_slot : Memory → Slot → List ℕ → Memory
with_slot m First octets = record m { first = octets }
with_slot m Second octets = record m { second = octets }

-- SLOT-1
abbrev pub after_store : Memory → Store → Memory
after_store m s = with_slot m s.slot (slice_set (slot_octets m s.slot) s.at s.octet)

abbrev pub after_stores : Memory → List Store → Memory
after_stores m [] = m
after_stores m (s ∷ ss) = after_stores (after_store m s) ss

-- octets one after the other, from a place on
abbrev pub stores_of : Slot → ℕ → List ℕ → List Store
stores_of slot at [] = []
stores_of slot at (octet ∷ octets) =
    record { slot = slot; at = at; octet = octet } ∷ stores_of slot (at + 1) octets

-- the driver was asked to store these, in this order, each once, and nothing else
abbrev pub AreStored : {S : Type 0} → (S → Store → S → Type 0) → S → List Store → S → Type 0
AreStored gives old [] new = new ≡ old
AreStored {S} gives old (s ∷ ss) new = (next : S) × gives old s next × AreStored gives next ss new
