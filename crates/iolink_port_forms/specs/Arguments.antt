-- What C gives by numbers: limits, devices, places, cycle times, and what came on the line.
use Rattle.std.specs.Prelude.{◌≡◌, ◌≢◌, ◌≤◌, ◌<◌, ℕ, nat_eq, nat_lt, if◌then◌else◌, List, length, Option, Some, None}
use Rattle.iol_book.specs.declared.limits.Limits.{Limits}
use Rattle.iol_book.specs.Limits.{IsBusyLimit, IsJournalLimit, IsQueueLimit}
use Rattle.iol_mode.specs.declared.configuration.Devices.{Devices}
use Rattle.iol_mode.specs.declared.configuration.Devices.TheVariants.{Own, Any}
use Rattle.iol_isdu.specs.declared.values.Request.{Request}
use Rattle.iol_isdu.specs.declared.values.Request.TheVariants.{Read, Write}
use Rattle.iol_page.specs.declared.cycle.CycleTime.{CycleTime}
use Rattle.iol_page.specs.declared.identity.Identity.{Identity}
use Rattle.iol_page.specs.Cycle.{micros_of, IsShortest}

-- the entries of the journal, the busy replies, the tickets outstanding, the last ticket given
abbrev pub limits_of : ℕ → ℕ → ℕ → ℕ → Limits
limits_of journal busy queue given =
    record { journal = journal; busy = busy; queue = queue; given = given }

-- each number is in its range
abbrev pub AreInRange : Limits → Type 0
AreInRange limits =
    IsJournalLimit limits.journal × IsBusyLimit limits.busy × IsQueueLimit limits.queue

-- for which devices, by its number: 0 for those of our own kind, 1 for any
abbrev pub devices_of : ℕ → Option Devices
devices_of number =
    if nat_eq number 0 then Some Own else if nat_eq number 1 then Some Any else None

-- a read of the parameter at this index and subindex, and a write of these octets to it
abbrev pub read_at : ℕ → ℕ → Request
read_at index sub = Read (record { index = index; sub = sub })

abbrev pub write_at : ℕ → ℕ → List ℕ → Request
write_at index sub octets = Write (record { index = index; sub = sub }) (record { items = octets })

-- a device by its numbers
abbrev pub identity_at : ℕ → ℕ → Identity
identity_at vendor device = record { vendor = vendor; device = device }

-- the largest DeviceID of 24 bits
abbrev pub largest_device : ℕ
largest_device = 16777215

-- a cycle time by its microseconds: none for 0, else the shortest that takes at least so long
abbrev pub IsCycleOf : ℕ → Option CycleTime → Type 0
IsCycleOf micros None = micros ≡ 0
IsCycleOf micros (Some cycle) =
    (micros ≢ 0) × (micros ≤ micros_of cycle.octet) × IsShortest micros cycle

-- what came on the line: nothing where there are no octets
abbrev pub answer_of : List ℕ → Option (List ℕ)
answer_of octets = if nat_eq (length octets) 0 then None else Some octets
