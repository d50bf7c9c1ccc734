-- What is printed for the answers to the calls of a port with Data Storage.
use Rattle.std.specs.Prelude.{ℕ, Option, Some, None, Result, Ok, Err, List, [], ◌∷◌, ◌++◌, codes}
use Rattle.std.specs.Fmt.{decimal}
use Rattle.arrayvec.specs.ArrayVec.{ArrayVec}
use Rattle.iol_port.specs.declared.call.Answered.{Answered}
use Rattle.iol_port.specs.declared.call.Call.{Call}
use Rattle.iol_print.specs.Printed.{octets_text}
use Rattle.iol_commands.specs.CountersPrinted.{cause_name}
use Rattle.iol_commands.specs.Printed.{number_text}
use Rattle.iol_commands.specs.RunPrinted.{place_text, port_fault_name, printed_answer}
use Rattle.iol_storage.specs.declared.download.DownloadResult.{DownloadResult}
use Rattle.iol_storage.specs.declared.download.DownloadResult.TheVariants.{Applied, Refused, FlagSet, NotApplied, Unknown, NoIsdu}
use Rattle.iol_storage.specs.declared.download.Refusal.{Refusal}
use Rattle.iol_storage.specs.declared.stored.fault.StoredFault.{StoredFault}
use Rattle.iol_storage.specs.declared.stored.fault.StoredFault.TheVariants as fault
use Rattle.iol_storage.specs.declared.stored.standing.Agreement.{Agreement}
use Rattle.iol_storage.specs.declared.stored.standing.Agreement.TheVariants as served
use Rattle.iol_storage.specs.declared.stored.standing.StorageStanding.{StorageStanding}
use Rattle.iol_storage.specs.declared.stored.standing.StorageStanding.TheVariants as standing
use Rattle.iol_storage.specs.declared.stored.standing.Trouble.{Trouble}
use Rattle.iol_storage.specs.declared.stored.standing.Trouble.TheVariants as trouble
use Rattle.iol_storage.specs.declared.stored.storage.BlockTicket.{BlockTicket}
use Rattle.iol_storage.specs.declared.stored.storage.SetNumber.{SetNumber}
use Rattle.iol_storage.specs.StoredFaults.{stored_fault_number}
use Rattle.iol_stored_commands.specs.declared.storage_answer.StorageAnswer.{StorageAnswer}
use Rattle.iol_stored_commands.specs.declared.storage_answer.StorageAnswer.TheVariants as answer

-- Refusals

abbrev pub stored_fault_name : StoredFault → List ℕ
stored_fault_name (fault.Port why) = port_fault_name why
stored_fault_name fault.OwnedIndex = codes "OwnedIndex"
stored_fault_name fault.Storing = codes "Storing"
stored_fault_name fault.UnknownBlock = codes "UnknownBlock"
stored_fault_name fault.BlockNotOver = codes "BlockNotOver"
stored_fault_name fault.SmallQueue = codes "SmallQueue"
stored_fault_name fault.NoStanding = codes "NoStanding"
stored_fault_name fault.Uncollected = codes "Uncollected"
stored_fault_name fault.OtherSet = codes "OtherSet"

-- the line of a refusal: its number and its name
abbrev pub stored_refusal_text : StoredFault → List ℕ
stored_refusal_text why = codes "refused " ++ decimal (stored_fault_number why) ++ codes " "
    ++ stored_fault_name why ++ codes "\n"

-- what the device refused, and how
abbrev pub device_refusal_text : Refusal → List ℕ
device_refusal_text why = codes " refused " ++ place_text why.place
    ++ octets_text (why.error ∷ why.additional ∷ [])

-- Blocks

abbrev pub block_text : BlockTicket → List ℕ
block_text block = number_text (codes "block ") block.0

-- how a block ended
abbrev pub block_end_text : DownloadResult → List ℕ
block_end_text Applied = codes " applied"
block_end_text (Refused why) = device_refusal_text why
block_end_text FlagSet = codes " flagset"
block_end_text NotApplied = codes " notapplied"
block_end_text (Unknown cause) = codes " unknown " ++ cause_name cause
block_end_text NoIsdu = codes " noisdu"

-- The standing

abbrev pub served_name : Agreement → List ℕ
served_name served.Off = codes " off"
served_name served.Unsupported = codes " unsupported"
served_name served.Empty = codes " empty"
served_name served.Same = codes " same"
served_name served.Restored = codes " restored"
served_name served.Fetched = codes " fetched"

abbrev pub trouble_text : Trouble → List ℕ
trouble_text trouble.WrongIdentity = codes " wrongidentity"
trouble_text trouble.NoStorage = codes " nostorage"
trouble_text trouble.Locked = codes " locked"
trouble_text trouble.TooLarge = codes " toolarge"
trouble_text trouble.BadList = codes " badlist"
trouble_text (trouble.Refused why) = device_refusal_text why
trouble_text trouble.Attempts = codes " attempts"

abbrev pub standing_text : StorageStanding → List ℕ
standing_text standing.Awaited = codes "standing awaited"
standing_text (standing.Served how) = codes "standing" ++ served_name how
standing_text (standing.Trouble why) = codes "standing trouble" ++ trouble_text why
standing_text (standing.Released why) = codes "standing released" ++ trouble_text why

-- Sets

abbrev pub set_text : Option (ArrayVec ℕ) → List ℕ
set_text None = codes "set none"
set_text (Some image) = codes "set" ++ octets_text image.items

abbrev pub saved_text : Option SetNumber → List ℕ
saved_text None = codes "saved none"
saved_text (Some number) = number_text (codes "saved ") number.0

-- Answers

-- what is printed for a call that a plain port hasn't, without the line's end
abbrev pub storage_answer_text : StorageAnswer → List ℕ
storage_answer_text (answer.Block block) = block_text block
storage_answer_text (answer.Outcome block end) = block_text block ++ block_end_text end
storage_answer_text (answer.Standing standing) = standing_text standing
storage_answer_text (answer.Backup image) = set_text image
storage_answer_text (answer.Saved number) = saved_text number
storage_answer_text answer.NoSet = codes "refused 44 NoSet"
storage_answer_text answer.Nothing = codes "ok"

-- the line of such a call
abbrev pub storage_text : Result StorageAnswer StoredFault → List ℕ
storage_text (Ok answer) = storage_answer_text answer ++ codes "\n"
storage_text (Err why) = stored_refusal_text why

-- that of one that a plain port has, too
abbrev pub plain_answer_text : Call → Result Answered StoredFault → List ℕ
plain_answer_text call (Ok answered) = printed_answer call answered
plain_answer_text call (Err why) = stored_refusal_text why
