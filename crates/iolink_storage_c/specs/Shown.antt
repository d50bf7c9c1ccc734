-- What C is shown of Data Storage, of a block and of a set.
use Rattle.std.specs.Prelude.{◌≡◌, ℕ, Option, Some, None}
use Rattle.iol_storage.specs.declared.download.Refusal.{Refusal}
use Rattle.iol_storage.specs.declared.download.DownloadResult.{DownloadResult}
use Rattle.iol_storage.specs.declared.download.DownloadResult.TheVariants as ended
use Rattle.iol_storage.specs.declared.stored.standing.Agreement.{Agreement}
use Rattle.iol_storage.specs.declared.stored.standing.Agreement.TheVariants as served
use Rattle.iol_storage.specs.declared.stored.standing.Trouble.{Trouble}
use Rattle.iol_storage.specs.declared.stored.standing.Trouble.TheVariants as trouble
use Rattle.iol_storage.specs.declared.stored.standing.StorageStanding.{StorageStanding}
use Rattle.iol_storage.specs.declared.stored.standing.StorageStanding.TheVariants as standing
use Rattle.iol_storage.specs.declared.set.Set.{Set}
use Rattle.iol_storage.specs.Sets.{set_image}
use Rattle.iolink_handle.specs.Shown.{AreShown}
use Rattle.iolink_port_forms.specs.Shown.{cause_number}
use Rattle.iolink_storage_c.specs.declared.shown.IolRefusal.{IolRefusal}
use Rattle.iolink_storage_c.specs.declared.shown.IolStanding.{IolStanding}
use Rattle.iolink_storage_c.specs.declared.shown.IolBlockEnd.{IolBlockEnd}
use Rattle.iolink_storage_c.specs.declared.shown.IolSet.{IolSet}

-- what a device refused; all 0 where it refused nothing
abbrev pub refusal_shown : Option Refusal → IolRefusal
refusal_shown None = record { index = 0; sub = 0; error = 0; additional = 0 }
refusal_shown (Some refusal) = record {
  index = refusal.place.index;
  sub = refusal.place.sub;
  error = refusal.error;
  additional = refusal.additional;
}

-- how a device is served
abbrev pub served_number : Agreement → ℕ
served_number served.Off = 1
served_number served.Unsupported = 2
served_number served.Empty = 3
served_number served.Same = 4
served_number served.Restored = 5
served_number served.Fetched = 6

-- why it isn't
abbrev pub trouble_number : Trouble → ℕ
trouble_number trouble.WrongIdentity = 1
trouble_number trouble.NoStorage = 2
trouble_number trouble.Locked = 3
trouble_number trouble.TooLarge = 4
trouble_number trouble.BadList = 5
trouble_number (trouble.Refused refusal) = 6
trouble_number trouble.Attempts = 7

abbrev trouble_refusal : Trouble → Option Refusal
trouble_refusal (trouble.Refused refusal) = Some refusal
trouble_refusal other = None

-- what came of Data Storage
abbrev pub standing_shown : StorageStanding → IolStanding
standing_shown standing.Awaited = record { kind = 0; detail = 0; refused = refusal_shown None }
standing_shown (standing.Served how) =
    record { kind = 1; detail = served_number how; refused = refusal_shown None }
standing_shown (standing.Trouble why) = record {
  kind = 2;
  detail = trouble_number why;
  refused = refusal_shown (trouble_refusal why);
}
standing_shown (standing.Released why) = record {
  kind = 3;
  detail = trouble_number why;
  refused = refusal_shown (trouble_refusal why);
}

-- how a block ended; no flag ends one
abbrev pub block_shown : DownloadResult → IolBlockEnd
block_shown ended.Applied = record { kind = 1; cause = 0; refused = refusal_shown None }
block_shown (ended.Refused refusal) =
    record { kind = 3; cause = 0; refused = refusal_shown (Some refusal) }
block_shown ended.FlagSet = record { kind = 4; cause = 0; refused = refusal_shown None }
block_shown ended.NotApplied = record { kind = 4; cause = 0; refused = refusal_shown None }
block_shown (ended.Unknown cause) =
    record { kind = 8; cause = cause_number cause; refused = refusal_shown None }
block_shown ended.NoIsdu = record { kind = 16; cause = 0; refused = refusal_shown None }

-- the octets of a set as C is shown them, none where there is no set
abbrev pub SetIsShown : Option Set → IolSet → Type 0
SetIsShown None out = out.length ≡ 0
SetIsShown (Some set) out = AreShown (set_image set) out.length out.octets
