-- What a port may take of the kind of its device.
use Rattle.std.specs.Prelude.{◌≡◌, false, IsTrue, ⊤}
use Rattle.iol_far.specs.declared.kind.Recalls.{Recalls}
use Rattle.iol_far.specs.declared.kind.Recalls.TheVariants.{UntilSent}
use Rattle.iol_far.specs.Far.{Far}
use Rattle.iol_link.specs.WireFacts.{WireFacts}
use Rattle.iol_mode.specs.declared.configuration.Devices.{Devices}
use Rattle.iol_mode.specs.declared.configuration.Devices.TheVariants.{Own, Any}

-- one for our own has a device that sees each pulse of a wake
abbrev pub SeesPulses : Devices → Far → Type 0
SeesPulses Own far = far.misses_pulses ≡ false
SeesPulses Any far = ⊤

-- how long an answer may be taken to be recalled: a port for any device knows nothing of its kind
abbrev pub trusted_recalls : Devices → Recalls → Recalls
trusted_recalls Own recalls = recalls
trusted_recalls Any recalls = UntilSent

-- a wire is honest to a port for these devices
abbrev pub IsHonestFor : {W : Type 0} → WireFacts W → Devices → W → Type 0
IsHonestFor facts devices wire = IsTrue (facts.honest wire) × SeesPulses devices (facts.far wire)
