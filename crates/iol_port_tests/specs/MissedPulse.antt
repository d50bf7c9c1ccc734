-- A wake that no pulse made.
use Rattle.std.specs.Prelude.{◌≡◌, true}
use Rattle.iol_isdu.specs.declared.values.Request.{Request}
use Rattle.iol_far.specs.declared.kind.Kind.{Kind}
use Rattle.iol_far.specs.Isdu.{Handed}
use Rattle.iol_far.specs.Far.{Far}
use Rattle.iol_link.specs.Honest.{UnseenWake}

-- of each kind there is a device that answers such a wake, and has a request of before still
abbrev pub PulsesAreMissed : Type 0
PulsesAreMissed = (kind : Kind) (request : Request) → (far : Far) × (far_new : Far)
    × (far.kind ≡ kind) × (far.isdu ≡ Handed request) × UnseenWake far true far_new
    × (far_new.isdu ≡ Handed request)
