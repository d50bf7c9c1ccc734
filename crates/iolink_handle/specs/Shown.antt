-- What C is shown of octets and of a request.
use Rattle.std.specs.Prelude.{◌≡◌, ℕ, List, length, take}
use Rattle.iol_isdu.specs.declared.values.Place.{Place}
use Rattle.iol_isdu.specs.declared.values.Request.{Request}
use Rattle.iol_isdu.specs.declared.values.Request.TheVariants.{Read, Write}
use Rattle.iolink_handle.specs.declared.request.IolRequest.{IolRequest}

-- octets as C is shown them: how many, at the front of their room
abbrev pub AreShown : List ℕ → ℕ → List ℕ → Type 0
AreShown octets count room = (count ≡ length octets) × (take count room ≡ octets)

-- the place of a request
abbrev pub PlaceIsShown : Place → IolRequest → Type 0
PlaceIsShown place out = (out.index ≡ place.index) × (out.sub ≡ place.sub)

-- a request as C is shown it
abbrev pub RequestIsShown : Request → IolRequest → Type 0
RequestIsShown (Read place) out = (out.kind ≡ 1) × PlaceIsShown place out × (out.length ≡ 0)
RequestIsShown (Write place octets) out = (out.kind ≡ 2) × PlaceIsShown place out
    × AreShown octets.items out.length out.octets
