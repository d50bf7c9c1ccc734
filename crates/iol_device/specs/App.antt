-- What an application does with the requests that are handed to it.
use Rattle.std.specs.Prelude.{◌≡◌, List, [], ◌∷◌, Option, Some, None, IsTrue, MatchBool}
use Rattle.iol_isdu.specs.declared.values.Request.{Request}
use Rattle.iol_isdu.specs.declared.values.Answer.{Answer}
use Rattle.iol_far.specs.declared.carried.Carried.{Carried}
use Rattle.iol_far.specs.Isdu.{IsduState, Answered, fits}
use Rattle.iol_far.specs.Level.{grown_by}
use Rattle.iol_far.specs.Far.{Far}
use Rattle.iol_far.specs.Local.{Carry, local, has_room}

-- What carrying one request out gives: the application before it, the request, the
-- answer, the application after it
abbrev pub Gives : Type 0 → Type 1
Gives P = P → Request → Answer → P → Type 0

-- Carrying this request out, by what the application's calls give: the application before it, the
-- record before it, the state, the record and the application then. That very answer, which fits,
-- stands ready, and the record keeps it with the request
abbrev pub Reacts : {P : Type 0} → Gives P → P → List Carried → IsduState → List Carried → P
    → Request → Type 0
Reacts gives before old state new after request =
    (answer : Answer) × gives before request answer after × IsTrue (fits request answer)
    × (state ≡ Answered request answer None) × (new ≡ grown_by old request answer)

-- Carrying out this request, if any, at a far end with that application, by what its calls give.
-- Where the record has room, the application carries it out, once, and it is that very answer,
-- which fits, that the far end has; else nothing changes, and the application isn't asked
abbrev pub IsCarriedOut : {P : Type 0} → Gives P → Option Request → Far → P → Far → P → Type 0
IsCarriedOut gives None old before new after = (new ≡ old) × (after ≡ before)
IsCarriedOut gives (Some request) old before new after = MatchBool (has_room old)
    ((answer : Answer) × gives before request answer after × IsTrue (fits request answer)
    × (new ≡ local old (Carry answer)))
    ((new ≡ old) × (after ≡ before))

-- the first application becomes that one by carrying out the requests of the record, in
-- their order, each once and with the answer that stands beside it, and by nothing else
abbrev pub Follows : {P : Type 0} → Gives P → P → List Carried → P → Type 0
Follows gives first [] now = now ≡ first
Follows {P} gives first (pair ∷ pairs) now = (next : P) × gives first pair.request pair.answer next
    × Follows gives next pairs now
