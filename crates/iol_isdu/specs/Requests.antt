-- The texts of a request (IEC 61131-9, A.5.1 to A.5.6).
use Rattle.std.specs.Prelude.{◌≡◌, ℕ, ◌+◌, ◌/◌, ◌%◌, ◌<◌, ◌≤◌, Bool, ◌==◌, nat_lt, nat_le, ◌&&◌, ◌||◌, if◌then◌else◌, List, [], ◌∷◌, ◌++◌, length}
use Rattle.iol_isdu.specs.declared.service.Form.{Form}
use Rattle.iol_isdu.specs.declared.service.Form.TheVariants.{Index, IndexSub, WideIndexSub}
use Rattle.iol_isdu.specs.declared.values.Place.{Place}
use Rattle.iol_isdu.specs.declared.values.Request.{Request}
use Rattle.iol_isdu.specs.declared.values.Request.TheVariants.{Read, Write}
use Rattle.iol_isdu.specs.Frame.{IsFrame}

-- how a text says a place is a `Form`: an 8-bit index, that and a subindex, or a 16-bit index and a
-- subindex. The services of the writes are 1 to 3, those of the reads 9 to 11, in this order
abbrev pub form_number : Form → ℕ
form_number Index = 0
form_number IndexSub = 1
form_number WideIndexSub = 2

-- the form says the place
-- ISDU-5
abbrev pub Holds : Form → Place → Type 0
Holds Index p = (p.sub ≡ 0) × (p.index < 256)
Holds IndexSub p = p.index < 256
Holds WideIndexSub p = p.index < 65536

-- the index part: the place in this form, a 16-bit index with its high octet first
-- ISDU-5
abbrev pub index_part : Form → Place → List ℕ
index_part Index p = p.index ∷ []
index_part IndexSub p = p.index ∷ p.sub ∷ []
index_part WideIndexSub p = (p.index / 256) ∷ (p.index % 256) ∷ p.sub ∷ []

-- the service of a request, its place in this form
-- ISDU-3
abbrev pub request_service : Request → Form → ℕ
request_service (Read p) form = 9 + form_number form
request_service (Write p octets) form = 1 + form_number form

-- the place that a request is about
abbrev pub place_of : Request → Place
place_of (Read p) = p
place_of (Write p octets) = p

-- the octets that a request writes
abbrev pub written_octets : Request → List ℕ
written_octets (Read p) = []
written_octets (Write p octets) = octets.items

-- the service and the body of a request, its place in this form
pub record IsRequestBodyIn (form : Form) (request : Request) (service : ℕ)
    (body : List ℕ) : Type 0 where
  pub holds : Holds form (place_of request)
  pub fits : length (written_octets request) ≤ 232
  pub code : service ≡ request_service request form
  pub parts : body ≡ index_part form (place_of request) ++ written_octets request

-- the service and the body of a request, its place in some form
abbrev pub IsRequestBody : Request → ℕ → List ℕ → Type 0
IsRequestBody request service body = (form : Form) × IsRequestBodyIn form request service body

-- a text of the request in this form
pub record IsRequestTextIn (form : Form) (request : Request) (text : List ℕ) : Type 0 where
  pub service : ℕ
  pub body : List ℕ
  pub means : IsRequestBodyIn form request service body
  pub frame : IsFrame service body text

-- a text of the request, in some form
-- ISDU-6
abbrev pub IsRequestText : Request → List ℕ → Type 0
IsRequestText request text = (form : Form) × IsRequestTextIn form request text

-- the octets begin with a text of the request
pub record BeginsWithRequest (octets : List ℕ) (request : Request) : Type 0 where
  pub text : List ℕ
  pub rest : List ℕ
  pub spells : IsRequestText request text
  pub whole : octets ≡ text ++ rest

-- the shortest form that says a place
abbrev pub shortest : Place → Form
shortest p =
    if (nat_lt p.index 256) then (if (p.sub == 0) then Index else IndexSub) else WideIndexSub

-- a text of the request in the shortest form, which is the one that is sent
-- ISDU-6
abbrev pub IsShortText : Request → List ℕ → Type 0
IsShortText request text = IsRequestTextIn (shortest (place_of request)) request text

-- low ≤ n ≤ high
abbrev pub within : ℕ → ℕ → ℕ → Bool
within low high n = nat_le low n && nat_le n high

-- the table of the requests' services and their total lengths; 16 is never one
-- ISDU-3
abbrev pub request_accepts : ℕ → ℕ → Bool
request_accepts service total =
    (service == 1 && within 3 236 total) || (service == 2 && within 4 237 total)
    || (service == 3 && within 5 238 total)
    || (service == 9 && total == 3) || (service == 10 && total == 4)
    || (service == 11 && total == 5)
