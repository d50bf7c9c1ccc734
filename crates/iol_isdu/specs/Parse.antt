-- The request that octets begin with, as a function.
use Rattle.std.specs.Prelude.{ℕ, ◌+◌, ◌-◌, ◌*◌, ◌/◌, ◌%◌, ◌==◌, nat_lt, if◌then◌else◌, List, length, take, drop, slice_index, Option, Some, None}
use Rattle.iol_isdu.specs.declared.fault.IsduFault.{IsduFault}
use Rattle.iol_isdu.specs.declared.values.Place.{Place}
use Rattle.iol_isdu.specs.declared.values.Request.{Request}
use Rattle.iol_isdu.specs.declared.values.Request.TheVariants.{Read, Write}
use Rattle.iol_isdu.specs.Frame.{text_at, isdu_fault}
use Rattle.iol_isdu.specs.Requests.{request_accepts}

-- what stands between the total length and the CHKPDU of a text
abbrev pub body_of : List ℕ → List ℕ
body_of text = if (nat_lt (length text) 16) then take (length text - 2) (drop 1 text)
    else take (length text - 3) (drop 2 text)

-- the place of an index part of 1, 2 or 3 octets
abbrev pub place_in : ℕ → List ℕ → Place
place_in size body =
    if size == 1 then record { index = slice_index body 0; sub = 0 } else
    if size == 2 then record { index = slice_index body 0; sub = slice_index body 1 } else
    record { index = 256 * slice_index body 0 + slice_index body 1; sub = slice_index body 2 }

-- the request of a service and a body: 1 to 3 are the writes, 9 to 11 the reads
abbrev pub request_in : ℕ → List ℕ → Request
request_in service body = if nat_lt service 8
    then Write (place_in (service % 8) body) (record { items = drop (service % 8) body })
    else Read (place_in (service % 8) body)

-- the request, where nothing refuses it
abbrev pub request_unless : Option IsduFault → Request → Option Request
request_unless None r = Some r
request_unless (Some fault) r = None

-- the request that octets begin with, where they begin with one
unfoldable pub request_of : List ℕ → Option Request
request_of octets =
    request_unless (isdu_fault request_accepts octets)
    (request_in (slice_index octets 0 / 16) (body_of (text_at octets)))
