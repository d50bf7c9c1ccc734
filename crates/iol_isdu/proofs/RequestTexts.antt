-- Requests and their texts: begin at `requests`, what the texts of requests have in common.
-- For the clauses of `laws::one_text_each`, `laws::one_text_in_front`, `requests::put_body` and 2
--     more.
use Rattle.std.proofs.Common.{◌≡◌, ℕ, ◌+◌, ◌-◌, ◌<◌, ◌≤◌, true, List, ◌∷◌, length, get_or, take, drop, refl, sym, ap₂, ◌∙◌, arith, [], Option, Some, None, OnSome, is_some, nat_le}
use Rattle.std.proofs.lemmas.Bool.Decides.{nat_tests}
use Rattle.std.proofs.lemmas.Grind.{common_steps}
use Rattle.iol_isdu.specs.Frame.{isdu_fault, total_of}
use Rattle.iol_isdu.specs.Requests.{Holds, form_number, index_part, written_octets, IsRequestBodyIn, IsRequestBody, IsRequestText, request_accepts}
use Rattle.iol_isdu.specs.Parse.{request_in}
use Rattle.iol_isdu.specs.declared.service.Form.{Form}
use Rattle.iol_isdu.specs.declared.service.Form.TheVariants.{Index, IndexSub, WideIndexSub}
use Rattle.iol_isdu.specs.declared.values.Place.{Place}
use Rattle.iol_isdu.specs.declared.values.Request.{Request}
use Rattle.iol_isdu.specs.declared.values.Request.TheVariants.{Read, Write}
use Rattle.iol_isdu.proofs.FrameTexts.{AreTexts, total_at-frame, isdu_fault-frame, one_frame}

writes_accepted : (n size : ℕ) → n < 3 → size ≤ 232
    → request_accepts (1 + n) (total_of (1 + n + size)) ≡ true
writes_accepted n size small fits = grind (arith, nat_tests)

module _ {form : Form} {r : Request} {service : ℕ} {body : List ℕ}
    (means : IsRequestBodyIn form r service body) where
  body_size : length body ≡ 1 + form_number form + length (written_octets r)
  body_size = grind (arith, common_steps)

  pub body_fits : length body ≤ 235
  body_fits = grind (arith, common_steps)

  pub request_in-body : request_in service body ≡ r
  request_in-body = grind (arith, nat_tests, common_steps)

-- the total length of a request's text is one that its service has
accepts_size : (form : Form) (r : Request) (service : ℕ) (body : List ℕ)
    → IsRequestBodyIn form r service body → request_accepts service (total_of (length body)) ≡ true
accepts_size Index (Read place) service body b = rw (b.code, b.parts) refl
accepts_size IndexSub (Read place) service body b = rw (b.code, b.parts) refl
accepts_size WideIndexSub (Read place) service body b = rw (b.code, b.parts) refl
accepts_size form (Write place octets) service body b =
    rw (b.code, body_size b)
    (writes_accepted (form_number form) (length octets.items) (grind arith) b.fits)

pub requests : AreTexts IsRequestText (isdu_fault request_accepts)
requests = record {
  holds = λ r text rest t. total_at-frame t.1.frame (body_fits t.1.means) rest;
  passes = λ r text rest t. isdu_fault-frame t.1.frame (body_fits t.1.means) rest request_accepts
      (accepts_size t.0 r t.1.service t.1.body t.1.means);
  one = λ q r text s t.
      let same = one_frame s.1.frame t.1.frame in
      sym (request_in-body s.1.means) ∙ ap₂ request_in same.0 same.1 ∙ request_in-body t.1.means;
}

-- what `put_body` needs of a write in the widest form
pub wide_write : {T : Type 0} (place : Place) (service : ℕ) (body : List ℕ) (result : Option T)
    (now : Request) → service ≡ 3 → 3 ≤ length body → Holds WideIndexSub place
    → index_part WideIndexSub place ≡ get_or body 0 0 ∷ get_or body 1 0 ∷ get_or body 2 0 ∷ []
    → OnSome result (now ≡ Write place (record { items = take (length body - 3) (drop 3 body) }))
    → is_some result ≡ nat_le (length (take (length body - 3) (drop 3 body))) 232
    → OnSome result (IsRequestBody now service body)
wide_write place service body None now code long holds says value fits = value
wide_write place service body (Some u) now code long holds says value fits =
    rw value (
      WideIndexSub,
      record {
        holds = holds;
        fits = grind (arith, nat_tests);
        code = code;
        parts = grind (arith, common_steps);
      },
    )
