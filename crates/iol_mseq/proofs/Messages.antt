-- What the definitions of messages say of each other: octets spell one reply, `reply_back`.
-- For the clauses of `parts::push_sealed`, `reply::view_reply` and
--     `laws::what_is_written_is_read`.
use Rattle.std.proofs.Common.{◌≡◌, ℕ, ◌+◌, ◌%◌, ◌<◌, Bool, List, [], ◌∷◌, ◌++◌, length, get_or, set, take, drop, nat_le, refl, ap, arith}
use Rattle.std.proofs.lemmas.Bool.Decides.{nat_tests}
use Rattle.std.proofs.lemmas.Grind.{common_steps}
use Rattle.iol_mseq.specs.Shape.{Shape}
use Rattle.iol_mseq.specs.declared.reply.Reply.{Reply}
use Rattle.iol_mseq.specs.Replies.{SpellsReply, answered_od, reply_of}
use Rattle.iol_octets.specs.CheckOctets.{status_bits}

-- a number added to the last element
pub put_last : (front : List ℕ) (last more : ℕ) (xs : List ℕ) (place : ℕ)
    → xs ≡ front ++ last ∷ [] → place ≡ length front
    → set xs place (get_or xs place 0 + more) ≡ front ++ (last + more) ∷ []
put_last [] last more xs place e l = rw (e, l) refl
put_last (y ∷ ys) last more xs place e l =
    rw (e, l) (ap (λ zs. y ∷ zs) (put_last ys last more (ys ++ last ∷ []) (length ys) refl refl))

-- the flags of a last octet
status_read : (e i : Bool) (s : ℕ) → s < 64 → (nat_le 128 (status_bits e i + s) ≡ e)
    × (nat_le 64 ((status_bits e i + s) % 128) ≡ i)
status_read e i s small = grind (arith, nat_tests, common_steps)

pub reply_back : (layout : Shape) (read : Bool) (reply : Reply) (octets : List ℕ)
    → SpellsReply layout read reply octets → reply_of layout read octets ≡ reply
reply_back layout read reply octets s =
    let last : ℕ = status_bits reply.event reply.invalid + s.parts.0 in
    let od : take (answered_od layout read) octets ≡ reply.od.items = grind (arith, common_steps) in
    let input : take layout.pd_in (drop (answered_od layout read) octets) ≡ reply.input.items =
    grind (arith, common_steps) in
    let end : get_or octets (answered_od layout read + layout.pd_in) 0 ≡ last =
    grind (arith, common_steps) in
    let flags = status_read reply.event reply.invalid s.parts.0 s.parts.1 in
    rw (od, input, end, flags.0, flags.1) refl
