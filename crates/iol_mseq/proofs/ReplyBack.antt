-- What is written of a reply is read back as it: a law.
-- For the clauses of `laws::what_is_written_is_read`.
use Rattle.std.proofs.Common.{◌≡◌, ℕ, ◌+◌, ◌-◌, ◌%◌, Bool, List, [], ◌∷◌, ◌++◌, length, refl, ap, subst, length-append, arith, Some}
use Rattle.std.specs.Prelude.{IsTrue}
use Rattle.std.proofs.Math.Seq.{get_or-append_seam}
use Rattle.std.proofs.lemmas.Bool.{eq-eqb}
use Rattle.std.proofs.lemmas.Grind.{common_steps}
use Rattle.iol_octets.specs.Checksum.{checksum_of, has_checksum, ChecksumsFit}
use Rattle.iol_octets.specs.CheckOctets.{status_bits}
use Rattle.iol_mseq.specs.Shape.{Shape}
use Rattle.iol_mseq.specs.Replies.{HasReplyParts, SpellsReply}
use Rattle.iol_mseq.specs.ReadBack.{ReplyIsReadBack}
use Rattle.iol_mseq.specs.Texts.{closed_by, reply_text}
use Rattle.iol_mseq.specs.declared.reply.Reply.{Reply}
use Rattle.iol_mseq.proofs.Messages.{put_last, reply_back}

bits_clear : (e i : Bool) → status_bits e i % 64 ≡ 0
bits_clear e i = grind (arith, common_steps)

module _ (sums : ChecksumsFit) where
  -- octets with their checksum put behind them hold it
  checked : (xs : List ℕ) (bits : ℕ) → bits % 64 ≡ 0
      → IsTrue (has_checksum (length xs) (closed_by xs bits))
  checked xs bits clear =
      let open_octets : List ℕ = xs ++ bits ∷ [] in
      subst (λ octets. IsTrue (has_checksum (length xs) octets))
      (put_last xs bits (checksum_of open_octets) open_octets (length xs) refl refl)
      ((sums open_octets).1 (length xs) (omega (arith, length-append xs (bits ∷ [])))
      (rw (get_or-append_seam xs bits [] 0) clear))

  spells_text : (layout : Shape) (read : Bool) (reply : Reply) → HasReplyParts layout read reply
      → SpellsReply layout read reply (reply_text reply)
  spells_text layout read reply sizes =
      let xs : List ℕ = reply.od.items ++ reply.input.items in
      let bits : ℕ = status_bits reply.event reply.invalid in
      let long : length (reply_text reply) ≡ length xs + 1 = length-append xs _ in
      let place : length (reply_text reply) - 1 ≡ length xs = omega arith in
      record {
        sizes = sizes;
        parts = (checksum_of (xs ++ bits ∷ []), (sums (xs ++ bits ∷ [])).0, refl);
        good = record {
          length = eq-eqb _ _ (omega (arith, length-append reply.od.items reply.input.items));
          checksum = rw place (checked xs bits (bits_clear reply.event reply.invalid));
        };
      }

  pub reply_is_read_back : ReplyIsReadBack
  reply_is_read_back layout read reply sizes =
      let s = spells_text layout read reply sizes in
      rw (s.good.length, s.good.checksum) (ap Some (reply_back layout read reply _ s))
