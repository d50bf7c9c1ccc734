-- The examples are written by the rules: `some_are_written`, for the law
-- `what_is_written_is_split`.
-- For the clauses of `split_laws::what_is_written_is_split`.
use Rattle.std.proofs.Common.{◌≡◌, ℕ, ◌<◌, List, [], ◌∷◌, ◌++◌, length, arith, refl, ap, subst, inl, inr, length-append}
use Rattle.iol_octets.specs.Checksum.{checksum_of, six_bits_of, has_checksum}
use Rattle.iol_octets.specs.Control.{control_of}
use Rattle.iol_mseq.specs.Shape.{startup_shape}
use Rattle.iol_capture.specs.declared.message.Meaning.TheVariants.{Part}
use Rattle.iol_capture.specs.SplitterState.{Splitting, new_splitter}
use Rattle.iol_link.specs.declared.wire.Rate.TheVariants.{Com3}
use Rattle.iol_capture.specs.Written.{AreWritten, Means}
use Rattle.iol_capture.specs.SplitExample.{SomeAreWritten, some_capture, unshown_capture}

-- of a message of two octets no beginning has two
parts_of_two : (state : Splitting) (a b : ℕ) (begun rest : List ℕ)
    → a ∷ b ∷ [] ≡ begun ++ rest → 1 < length begun → 0 < length rest → Means state begun Part
parts_of_two state a b begun rest is some more =
    absurd (omega (arith, ap length is, length-append begun rest))

-- of one of three only its first two are one
parts_of_three : (state : Splitting) (a b c : ℕ) → Means state (a ∷ b ∷ []) Part
    → (begun rest : List ℕ) → a ∷ b ∷ c ∷ [] ≡ begun ++ rest → 1 < length begun
    → 0 < length rest → Means state begun Part
parts_of_three state a b c part (x ∷ y ∷ []) rest is some more =
    let same : a ∷ b ∷ [] ≡ x ∷ y ∷ [] = cc in
    subst (λ (begun : List ℕ). Means state begun Part) same part
parts_of_three state a b c part begun rest is some more =
    absurd (omega (arith, ap length is, length-append begun rest))

some_is_written : AreWritten (new_splitter Com3) some_capture
unfolding control_of has_checksum checksum_of six_bits_of
some_is_written = (
  omega arith,
  record {
    before = (
      inr (omega arith, refl),
      record { check = search arith; answer = tt; bad = tt },
      tt,
    );
    begins = inl (omega arith);
    tested = search arith;
  },
  (
    startup_shape,
    search (arith, parts_of_two),
    (
      startup_shape,
      record {
        speaks = tt;
        message = record {
          spoken = refl;
          whole = refl;
          parts = parts_of_three _ 0x20 0x36 0x9A
              (record { layout = startup_shape; spoken = refl; meant = refl });
          most = omega arith;
        };
        sent = search arith;
        reply = omega arith;
        most = omega arith;
        answer = tt;
      },
      tt,
    ),
  ),
)

unshown_is_written : AreWritten (new_splitter Com3) unshown_capture
unfolding control_of has_checksum checksum_of six_bits_of
unshown_is_written = (
  tt,
  record {
    before = (
      inr (omega arith, refl),
      record { check = search arith; answer = search arith; bad = refl },
      tt,
    );
    begins = inl (omega arith);
    tested = search arith;
  },
  tt,
)

pub some_are_written : SomeAreWritten
some_are_written = (some_is_written, unshown_is_written)
