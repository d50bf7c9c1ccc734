-- An upload, whatever comes of its requests: the law that sets are whole.
-- For the clauses of `laws::sets_are_whole`, `laws::restored_sets_are_taken`,
--     `laws::unsaved_sets_are_whole` and 7 more.
use Rattle.std.proofs.Common.{◌≡◌, ◌∷◌, ◌++◌, ◌∙◌, [], ℕ, List, Bool, true, false, refl, sym, ap, arith, length, subst, append_assoc, length-append}
use Rattle.std.specs.Prelude.{not, map, bytes_eq, if◌then◌else◌}
use Rattle.std.proofs.lemmas.List.{append-nil}
use Rattle.std.proofs.lemmas.Slice.Eq.{bytes_eq-Decides}
use Rattle.std.proofs.lemmas.Grind.{common_steps}
use Rattle.iol_isdu.specs.declared.values.Place.{Place}
use Rattle.iol_isdu.specs.declared.values.Request.{Request}
use Rattle.iol_isdu.specs.declared.values.Request.TheVariants.{Read as ReadRequest}
use Rattle.iol_isdu.specs.declared.values.Answer.TheVariants.{Read, Written, Refused}
use Rattle.iol_book.specs.declared.entries.Outcome.{Outcome}
use Rattle.iol_book.specs.declared.entries.Outcome.TheVariants.{Done, Unknown, Withdrawn, NoIsdu}
use Rattle.iol_storage.specs.declared.upload.UploadResult.{UploadResult}
use Rattle.iol_storage.specs.declared.upload.UploadResult.TheVariants.{Whole, Changed, TooLarge, CutOff, BadList}
use Rattle.iol_storage.specs.declared.upload.UploadStage.{UploadStage}
use Rattle.iol_storage.specs.declared.upload.UploadStage.TheVariants.{Starting, Listing, Reading, Breaking, Over}
use Rattle.iol_storage.specs.declared.upload.Upload.{Upload}
use Rattle.iol_storage.specs.Objects.{is_command_place, fits_behind}
use Rattle.iol_storage.specs.Uploads.{storage_place, storage_command, is_list, names_more, place_named, place_read, upload_after, behind_other}
use Rattle.iol_storage.specs.Laws.{upload_behind_all, upload_asked, read_done, AreNamed, IsWholeSet, SetsAreWhole}

abbrev Values : Type 0
Values = List (Place × List ℕ)

abbrev is_whole : UploadResult → Bool
is_whole Whole = true
is_whole other = false

-- a stage from which no upload ends as Whole
abbrev has_failed : UploadStage → Bool
has_failed (Breaking result) = not (is_whole result)
has_failed (Over result) = not (is_whole result)
has_failed other = false

abbrev up : List ℕ → List ℕ → UploadStage → Upload
up checksum list stage =
    record { checksum = checksum; list = record { items = list }; stage = stage }

-- any outcome but the one that a stage waits for
other-fails : (stage : UploadStage) (place : Place) (o : Outcome) → has_failed stage ≡ false
    → has_failed (behind_other stage place o) ≡ true
other-fails Starting place (Done (Refused error additional)) is = refl
other-fails Listing place (Done (Refused error additional)) is = refl
other-fails Reading place (Done (Refused error additional)) is = refl
other-fails (Breaking result) place (Done (Refused error additional)) is = refl
other-fails (Over result) place (Done (Refused error additional)) is = refl
other-fails stage place (Done (Read octets)) is = refl
other-fails stage place (Done Written) is = refl
other-fails stage place (Unknown cause) is = grind (arith, common_steps)
other-fails stage place Withdrawn is = refl
other-fails stage place NoIsdu is = refl

module _ (checksum : List ℕ) where
  -- an upload that is over asks nothing more
  over-stays : (list : List ℕ) (objects : Values) (result : UploadResult) (os : List Outcome)
      → (upload_behind_all (up checksum list (Over result)) objects os
      ≡ (up checksum list (Over result), objects))
      × (upload_asked (up checksum list (Over result)) objects os ≡ [])
  over-stays list objects result [] = (refl, refl)
  over-stays list objects result (o ∷ os) = over-stays list objects result os

  failed-stays : (list : List ℕ) (stage : UploadStage) (objects : Values) (os : List Outcome)
      → has_failed stage ≡ true
      → has_failed (upload_behind_all (up checksum list stage) objects os).0.stage ≡ true
  failed-stays list stage objects [] failed = failed
  failed-stays list Starting objects (o ∷ os) failed = absurd (cc)
  failed-stays list Listing objects (o ∷ os) failed = absurd (cc)
  failed-stays list Reading objects (o ∷ os) failed = absurd (cc)
  failed-stays list (Breaking result) objects (o ∷ os) failed =
      ap (λ e. has_failed e.0.stage) (over-stays list objects result os).0 ∙ failed
  failed-stays list (Over result) objects (o ∷ os) failed =
      ap (λ e. has_failed e.0.stage) (over-stays list objects result os).0 ∙ failed

  -- so it doesn't end as Whole
  never : (list : List ℕ) (stage : UploadStage) (objects : Values) (os : List Outcome)
      → has_failed stage ≡ true
      → (upload_behind_all (up checksum list stage) objects os).0.stage ≡ Over Whole → ⊥
  never list stage objects os failed done =
      let wrong : false ≡ true =
      sym (ap has_failed done) ∙ failed-stays list stage objects os failed in
      absurd (cc)

  -- what is read from a count on, where it ends as Whole
  record Rest (list : List ℕ) (objects : Values) (os : List Outcome) : Type 0 where
    more : Values
    are : (upload_behind_all (up checksum list Reading) objects os).1 ≡ objects ++ more
    named : AreNamed list (length objects) more
    asked : upload_asked (up checksum list Reading) objects os
        ≡ map read_done more ++ read_done (storage_place 4, checksum) ∷ []

  abbrev read_of : List ℕ → Outcome
  read_of octets = Done (Read (record { items = octets }))

  abbrev after : List ℕ → Values → List ℕ → Upload × Values
  after list objects octets = upload_after (up checksum list Reading) objects (read_of octets)

  abbrev asked_behind : Upload × Values → List Outcome → List (Request × Outcome)
  asked_behind state os = upload_asked state.0 state.1 os

  -- the last one, the checksum
  rest-end : (list octets : List ℕ) (objects : Values) (os : List Outcome) (same : Bool)
      → names_more list (length objects) ≡ false → bytes_eq octets checksum ≡ same
      → (upload_behind_all (up checksum list Reading) objects (read_of octets ∷ os)).0.stage
      ≡ Over Whole
      → Rest list objects (read_of octets ∷ os)
  rest-end list octets objects os true names same done =
      let to : after list objects octets ≡ (up checksum list (Over Whole), objects) =
      rw (names, same) refl in
      let stays = over-stays list objects Whole os in
      let is : octets ≡ checksum = (bytes_eq-Decides octets checksum).0 same in
      record {
        more = [];
        are = ap (λ s. (upload_behind_all s.0 s.1 os).1) to
            ∙ (ap (λ s. s.1) stays.0 ∙ sym (append-nil objects));
        named = names;
        asked = ap (λ b. (
          ReadRequest (if b then place_named list (length objects)
              else storage_place 4),
          read_of octets,
        ) ∷ asked_behind (after list objects octets) os) names
            ∙ (ap (λ s. (ReadRequest (storage_place 4), read_of octets) ∷ asked_behind s os) to
            ∙ (ap (λ asked. (ReadRequest (storage_place 4), read_of octets) ∷ asked) stays.1
            ∙ ap (λ o. read_done (storage_place 4, o) ∷ []) is));
      }
  rest-end list octets objects os false names same done =
      let to : after list objects octets ≡ (up checksum list (Breaking Changed), objects) =
      rw (names, same) refl in
      absurd (never list (Breaking Changed) objects os refl
      (subst (λ s. (upload_behind_all s.0 s.1 os).0.stage ≡ Over Whole) to done))

  rest-more : (list octets : List ℕ) (objects : Values) (os : List Outcome)
      (names owned room : Bool) → names_more list (length objects) ≡ names
      → is_command_place (place_named list (length objects)) ≡ owned
      → fits_behind objects octets ≡ room
      → ((more : Values) → (upload_behind_all (up checksum list Reading) more os).0.stage
      ≡ Over Whole → Rest list more os)
      → (upload_behind_all (up checksum list Reading) objects (read_of octets ∷ os)).0.stage
      ≡ Over Whole
      → Rest list objects (read_of octets ∷ os)
  rest-more list octets objects os true true room names owned fits next done =
      let to : after list objects octets ≡ (up checksum list (Breaking BadList), objects) =
      rw (names, owned) refl in
      absurd (never list (Breaking BadList) objects os refl
      (subst (λ s. (upload_behind_all s.0 s.1 os).0.stage ≡ Over Whole) to done))
  rest-more list octets objects os true false true names owned room next done =
      let object : Place × List ℕ = (place_named list (length objects), octets) in
      let to : after list objects octets ≡ (up checksum list Reading, objects ++ object ∷ []) =
      rw (names, owned, room) refl in
      let r = next (objects ++ object ∷ [])
      (subst (λ s. (upload_behind_all s.0 s.1 os).0.stage ≡ Over Whole) to done) in
      record {
        more = object ∷ r.more;
        are = ap (λ s. (upload_behind_all s.0 s.1 os).1) to
            ∙ (r.are ∙ append_assoc objects (object ∷ []) r.more);
        named = (
          names,
          refl,
          subst (λ n. AreNamed list n r.more)
              (length-append objects (object ∷ [])) r.named,
        );
        asked = ap (λ b. (
          ReadRequest (if b then place_named list (length objects)
              else storage_place 4),
          read_of octets,
        ) ∷ asked_behind (after list objects octets) os) names
            ∙ (ap (λ s. read_done object ∷ asked_behind s os) to
            ∙ ap (λ asked. read_done object ∷ asked) r.asked);
      }
  rest-more list octets objects os true false false names owned room next done =
      let to : after list objects octets ≡ (up checksum list (Breaking TooLarge), objects) =
      rw (names, owned, room) refl in
      absurd (never list (Breaking TooLarge) objects os refl
      (subst (λ s. (upload_behind_all s.0 s.1 os).0.stage ≡ Over Whole) to done))
  rest-more list octets objects os false owned room names place is next done =
      rest-end list octets objects os (bytes_eq octets checksum) names refl done

  rest : (list : List ℕ) (objects : Values) (os : List Outcome)
      → (upload_behind_all (up checksum list Reading) objects os).0.stage ≡ Over Whole
      → Rest list objects os
  rest list objects [] done = absurd (cc)
  rest list objects (Done (Read octets) ∷ os) done =
      rest-more list octets.items objects os (names_more list (length objects))
      (is_command_place (place_named list (length objects)))
      (fits_behind objects octets.items) refl refl refl (λ more d. rest list more os d) done
  rest list objects (Done Written ∷ os) done =
      absurd (never list (Breaking CutOff) objects os refl done)
  rest list objects (Done (Refused error additional) ∷ os) done =
      absurd (never list _ objects os refl done)
  rest list objects (Unknown cause ∷ os) done = absurd (never list
      (behind_other Reading (place_read list (length objects)) (Unknown cause)) objects os
      (other-fails Reading (place_read list (length objects)) (Unknown cause) refl) done)
  rest list objects (Withdrawn ∷ os) done = absurd (never list _ objects os refl done)
  rest list objects (NoIsdu ∷ os) done = absurd (never list _ objects os refl done)

  whole-list : (octets : List ℕ) (objects : Values) (os : List Outcome) (is : Bool)
      → is_list octets ≡ is
      → (upload_behind_all (up checksum [] Listing) objects (read_of octets ∷ os)).0.stage
      ≡ Over Whole
      → IsWholeSet checksum
      (upload_behind_all (up checksum [] Listing) objects (read_of octets ∷ os)).1
      ((storage_command 1, Done Written)
      ∷ upload_asked (up checksum [] Listing) objects (read_of octets ∷ os))
  whole-list octets objects os true is done =
      let to : upload_after (up checksum [] Listing) objects (read_of octets)
      ≡ (up checksum octets Reading, []) = rw is refl in
      let r = rest octets [] os
      (subst (λ s. (upload_behind_all s.0 s.1 os).0.stage ≡ Over Whole) to done) in
      let values = ap (λ s. (upload_behind_all s.0 s.1 os).1) to ∙ r.are in
      record {
        list = octets;
        is_one = is;
        named = subst (AreNamed octets 0) (sym values) r.named;
        is = ap (λ asked. (storage_command 1, Done Written)
            ∷ (read_done (storage_place 5, octets) ∷ asked))
            (ap (λ s. asked_behind s os) to ∙ (r.asked
            ∙ ap (λ v. map read_done v ++ read_done (storage_place 4, checksum) ∷ [])
            (sym values)));
      }
  whole-list octets objects os false is done =
      let to : upload_after (up checksum [] Listing) objects (read_of octets)
      ≡ (up checksum [] (Breaking BadList), objects) = rw is refl in
      absurd (never [] (Breaking BadList) objects os refl
      (subst (λ s. (upload_behind_all s.0 s.1 os).0.stage ≡ Over Whole) to done))

  listed : (objects : Values) (os : List Outcome)
      → (upload_behind_all (up checksum [] Listing) objects os).0.stage ≡ Over Whole
      → IsWholeSet checksum (upload_behind_all (up checksum [] Listing) objects os).1
      ((storage_command 1, Done Written) ∷ upload_asked (up checksum [] Listing) objects os)
  listed objects [] done = absurd (cc)
  listed objects (Done (Read octets) ∷ os) done =
      whole-list octets.items objects os (is_list octets.items) refl done
  listed objects (Done Written ∷ os) done =
      absurd (never [] (Breaking CutOff) objects os refl done)
  listed objects (Done (Refused error additional) ∷ os) done =
      absurd (never [] _ objects os refl done)
  listed objects (Unknown cause ∷ os) done = absurd (never []
      (behind_other Listing (storage_place 5) (Unknown cause)) objects os
      (other-fails Listing (storage_place 5) (Unknown cause) refl) done)
  listed objects (Withdrawn ∷ os) done = absurd (never [] _ objects os refl done)
  listed objects (NoIsdu ∷ os) done = absurd (never [] _ objects os refl done)

pub sets-whole : SetsAreWhole
sets-whole checksum objects [] done = absurd (cc)
sets-whole checksum objects (Done Written ∷ os) done = listed checksum objects os done
sets-whole checksum objects (Done (Read octets) ∷ os) done =
    absurd (never checksum [] (Breaking CutOff) objects os refl done)
sets-whole checksum objects (Done (Refused error additional) ∷ os) done =
    absurd (never checksum [] _ objects os refl done)
sets-whole checksum objects (Unknown cause ∷ os) done = absurd (never checksum []
    (behind_other Starting (storage_place 1) (Unknown cause)) objects os
    (other-fails Starting (storage_place 1) (Unknown cause) refl) done)
sets-whole checksum objects (Withdrawn ∷ os) done =
    absurd (never checksum [] _ objects os refl done)
sets-whole checksum objects (NoIsdu ∷ os) done =
    absurd (never checksum [] _ objects os refl done)
