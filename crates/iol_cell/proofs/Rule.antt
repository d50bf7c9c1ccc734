-- Each kind of step keeps the rule of a cell: the law `each_step_keeps_the_rule`, and each step in
-- `cell`. Begin at `each`.
-- For the clauses of `ImageSeat::load`, `ImageWriter::publish`, `cell::seats_of` and
--     `laws::each_step_keeps_the_rule`.
use Rattle.std.proofs.Common.{length, nat_lt, if◌then◌else◌, ◌≡◌, ◌≢◌, ℕ, true, false, Option, List, [], ◌∷◌, ◌++◌, set, ⊎_elim, refl, sym, ap, subst, ◌∙◌, append_assoc, append-nil}
use mathlib.Core.Option.{some}
use lib.ListN.{get_elem?}
use Rattle.atomic_table.proofs.Lists.{at_set, at_snoc, set_again}
use Rattle.iol_cell.specs.declared.steps.Sight.{Sight}
use Rattle.iol_cell.specs.Packing.{image_of}
use Rattle.iol_cell.specs.Published.{CellRule, StartsWith, last_image}
use Rattle.iol_cell.specs.Steps.{ReadsKeepTheRule, PublishesKeepTheRule, SplitsKeepTheRule, JoinsKeepTheRule, seat_beside, longer_list, joined_seat, spent_seat}

abbrev Images : Type 0
Images = List (Option (List ℕ))

pub last_image-append : (images : Images) (image : Option (List ℕ))
    → last_image (images ++ image ∷ []) ≡ image
last_image-append [] image = refl
last_image-append (first ∷ []) image = refl
last_image-append (first ∷ next ∷ rest) image = last_image-append (next ∷ rest) image

starts_with_itself : (images : Images) → StartsWith images images
starts_with_itself images = ([], sym (append-nil images))

StartsWith-append : (images first more : Images) → StartsWith images first
    → StartsWith (images ++ more) first
StartsWith-append images first more begins =
    (begins.0 ++ more, ap (λ (l : Images). l ++ more) begins.1 ∙ append_assoc first begins.0 more)

-- after one user's step, what holds of it as it is now and of each other one holds of all
each : (P : ℕ → Sight → Type 0) (users : List Sight) (user : ℕ) (new : Sight) → P user new
    → ((other : ℕ) (sight : Sight) → other ≢ user → get_elem? users other ≡ some sight
    → P other sight)
    → (other : ℕ) (sight : Sight) → get_elem? (set users user new) other ≡ some sight
    → P other sight
each P users user new now others other sight there = ⊎_elim
    (λ (t : (other ≡ user) × (new ≡ sight)). subst (P other) t.1
    (subst (λ n. P n new) (sym t.0) now))
    (λ (t : (other ≢ user) × (get_elem? users other ≡ some sight)). others other sight t.0 t.1)
    (at_set users user other new sight there)

still_one_writer : (users : List Sight) (user : ℕ) (old new : Sight)
    → get_elem? users user ≡ some old → new.writes ≡ old.writes → (words : List ℕ)
    → CellRule words users
    → (i j : ℕ) (a b : Sight) → get_elem? (set users user new) i ≡ some a
    → get_elem? (set users user new) j ≡ some b → a.writes ≡ true → b.writes ≡ true → i ≡ j
still_one_writer users user old new here role words rule i j a b at_i at_j a_writes b_writes =
    let was = each (λ other sight. (was : Sight) × (get_elem? users other ≡ some was)
    × (sight.writes ≡ was.writes)) users user new (old, here, role)
    (λ other sight apart was. (sight, was, refl)) in
    let was_a = was i a at_i in
    let was_b = was j b at_j in
    rule.one_writer i j was_a.0 was_b.0 was_a.1 was_b.1 (sym was_a.2 ∙ a_writes)
    (sym was_b.2 ∙ b_writes)

pub reads : ReadsKeepTheRule
reads user old words users rule here =
    let new : Sight = record { writes = old.writes; observed = rule.published } in (
      new,
      record {
        published = rule.published;
        shows = rule.shows;
        begins = each (λ other sight. StartsWith rule.published sight.observed) users user new
            (starts_with_itself rule.published) (λ other sight apart. rule.begins other sight);
        whole = each (λ other sight. sight.writes ≡ true → sight.observed ≡ rule.published)
            users user
            new (λ role. refl) (λ other sight apart. rule.whole other sight);
        one_writer = still_one_writer users user old new here refl words rule;
      },
      record { same_role = refl; later = rule.begins user old here; found = rule.shows },
    )

pub publishes : PublishesKeepTheRule
publishes user old after writes words users rule here =
    let image : Images = image_of after ∷ [] in
    let next : Images = rule.published ++ image in
    let new : Sight = record { writes = old.writes; observed = old.observed ++ image } in
    let all : new.observed ≡ next = ap (λ (l : Images). l ++ image)
    (rule.whole user old here writes) in (
      new,
      record {
        published = next;
        shows = sym (last_image-append rule.published (image_of after));
        begins = each (λ other sight. StartsWith next sight.observed) users user new
            (subst (StartsWith next) (sym all) (starts_with_itself next))
            (λ other sight apart was. StartsWith-append rule.published sight.observed image
            (rule.begins other sight was));
        whole = each (λ other sight. sight.writes ≡ true → sight.observed ≡ next) users user new
            (λ role. all)
            (λ other sight apart was role. absurd
            (apart (rule.one_writer other user sight old was here role writes)));
        one_writer = still_one_writer users user old new here refl words rule;
      },
      record { same_role = refl; appended = refl },
    )

-- without a publish the rule stays, if each that writes afterwards was there before
stays : (words : List ℕ) (users after : List Sight) (rule : CellRule words users)
    → ((i : ℕ) (sight : Sight) → get_elem? after i ≡ some sight
    → StartsWith rule.published sight.observed)
    → ((i : ℕ) (sight : Sight) → get_elem? after i ≡ some sight → sight.writes ≡ true
    → get_elem? users i ≡ some sight) → CellRule words after
stays words users after rule begins was = record {
  published = rule.published;
  shows = rule.shows;
  begins = begins;
  whole = λ i sight at role. rule.whole i sight (was i sight at role) role;
  one_writer = λ i j a b at_i at_j a_writes b_writes. rule.one_writer i j a b
      (was i a at_i a_writes) (was j b at_j b_writes) a_writes b_writes;
}

pub splits : SplitsKeepTheRule
splits user old words users rule here =
    let seat : Sight = seat_beside old in
    let back : (P : Sight → Type 0) → P seat → (other : ℕ) (sight : Sight)
    → (get_elem? users other ≡ some sight → P sight)
    → get_elem? (set users user old ++ seat ∷ []) other ≡ some sight → P sight =
    λ P now other sight was there. ⊎_elim
    (λ at. was (subst (λ (l : List Sight). get_elem? l other ≡ some sight)
    (set_again users user old here) at))
    (λ (same : seat ≡ sight). subst P same now)
    (at_snoc (set users user old) seat sight other there) in
    stays words users _ rule
    (λ other sight. back (λ s. StartsWith rule.published s.observed) (rule.begins user old here)
    other
    sight (rule.begins other sight))
    (λ other sight. back (λ s. s.writes ≡ true → get_elem? users other ≡ some s)
    (λ role. let bad : false ≡ true = role in cc) other sight (λ was role. was))

StartsWith-longer_list : (images one other : Images) → StartsWith images one
    → StartsWith images other → StartsWith images (longer_list one other)
StartsWith-longer_list images one other begins too =
    elim (nat_lt (length one) (length other)) as
    (λ t. StartsWith images (if t then other else one)) [ true ↦ too | false ↦ begins ]

pub joins : JoinsKeepTheRule
joins user other into from reader words users rule here apart there =
    let new : Sight = joined_seat into from in
    let once : List Sight = set users user new in
    -- what holds of both seats as they are now and of each user before holds of all
    let all : (P : ℕ → Sight → Type 0) → P user new → P other spent_seat
    → ((i : ℕ) (sight : Sight) → get_elem? users i ≡ some sight → P i sight)
    → (i : ℕ) (sight : Sight) → get_elem? (set once other spent_seat) i ≡ some sight → P i sight =
    λ P joined spent others. each P once other spent_seat spent (λ i sight not.
    each P users user new joined (λ n s far. others n s) i sight) in
    let was : get_elem? users other ≡ some from =
    each (λ i sight. i ≢ user → get_elem? users i ≡ some sight) users user new
    (λ not. absurd (not refl)) (λ i sight not at far. at) other from there apart in
    stays words users _ rule
    (all (λ i sight. StartsWith rule.published sight.observed)
    (StartsWith-longer_list rule.published into.observed from.observed
    (rule.begins user into here) (rule.begins other from was)) (rule.published, refl) rule.begins)
    (all (λ i sight. sight.writes ≡ true → get_elem? users i ≡ some sight)
    (λ role. let bad : false ≡ true = role in cc) (λ role. let bad : false ≡ true = role in cc)
    (λ i sight at role. at))
