-- Owners that go on: what they had stays, and those that have no more answers.
-- For the clauses of `laws::denied_requests_stay_out`, `laws::each_done_has_its_pair`,
--     `laws::late_requests_end` and 10 more.
use Rattle.std.proofs.Common.{◌≡◌, ◌⊎◌, ◌∷◌, ◌++◌, [], List, Bool, false, Option, Some, None, append_assoc, refl, ap, sym, ◌∙◌, subst, arith, inl, inr, drop}
use Rattle.std.proofs.lemmas.Grind.{common_steps}
use Rattle.iol_isdu.specs.declared.values.Request.{Request}
use Rattle.iol_book.specs.declared.entries.Ticket.{Ticket}
use Rattle.iol_book.specs.declared.entries.Entry.{Entry}
use Rattle.iol_book.specs.declared.entries.Outcome.{Outcome}
use Rattle.iol_book.specs.declared.entries.Outcome.TheVariants as outcome
use Rattle.iol_book.specs.BookModel.{leaves_unsure}
use Rattle.iol_app.specs.Abstract.Session.{Job, Session}
use Rattle.iol_port.specs.Owners.{Owner, Owners, all, IsOneOf, HasEnded}
use Rattle.iol_port.specs.Sound.{not_under_way, LastTakenIsOpen, LastIsOpen, IsOutcome}
use Rattle.iol_port.specs.CarriesOut.{GrewBy, OwnerGoesOn, LastGoesOn, GoOn}

-- Owners that go on

goes_on_itself : {x : Owner} → OwnerGoesOn x x
goes_on_itself = record {
  ticket_is = refl;
  request_is = refl;
  ends = λ out is. is;
  more = [];
  answers_are = refl;
}

goes_on_then : {x y z : Owner} → OwnerGoesOn x y → OwnerGoesOn y z → OwnerGoesOn x z
goes_on_then {x} one two = record {
  ticket_is = two.ticket_is ∙ one.ticket_is;
  request_is = two.request_is ∙ one.request_is;
  ends = λ out is. two.ends out (one.ends out is);
  more = two.more ++ one.more;
  answers_are = two.answers_are ∙ (ap (λ answers. two.more ++ answers) one.answers_are
      ∙ sym (append_assoc two.more one.more x.answers));
}

last_itself : (xs : List Owner) → LastGoesOn xs xs
last_itself [] = tt
last_itself (x ∷ xs) = (goes_on_itself, refl)

-- with these taken since
pub go_on_behind : (more xs : List Owner) → GoOn xs (more ++ xs)
go_on_behind more xs =
    record { more = more; others = xs; owners_are = refl; last = last_itself xs }

pub go_on_itself : {xs : List Owner} → GoOn xs xs
go_on_itself {xs} = go_on_behind [] xs

-- the first goes on as another
pub go_on_first : {x y : Owner} {zs : List Owner} → OwnerGoesOn x y → GoOn (x ∷ zs) (y ∷ zs)
go_on_first {y = y} {zs = zs} goes =
    record { more = []; others = y ∷ zs; owners_are = refl; last = (goes, refl) }

pub go_on_then : {xs ys zs : List Owner} → GoOn xs ys → GoOn ys zs → GoOn xs zs
go_on_then {xs} {ys} {zs} one two =
    by one.more one.others two.others two.owners_are one.last (rw one.owners_are at two.last)
  where
    by : (more others late : List Owner) → zs ≡ two.more ++ late → LastGoesOn xs others
        → LastGoesOn (more ++ others) late → GoOn xs zs
    by [] others late are first then =
        record {
          more = two.more;
          others = late;
          owners_are = are;
          last = both xs others late
              first then;
        }
      where
        both : (xs ys zs : List Owner) → LastGoesOn xs ys → LastGoesOn ys zs → LastGoesOn xs zs
        both [] [] [] first then = tt
        both (x ∷ xs) (y ∷ ys) (z ∷ zs) first then =
            (goes_on_then first.0 then.0, then.1 ∙ first.1)
        both [] (y ∷ ys) zs first then = absurd first
        both (x ∷ xs) [] zs first then = absurd first
        both [] [] (z ∷ zs) first then = absurd then
        both (x ∷ xs) (y ∷ ys) [] first then = absurd then
    by (w ∷ more) others (v ∷ late) are first then = record {
      more = two.more ++ v ∷ more;
      others = others;
      owners_are = are ∙ (ap (λ behind. two.more ++ v ∷ behind) then.1
          ∙ sym (append_assoc two.more (v ∷ more) others));
      last = first;
    }
    by (w ∷ more) others [] are first then = absurd then

one_behind : (x : Owner) (more xs : List Owner) → IsOneOf x xs → IsOneOf x (more ++ xs)
one_behind x [] xs i = i
one_behind x (y ∷ more) xs i = inr (one_behind x more xs i)

pub go_on_each : {xs ys : List Owner} → GoOn xs ys → (x : Owner) → IsOneOf x xs
    → (y : Owner) × IsOneOf y ys × OwnerGoesOn x y
go_on_each {xs} goes x i = rw goes.owners_are (
    let (y, j, one) = by xs goes.others goes.last i in
    (y, one_behind y goes.more goes.others j, one))
  where
    by : (xs others : List Owner) → LastGoesOn xs others → IsOneOf x xs
        → (y : Owner) × IsOneOf y others × OwnerGoesOn x y
    by (z ∷ xs) (y ∷ others) last (inl is) = (y, inl refl, subst (λ w. OwnerGoesOn w y) is last.0)
    by (z ∷ xs) (y ∷ others) last (inr i) = (x, inr (rw last.1 i), goes_on_itself)
    by [] others last i = absurd i
    by (z ∷ xs) [] last i = absurd last

-- how a request ended, it has ended from then on
ended_on : {xs ys : List Owner} → GoOn xs ys → (t : Ticket) (out : Outcome)
    → HasEnded xs t out → HasEnded ys t out
ended_on goes t out (x, i, same, is) =
    let (y, j, one) = go_on_each goes x i in (y, j, one.ticket_is ∙ same, one.ends out is)

pub outcome_on : (isdu : Bool) {xs ys : List Owner} → GoOn xs ys → (t : Ticket)
    (out : Outcome) → IsOutcome isdu xs t out → IsOutcome isdu ys t out
outcome_on isdu goes t (outcome.Done a) is = ended_on goes t (outcome.Done a) is
outcome_on isdu goes t (outcome.Unknown cause) is = ended_on goes t (outcome.Unknown cause) is
outcome_on isdu goes t _ is = is

-- The owners that have no more answers: all but that of the request under way, or of the late one

abbrev closed_by : Option Job → Option Request → Owners → List Owner
closed_by None None l = all l
closed_by job late l = drop 1 l.current ++ l.archived

abbrev pub closed : Session → Owners → List Owner
closed s l = closed_by s.job s.late l

pub closed_of : (s : Session) (l : Owners) (x : Owner) → IsOneOf x (closed s l)
    → IsOneOf x (all l)
closed_of s l x i = by s.job s.late l.current i
  where
    by : (job : Option Job) (late : Option Request) (xs : List Owner)
        → IsOneOf x (closed_by job late (record l { current = xs })) → IsOneOf x (xs ++ l.archived)
    by None None xs i = i
    by (Some job) late [] i = i
    by (Some job) late (y ∷ xs) i = inr i
    by None (Some q) [] i = i
    by None (Some q) (y ∷ xs) i = inr i

-- whatever drains handed out
pub closed_same : (job : Option Job) (late : Option Request) (l : Owners) (es : List Entry)
    (z : Owner) → IsOneOf z (closed_by job late l)
    → IsOneOf z (closed_by job late (record l { drained = es }))
closed_same None None l es z i = i
closed_same _ _ l es z i = i

-- one that ended is closed, unless it is late
closed_has : (repeats : Request → Bool) (job : Option Job) (late : Option Request)
    (taken : Option (Ticket × Request)) (l : Owners) (xs : List Owner)
    → LastTakenIsOpen repeats job late taken xs
    → (x : Owner) → IsOneOf x (xs ++ l.archived) → (out : Outcome)
    → x.taking.outcome ≡ Some out → (leaves_unsure out ≡ false) ⊎ (late ≡ None)
    → IsOneOf x (closed_by job late (record l { current = xs }))
closed_has repeats None None taken l xs opens x i out is sure = i
closed_has repeats (Some job) None taken l (y ∷ xs) opens x (inr i) out is sure = i
closed_has repeats (Some job) None taken l (y ∷ xs) opens x (inl same) out is sure =
    let none = ap (λ z. z.taking.outcome) same ∙ is in
    absurd (let never : None ≡ Some out = sym opens.none ∙ none in cc)
closed_has repeats None (Some q) taken l (y ∷ xs) opens x (inr i) out is sure = i
closed_has repeats None (Some q) taken l (y ∷ xs) opens x (inl same) out is (inl sure) =
    let cut : Some (outcome.Unknown opens.1.cause) ≡ Some out =
    sym opens.1.cut ∙ (ap (λ z. z.taking.outcome) same ∙ is) in
    let unsure = opens.1.unsure in absurd (grind (arith, common_steps))
closed_has repeats None (Some q) taken l (y ∷ xs) opens x (inl same) out is (inr none) = absurd (cc)
closed_has repeats None (Some q) taken l [] opens x i out is sure = absurd opens
closed_has repeats (Some job) (Some q) taken l xs opens x i out is sure = absurd opens
closed_has repeats (Some job) None taken l [] opens x i out is sure = absurd opens

-- whether of before or not
pub closed_in : (before : Option Request) (repeats : Request → Bool) (s : Session)
    (taken : Option (Ticket × Request)) (l : Owners)
    → LastIsOpen before repeats s.job s.late taken l.current l.archived
    → (x : Owner) → IsOneOf x (all l) → (out : Outcome)
    → x.taking.outcome ≡ Some out → (leaves_unsure out ≡ false) ⊎ (s.late ≡ None)
    → IsOneOf x (closed s l)
closed_in None repeats s taken l opens x i out is sure =
    closed_has repeats s.job s.late taken l l.current opens x i out is sure
closed_in (Some q) repeats s taken l opens x i out is sure =
    absurd (subst (λ xs. IsOneOf x xs) opens.3 i)

pub others_rest : (job : Option Job) (x : Owner) (xs : List Owner) (z : Owner) → IsOneOf z xs
    → IsOneOf z (not_under_way job (x ∷ xs))
others_rest None x xs z i = inr i
others_rest (Some job) x xs z i = i

pub others_all : (job : Option Job) (xs : List Owner) (z : Owner)
    → IsOneOf z (not_under_way job xs) → IsOneOf z xs
others_all None xs z i = i
others_all (Some job) [] z i = i
others_all (Some job) (x ∷ xs) z i = inr i

-- The request of before

-- the request of before is carried out, or comes no more
pub record BeforeEnds (l m : Owners) : Type 0 where
  pub none : m.late ≡ None
  pub grew : GrewBy l.late l.before m.before

-- or it stays late, if one was
abbrev pub BeforeGoes : Owners → Owners → Type 0
BeforeGoes l m = ((m.late ≡ l.late) × (m.before ≡ l.before)) ⊎ BeforeEnds l m

pub before_then : {l m n : Owners} → BeforeGoes l m → BeforeGoes m n → BeforeGoes l n
before_then (inl (late, before)) (inl (then, more)) = inl (then ∙ late, more ∙ before)
before_then (inl (late, before)) (inr e) =
    inr (record { none = e.none; grew = rw (late, before) at e.grew })
before_then (inr e) (inl (then, more)) =
    inr (record { none = then ∙ e.none; grew = rw more e.grew })
before_then {l} {m} {n} (inr e) (inr d) = by d.grew
  where
    by : GrewBy m.late m.before n.before → BeforeGoes l n
    by (inl same) = inr (record { none = d.none; grew = rw same e.grew })
    by (inr (q, a, late, grown)) = absurd (let never : None ≡ Some q = sym e.none ∙ late in cc)

-- the record of before grew by what was late of it, if anything
pub grew_by : {l m : Owners} → BeforeGoes l m → GrewBy l.late l.before m.before
grew_by (inl (late, before)) = inl before
grew_by (inr e) = e.grew

-- with none that is late it stays
pub before_stays : {l m : Owners} → BeforeGoes l m → l.late ≡ None
    → (m.late ≡ None) × (m.before ≡ l.before)
before_stays (inl (late, before)) none = (late ∙ none, before)
before_stays {l} {m} (inr e) none = by e.grew
  where
    by : GrewBy l.late l.before m.before → (m.late ≡ None) × (m.before ≡ l.before)
    by (inl same) = (e.none, same)
    by (inr (q, a, late, grown)) = absurd (let never : None ≡ Some q = sym none ∙ late in cc)
