-- Turns of a port over a clean wire, one after the other: requests that wait are served in order,
-- each in its number of turns.
-- For the clauses of `Port::run`.
use Rattle.std.proofs.Common.{◌≡◌, ◌⊎◌, inl, inr, ℕ, zero, suc, ◌+◌, ◌-◌, ◌<◌, ◌≤◌, Bool, true, false, cond, List, [], ◌∷◌, ◌++◌, length, append_assoc, refl, sym, ap, subst, ◌∙◌, Option, Some, take_all, take, get_or, replicate, arith}
use Rattle.std.specs.Prelude.{IsTrue, is_some, slice_get, drop, filter}
use Rattle.std.proofs.lemmas.Bool.{eq-eqb}
use Rattle.std.proofs.lemmas.Bool.Decides.{nat_tests}
use Rattle.std.proofs.lemmas.Grind.{common_steps}
use Rattle.std.proofs.lemmas.List.{take_more, length-append}
use Rattle.iol_page.specs.declared.page.Layouts.{Layouts}
use Rattle.iol_isdu.specs.declared.values.Request.{Request}
use Rattle.iol_isdu.specs.declared.values.Answer.{Answer}
use Rattle.iol_far.specs.declared.carried.Carried.{Carried}
use Rattle.iol_far.specs.Local.{has_room}
use Rattle.iol_far.specs.Record.{takes_more}
use Rattle.iol_far.specs.Level.{Quiet, IsLevelBefore, grown_by}
use Rattle.iol_link.specs.WireFacts.{WireFacts}
use Rattle.iol_mode.specs.Stands.{operate_link}
use Rattle.iol_book.specs.declared.entries.Ticket.{Ticket}
use Rattle.iol_book.specs.declared.entries.Outcome.TheVariants.{Done}
use Rattle.iol_book.specs.declared.entries.Serve.{Serve}
use Rattle.iol_book.specs.Replay.{same_ticket, without, others_without}
use Rattle.iol_book.specs.BookModel.{BookState, is_served, served_waiting, next_taken, book_after_take, book_after_post}
use Rattle.iol_book.proofs.LineLemmas.{find-first, found-served, unserved}
use Rattle.iol_app.specs.declared.event_work.EventRoom.TheVariants.{Left}
use Rattle.iol_port.specs.declared.call.Call.{Call}
use Rattle.iol_port.specs.declared.call.Call.TheVariants as call
use Rattle.iol_port.specs.View.{PortOver}
use Rattle.iol_port.specs.Turns.{RequestStage, Ended, turns_at, turns_needed}
use Rattle.iol_port.specs.Clean.{CleanLaws, IsAtStage, IsBetween, MayStart, MayServe, IsAfter, CleanTurn, takes_all, turns_between, record_of, kind_of_device, IsOnTime, IsOnItsWay, AreServed, CleanRuns, CleanServes}
use Rattle.iol_port.proofs.CleanStages.{segment_within}
use Rattle.iol_mode.specs.declared.configuration.Configuration.{Configuration}
use Rattle.iol_mode.specs.declared.configuration.Devices.{Devices}
use Rattle.iol_mode.specs.declared.configuration.Devices.TheVariants.{Own, Any}
use Rattle.iol_app.specs.Due.{may_follow}
use Rattle.iol_port.proofs.CleanSession.{calm_ready, level_between}
use Rattle.iol_far.specs.declared.kind.Kind.{Kind}

-- Room in the record

takes_first : (room : Option ℕ) (base : List Carried) (count : ℕ)
    → takes_all room base (suc count) ≡ true → takes_more room base ≡ true
takes_first room base count premise = grind (arith, nat_tests, common_steps)

takes_one : (room : Option ℕ) (base : List Carried) → takes_more room base ≡ true
    → takes_all room base 1 ≡ true
takes_one room base premise = grind (arith, nat_tests, common_steps)

takes_rest : (room : Option ℕ) (base : List Carried) (count : ℕ) (request : Request)
    (answer : Answer) → takes_all room base (suc count) ≡ true
    → takes_all room (grown_by base request answer) count ≡ true
takes_rest room base count request answer h =
    let pair : Carried = record { request = request; answer = answer } in
    let more : length (base ++ pair ∷ []) ≡ length base + 1 = length-append base (pair ∷ []) in
    grind (arith, nat_tests, common_steps, more)

-- Requests that wait in a book

-- none is taken, these are the first that are served, and the record has room for all of them
record Queue (room : Option ℕ) (base : List Carried) (book : BookState)
    (requests : List (Ticket × Request)) : Type 0 where
  free : is_some book.standing.taken ≡ false
  others : List (Ticket × Request)
  order : served_waiting book ≡ requests ++ others
  fits : takes_all room base (length requests) ≡ true

-- what heads those that are served is
first_served : (serve : Serve) (list : List (Ticket × Request)) (first : Ticket × Request)
    (rest : List (Ticket × Request)) → filter (λ w. is_served serve w.0) list ≡ first ∷ rest
    → is_served serve first.0 ≡ true
first_served serve list first rest premise = found-served serve list first
    (find-first (λ w. is_served serve w.0) list ∙ (rw premise refl))

-- of a list that has one left out, where the first that is served is
served_rest : (serve : Serve) (list : List (Ticket × Request)) (first : Ticket × Request)
    (rest : List (Ticket × Request)) → filter (λ w. is_served serve w.0) list ≡ first ∷ rest
    → filter (λ w. is_served serve w.0) (without first.0 list) ≡ rest
served_rest serve [] first rest premise = absurd (cc)
served_rest serve (w ∷ list) first rest premise =
    by (is_served serve w.0) refl (served_rest serve list first rest) premise
  where
    by : (b : Bool) → is_served serve w.0 ≡ b
        → (filter (λ w. is_served serve w.0) list ≡ first ∷ rest
        → filter (λ w. is_served serve w.0) (without first.0 list) ≡ rest)
        → cond b (w ∷ filter (λ w. is_served serve w.0) list)
        (filter (λ w. is_served serve w.0) list) ≡ first ∷ rest
        → filter (λ w. is_served serve w.0) (without first.0 (w ∷ list)) ≡ rest
    by true on later is =
        let head : w ≡ first = cc in
        let more : filter (λ w. is_served serve w.0) list ≡ rest = cc in
        rw (← head, eq-eqb w.0.0 w.0.0 refl) more
    by false off later is =
        let apart : same_ticket first.0 w.0 ≡ false =
        unserved serve first.0 w.0 (first_served serve list first rest is) off in
        rw (apart, off) (later is)

behind : (serve : Serve) (urgent waiting : List (Ticket × Request)) (first : Ticket × Request)
    (rest : List (Ticket × Request))
    → filter (λ w. is_served serve w.0) (urgent ++ waiting) ≡ first ∷ rest
    → filter (λ w. is_served serve w.0)
    (without first.0 urgent ++ others_without first.0 urgent waiting) ≡ rest
behind serve [] waiting first rest premise = served_rest serve waiting first rest premise
behind serve (u ∷ urgent) waiting first rest premise =
    by (is_served serve u.0) refl (behind serve urgent waiting first rest) premise
  where
    by : (b : Bool) → is_served serve u.0 ≡ b
        → (filter (λ w. is_served serve w.0) (urgent ++ waiting) ≡ first ∷ rest
        → filter (λ w. is_served serve w.0)
        (without first.0 urgent ++ others_without first.0 urgent waiting) ≡ rest)
        → cond b (u ∷ filter (λ w. is_served serve w.0) (urgent ++ waiting))
        (filter (λ w. is_served serve w.0) (urgent ++ waiting)) ≡ first ∷ rest
        → filter (λ w. is_served serve w.0)
        (without first.0 (u ∷ urgent) ++ others_without first.0 (u ∷ urgent) waiting) ≡ rest
    by true on later is =
        let head : u ≡ first = cc in
        let more : filter (λ w. is_served serve w.0) (urgent ++ waiting) ≡ rest = cc in
        rw (← head, eq-eqb u.0.0 u.0.0 refl) more
    by false off later is =
        let apart : same_ticket first.0 u.0 ≡ false =
        unserved serve first.0 u.0 (first_served serve (urgent ++ waiting) first rest is) off in
        rw (apart, off) (later is)

-- the book once the request that is next was taken, and has this answer
abbrev served : BookState → Ticket × Request → Answer → BookState
served book next answer = book_after_post (book_after_take book next) (Done answer)

queue_rest : {room : Option ℕ} {base : List Carried} {book : BookState}
    {first : Ticket × Request} {rest : List (Ticket × Request)} (answer : Answer)
    → Queue room base book (first ∷ rest)
    → Queue room (grown_by base first.1 answer) (served book first answer) rest
queue_rest {room = room} {base = base} {book = book} {first = first} {rest = rest} answer queue =
    record {
      free = refl;
      others = queue.others;
      order = behind book.serve book.standing.urgent book.standing.waiting first
          (rest ++ queue.others) queue.order;
      fits = takes_rest room base (length rest) first.1 answer queue.fits;
    }

headed : (list : List (Ticket × Request)) (first : Ticket × Request)
    → slice_get list 0 ≡ Some first → list ≡ first ∷ drop 1 list
headed list first premise = grind (arith, common_steps)

-- what is taken next heads those that are served, and none is taken
next_heads : (b : BookState) (first : Ticket × Request) → next_taken b ≡ Some first
    → (is_some b.standing.taken ≡ false) × (served_waiting b ≡ first ∷ drop 1 (served_waiting b))
next_heads b first premise = grind (arith, common_steps, headed (served_waiting b) first)

-- Calls

-- one call more than so many turns
snoc_turns : (calls : List Call) (c : Call) (n : ℕ) → calls ++ c ∷ [] ≡ replicate n call.Turn
    → (n ≡ suc (length calls)) × (calls ≡ replicate (length calls) call.Turn) × (c ≡ call.Turn)
snoc_turns [] c zero e = grind (arith, common_steps)
snoc_turns [] c (suc zero) e = grind (arith, common_steps)
snoc_turns [] c (suc (suc n)) e = grind (arith, common_steps)
snoc_turns (d ∷ calls) c zero e = grind (arith, common_steps)
snoc_turns (d ∷ calls) c (suc n) e = grind (arith, common_steps, snoc_turns calls c n)

-- Numbers of turns

none_left : {needed n : ℕ} → needed ≡ suc n → suc n - needed ≡ 0
none_left e = omega (arith, e)

one_more : {needed n : ℕ} → needed ≤ suc n → suc (suc n) - needed ≡ suc (suc n - needed)
one_more few = omega (arith, few)

-- Turns between two requests

none_behind : (devices : Devices) → turns_between devices [] ≡ 0
none_behind devices = grind (arith, common_steps)

-- where there is none, a request that waits may follow at once
between : (devices : Devices) (rest : List (Ticket × Request))
    → ((turns_between devices rest ≡ 0) × (1 ≤ length rest → may_follow devices false ≡ true))
    ⊎ ((turns_between devices rest ≡ 1) × (devices ≡ Any))
between Own rest = inl (refl, λ some. refl)
between Any [] = inl (refl, λ some. absurd (omega (arith, some)))
between Any (next ∷ rest) = inr (refl, refl)

module _ {W : Type 0} (facts : WireFacts W) where
  open facts use {honest, far}

  -- the wire is honest, the device's record has this room, and start-ups ask this
  pub record Steady (room : Option ℕ) (asks : Configuration) (now : PortOver W) : Type 0 where
    pub is_honest : IsTrue (honest now.wire)
    pub room_is : (far now.wire).room ≡ room
    pub asks_is : now.parts.core.session.configuration ≡ asks

  steady_more : {room : Option ℕ} {asks : Configuration} {mid next : PortOver W}
      → Steady room asks mid → CleanTurn facts mid next → Steady room asks next
  steady_more steady turn = grind (arith, common_steps)

  module _ (kind : Kind) (layouts : Layouts) (asks : Configuration) where
    abbrev needed : Request → Answer → ℕ
    needed request answer = turns_needed kind.hands_over layouts.run.od request answer

    -- with the turns between it and those behind it
    abbrev spent : Request → List (Ticket × Request) → Answer → ℕ
    spent request rest answer = needed request answer + turns_between asks.devices rest

    -- between requests: the next one may start, if there is one and the record has room
    pub record Idle (rest : List (Ticket × Request)) (base : List Carried) (book : BookState)
        (now : PortOver W) : Type 0 where
      pub kind_is : kind_of_device facts now ≡ kind
      pub record_is : record_of facts now ≡ base
      pub book_is : now.parts.book.state ≡ book
      pub may : 1 ≤ length rest → (ticket : Ticket) (request : Request)
          → next_taken now.parts.book.state ≡ Some (ticket, request)
          → IsTrue (has_room (far now.wire))
          → MayStart facts layouts ticket request now

    -- where the port stands after so many turns. Right behind a request IDLE 1 may come before
    -- those behind it
    abbrev Going : ℕ → List (Ticket × Request) → List Carried → BookState → PortOver W → Type 0
    Going zero requests base book now = Idle requests base book now
    Going (suc n) [] base book now = (more : List Carried) × (record_of facts now ≡ base ++ more)
    Going (suc n) (next ∷ rest) base book now =
        ((after : IsAfter facts kind layouts next.0 next.1 base book (suc n) now)
        × ((answer : Answer) → after.stage ≡ Ended answer → ⊥))
        ⊎ ((answer : Answer)
        × (((turns_between asks.devices rest ≡ 1) × (asks.devices ≡ Any)
        × (needed next.1 answer ≡ suc n)
        × IsBetween facts kind layouts (grown_by base next.1 answer)
        (served book next answer) false
        now)
        ⊎ ((spent next.1 rest answer ≤ suc n)
        × Going (suc n - spent next.1 rest answer) rest (grown_by base next.1 answer)
        (served book next answer) now)))

    -- a request has its answer
    between_at : {ticket : Ticket} {request : Request} {base : List Carried} {book : BookState}
        {answer : Answer} {now : PortOver W}
        → IsAtStage facts kind layouts ticket request base book (Ended answer) now
        → IsBetween facts kind layouts (grown_by base request answer)
        (served book (ticket, request) answer) false now
    between_at is = record {
      stood = is.at.stood;
      free = is.at.fits.0;
      idle_is = is.at.after;
      level = level_between facts is.at.stood (rw is.at.fits.3.1 refl);
      record_is = is.at.fits.1;
      book_is = is.book_is;
    }

    -- where a request may follow the next one may start
    idle_between : {rest : List (Ticket × Request)} {base : List Carried} {book : BookState}
        {idle : Bool} {now : PortOver W} → now.parts.core.session.configuration ≡ asks
        → (1 ≤ length rest → may_follow asks.devices idle ≡ true)
        → IsBetween facts kind layouts base book idle now → Idle rest base book now
    idle_between {now = now} asks_is follows is = record {
      kind_is = is.stood.kind_is;
      record_is = is.record_is;
      book_is = is.book_is;
      may = λ more next other is_next room. record {
        state_is = is.stood.state_is;
        is_honest = is.stood.is_honest;
        is_clean = is.stood.is_clean;
        ready = calm_ready now.parts.core.session Left is.stood.calm is.free
            (rw (asks_is, is.idle_is) (follows more));
        link = operate_link;
        operating = is.stood.operating;
        level = subst (λ (k : Kind). IsLevelBefore (far now.wire).page k layouts.run.od
            (far now.wire).carried operate_link Quiet (far now.wire)) (sym is.stood.kind_is)
            is.level;
        isdu = is.stood.isdu;
        isdu_is = is.stood.isdu_is;
        quiet = is.stood.quiet;
        room = room;
        next = is_next;
      };
    }

    -- a request after one more turn
    went : (n : ℕ) (next : Ticket × Request) (rest : List (Ticket × Request))
        (base : List Carried) (book : BookState) (now : PortOver W)
        → now.parts.core.session.configuration ≡ asks → (stage : RequestStage)
        → IsAtStage facts kind layouts next.0 next.1 base book stage now
        → turns_at kind.hands_over layouts.run.od next.1 stage ≡ suc n
        → Going (suc n) (next ∷ rest) base book now
    went n next rest base book now asks_is (Ended answer) is turns = inr (
      answer,
      elim (between asks.devices rest) [
        | inl h ↦
            let all : spent next.1 rest answer ≡ suc n = omega (arith, turns, h.0) in
            inr (omega (arith, all), rw (none_left all) (idle_between asks_is h.1 (between_at is)))
        | inr h ↦ inl (h.0, h.1, turns, between_at is)
      ],
    )
    went n next rest base book now asks_is stage is turns =
        inl (record { stage = stage; is_at = is; turns_are = turns }, λ answer e. cc)

    module _ {room : Option ℕ} {mid next : PortOver W} (steady : Steady room asks mid)
        (turn : CleanTurn facts mid next) where
      -- one turn more
      going_more : (n : ℕ) (requests : List (Ticket × Request)) (base : List Carried)
          (book : BookState) → Queue room base book requests → Going n requests base book mid
          → Going (suc n) requests base book next
      going_more zero [] base book queue idle =
          let grown = turn.grows steady.is_honest in
          (grown.0, grown.1 ∙ (rw idle.record_is refl))
      going_more (suc n) [] base book queue (more, is) =
          let grown = turn.grows steady.is_honest in
          (more ++ grown.0, grown.1 ∙ (rw (is, append_assoc) refl))
      going_more zero (first ∷ rest) base book queue idle =
          let some : has_room (far mid.wire) ≡ true =
          rw (steady.room_is, idle.record_is) (takes_first room base (length rest) queue.fits) in
          let is_next : next_taken mid.parts.book.state ≡ Some first =
          rw (idle.book_is, queue.free, queue.order) refl in
          let after = rw (idle.kind_is, idle.record_is, idle.book_is) at (turn.starts layouts
          first.0 first.1 (idle.may (omega arith) first.0 first.1 is_next some)) in
          went 0 first rest base book next (steady_more steady turn).asks_is after.stage after.is_at
          after.turns_are
      going_more (suc n) (first ∷ rest) base book queue (inl (after, goes)) =
          let later = turn.goes_on kind layouts first.0 first.1 base book after.stage after.is_at
          goes in
          went (suc n) first rest base book next (steady_more steady turn).asks_is later.stage
          later.is_at (later.turns_are ∙ ap suc after.turns_are)
      going_more (suc n) (first ∷ rest) base book queue
          (inr (answer, inl (one, any, needs, rests))) =
          let all : spent first.1 rest answer ≡ suc (suc n) = omega (arith, one, needs) in
          inr (
            answer,
            inr (
              omega (arith, all),
              rw (none_left all)
                  (idle_between (steady_more steady turn).asks_is (λ more. rw any refl)
                  (turn.rests (rw steady.asks_is any) kind layouts _ _ rests)),
            ),
          )
      going_more (suc n) (first ∷ rest) base book queue (inr (answer, inr (few, going))) = inr (
        answer,
        inr (
          omega (arith, few),
          rw (one_more few)
              (going_more (suc n - spent first.1 rest answer) rest (grown_by base first.1 answer)
              (served book first answer) (queue_rest answer queue) going),
        ),
      )

    module _ (laws : CleanLaws) where
      -- what that says of the record and of the book
      on_its_way : (n : ℕ) (next : Ticket × Request) (base : List Carried) (book : BookState)
          (now : PortOver W) (stage : RequestStage)
          → IsAtStage facts kind layouts next.0 next.1 base book stage now
          → turns_at kind.hands_over layouts.run.od next.1 stage ≡ n
          → ((answer : Answer) → stage ≡ Ended answer → ⊥)
          → IsOnItsWay facts kind.hands_over layouts n next base book now
      on_its_way n next base book now stage is turns goes = grind (
        arith,
        common_steps,
        segment_within (laws.texts layouts.run.od is.low),
        is.at.fits,
      )

      are_served : (n : ℕ) (requests : List (Ticket × Request)) (base : List Carried)
          (book : BookState) (now : PortOver W) → Going n requests base book now
          → AreServed facts asks.devices kind.hands_over layouts n requests base book now
      are_served zero requests base book now idle = (idle.record_is, idle.book_is)
      are_served (suc n) [] base book now grown = grown
      are_served (suc n) (next ∷ rest) base book now (inl (after, goes)) =
          inl (on_its_way (suc n) next base book now after.stage after.is_at after.turns_are goes)
      are_served (suc n) (next ∷ rest) base book now (inr (answer, inl (one, any, needs, is))) =
          let none : suc n - spent next.1 rest answer ≡ 0 = omega (arith, one, needs) in inr (
            answer,
            omega (arith, needs),
            rw none (is.record_is, is.book_is),
          )
      are_served (suc n) (next ∷ rest) base book now (inr (answer, inr (few, going))) = inr (
        answer,
        omega (arith, few),
        are_served (suc n - spent next.1 rest answer) rest (grown_by base next.1 answer)
            (served book next answer) now going,
      )

  -- of one request alone
  on_time : (layouts : Layouts) (devices : Devices) (ticket : Ticket) (request : Request)
      (p : PortOver W) (n : ℕ) (now : PortOver W)
      → AreServed facts devices (kind_of_device facts p).hands_over layouts (suc n)
      ((ticket, request) ∷ []) (record_of facts p) p.parts.book.state now
      → IsOnTime facts layouts ticket request p (suc n) now
  on_time layouts devices ticket request p n now (inl premise) = grind (arith, common_steps)
  on_time layouts devices ticket request p n now (inr (answer, few, rest)) =
      by (suc n - (needed + turns_between devices [])) (none_behind devices) refl rest
    where
      needed : ℕ
      needed = turns_needed (kind_of_device facts p).hands_over layouts.run.od request answer

      by : (left : ℕ) → turns_between devices [] ≡ 0
          → suc n - (needed + turns_between devices []) ≡ left
          → AreServed facts devices (kind_of_device facts p).hands_over layouts left []
          (grown_by (record_of facts p) request answer)
          (served p.parts.book.state (ticket, request) answer) now
          → IsOnTime facts layouts ticket request p (suc n) now
      by zero none left (is, book) = inr (inr (inl (answer, is, omega (arith, few), book)))
      by (suc k) none left (more, is) = inr (inr (inr (answer, more, is, omega (arith, few))))

  -- Whole runs

  module _ (p : PortOver W) where
    abbrev asked : Configuration
    asked = p.parts.core.session.configuration

    abbrev ready : Option ℕ
    ready = (far p.wire).room

    -- where the port stands after so many turns and no other call
    abbrev pub SoFar : List Call → PortOver W → Type 0
    SoFar calls now =
        (n : ℕ) → calls ≡ replicate n call.Turn
        → (layouts : Layouts) (first : Ticket × Request) (rest : List (Ticket × Request))
        → MayServe facts layouts first rest p → Steady ready asked now
        × Going (kind_of_device facts p) layouts asked n (first ∷ rest) (record_of facts p)
        p.parts.book.state
        now

    pub so_far_none : SoFar [] p
    so_far_none zero e layouts first rest may = (
      grind (arith, common_steps, may.starts.is_honest),
      record {
        kind_is = refl;
        record_is = refl;
        book_is = refl;
        may = λ more ticket request is_next room.
            let found : Some first ≡ Some (ticket, request) = sym may.starts.next ∙ is_next in
            let same : first ≡ (ticket, request) = cc in
            rw same at may.starts;
      },
    )
    so_far_none (suc n) e layouts first rest may = absurd (cc)

    pub so_far_more : (mid next : PortOver W) (calls : List Call) (i : ℕ) (d : Call)
        → i < length calls → SoFar (take i calls) mid
        → (get_or calls i d ≡ call.Turn → CleanTurn facts mid next)
        → SoFar (take (i + 1) calls) next
    so_far_more mid next calls i d below so_far turn = rw (take_more calls i d below)
        (λ n e layouts first rest may.
        let found = snoc_turns (take i calls) (get_or calls i d) n e in
        let t = turn found.2 in
        let (steady, going) = so_far (length (take i calls)) found.1 layouts first rest may in
        let queue : Queue ready (record_of facts p) p.parts.book.state (first ∷ rest) = record {
          free = (next_heads p.parts.book.state first may.starts.next).0;
          others = may.others;
          order = may.in_order;
          fits = may.room;
        } in (
          steady_more steady t,
          rw found.0 (going_more (kind_of_device facts p) layouts asked steady t
              (length (take i calls))
              (first ∷ rest) (record_of facts p) p.parts.book.state queue going),
        ))

    pub clean_serves : CleanLaws → (next : PortOver W) (calls : List Call) (i : ℕ)
        → length calls ≤ i → SoFar (take i calls) next → CleanServes facts p calls next
    clean_serves laws next calls i all so_far n e layouts first rest may =
        are_served (kind_of_device facts p) layouts asked laws n (first ∷ rest) (record_of facts p)
        p.parts.book.state next (so_far n (take_all i calls all ∙ e) layouts first rest may).1

    -- one request may be served where it may start
    pub clean_runs : (next : PortOver W) (calls : List Call) → CleanServes facts p calls next
        → CleanRuns facts p calls next
    clean_runs next calls serves n e layouts ticket request may =
        let b = p.parts.book.state in
        let some : has_room (far p.wire) ≡ true = may.room in
        on_time layouts asked.devices ticket request p n next
        (serves (suc n) e layouts (ticket, request) [] (record {
          starts = may;
          others = drop 1 (served_waiting b);
          in_order = (next_heads b (ticket, request) may.next).1;
          room = takes_one ready (record_of facts p) some;
        }))
