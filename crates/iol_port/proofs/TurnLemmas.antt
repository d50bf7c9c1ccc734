-- the three pieces of a turn make one turn of the abstract port
-- For the clauses of `PortCore::turn`, `Port::abandon`, `Port::open_for` and 12 more.
use Rattle.std.proofs.Common.{◌≡◌, ◌∷◌, ◌++◌, [], List, ℕ, Bool, Option, None, refl, sym, subst, inl, inr, arith, ap}
use Rattle.std.proofs.lemmas.Grind.{common_steps}
use Rattle.iol_isdu.specs.declared.values.Answer.{Answer}
use Rattle.iol_book.specs.BookModel.{BookState}
use Rattle.iol_app.specs.declared.mode.Mode.TheVariants.{Down}
use Rattle.iol_app.specs.declared.report.Said.{Said}
use Rattle.iol_far.specs.Far.{Far}
use Rattle.iol_app.specs.Abstract.Images.{Images, MayImages, images_after}
use Rattle.iol_app.specs.declared.request.Current.{Current}
use Rattle.iol_app.specs.Abstract.Steps.{PortStep, Take, Deny, Moment, Terms, through_steps, TakesSteps}
use Rattle.iol_app.specs.Abstract.OfMaster.{resets, steps_for_book, steps_for_queue}
use Rattle.iol_app.specs.Abstract.Shown.{job_of}
use Rattle.iol_mode.specs.declared.states.State.{State}
use Rattle.iol_mode.specs.States.{is_reset}
use Rattle.iol_app.specs.Requests.{request_under_way}
use Rattle.iol_app.specs.State.{SessionState, session_after_begin}
use Rattle.iol_app.specs.StationState.{SessionFits, mode_in, IsPresent}
use Rattle.iol_app.specs.Core.{CoreState, Ghost, OfRequest, session_in}
use Rattle.iol_app.specs.CoreStands.{BothEndsStand}
use Rattle.iol_app.specs.CoreCalls.{BeginGives, begun_ghost}
use Rattle.iol_app.specs.CallSteps.{BeginSteps, DenySteps}
use Rattle.iol_port.specs.declared.call.Call.{Call}
use Rattle.iol_port.specs.declared.call.Answered.{Answered}
use Rattle.iol_port.specs.Steps.{book_after, MayBook, queued_after}
use Rattle.iol_port.specs.View.{PortParts, BeginsNext, BookDoes, KeepsLimits}
use Rattle.iol_far.specs.declared.kind.Kind.{Kind}
use Rattle.iol_mode.specs.declared.configuration.Configuration.{Configuration}
use Rattle.iol_app.specs.Abstract.Session.{MaySession, session_after}
use Rattle.std.specs.List.{list_all}
use Rattle.std.specs.Prelude.{IsTrue, IfSome, Some}
use Rattle.iol_port.specs.Run.{is_sending_step}
use Rattle.iol_app.specs.Abstract.Turn.{IsPageRead}
use Rattle.iol_mode.specs.declared.states.State.TheVariants.{Preoperate as AtPreoperate, Operate as AtOperate}
use Rattle.iol_mode.specs.declared.states.PageFacts.{PageFacts}
use Rattle.iol_page.specs.declared.page.Layouts.{Layouts}
use Rattle.std.specs.Option.{option_map}

-- down leaves no request under way
pub none_down : (state : State) (session : SessionState) (g : Ghost) (answer : Option Answer)
    → SessionFits state session → mode_in state ≡ Down
    → job_of (request_under_way session.current) answer g.request.busy g.request.asked ≡ None
none_down state session g answer fits down = grind (arith, common_steps)

-- beyond STARTUP the page was read in this session
page_of_layouts : (layouts : Layouts) (present : Option PageFacts) (page : List ℕ)
    → IsPresent layouts present → IfSome present (λ t. t.page ≡ page)
    → option_map (λ (t : PageFacts). t.page) present ≡ Some page
unfolding IsPresent
page_of_layouts layouts None page present_is same = absurd present_is
page_of_layouts layouts (Some t) page present_is same = ap Some same

page_read_in : (state : State) (s : SessionState) (page : List ℕ) → SessionFits state s
    → IfSome s.present (λ t. t.page ≡ page)
    → IsPageRead (mode_in state) page (option_map (λ (t : PageFacts). t.page) s.present)
page_read_in (AtPreoperate o) s page (still, (run, isdu, present_is)) same =
    page_of_layouts o.layouts s.present page present_is same
page_read_in (AtOperate o) s page fits same =
    page_of_layouts o.layouts s.present page fits.has_layouts.2 same
page_read_in state s page fits same = tt

pub page_read_of : {k : CoreState} {g : Ghost} {far : Far} {n : ℕ} → BothEndsStand k g far n
    → IsPageRead (mode_in k.state) g.page (option_map (λ (t : PageFacts). t.page) k.session.present)
page_read_of {k} {g} stands =
    page_read_in k.state k.session g.page stands.joined stands.shown.present

pub terms_of : {limit was : ℕ} {page old : List ℕ} {asks asked : Configuration} {kind first : Kind}
    → (limit ≡ was) × (page ≡ old) × (asks ≡ asked) × (kind ≡ first)
    → let a : Terms = record {
      devices = asks.devices;
      busy_limit = limit;
      page = page;
      kind = kind;
      expected = asks.expected;
    } in
    let b : Terms = record {
      devices = asked.devices;
      busy_limit = was;
      page = old;
      kind = first;
      expected = asked.expected;
    } in a ≡ b
terms_of same = cc

-- what the words of a turn leave in the book and in the kept events
pub record Settles (p next : PortParts) (report : Said) (began : Bool) (start : BookState) :
    Type 0 where
  pub posts : next.book.state ≡ through_steps book_after
      (resets began (is_reset next.core.state) ++ steps_for_book report) start
  pub keeps : next.queued ≡ through_steps queued_after (steps_for_queue report) p.queued

abbrev pub under : Option Current → CoreState → CoreState
under current s = record s { session = record s.session { current = current } }

-- What a turn begins with: the next request is taken, or it is denied, or neither. Both ends stand
-- together with that; in the core only the request changes, and nothing of the images
pub record Begun (s : CoreState) (b : BookState) (mid : CoreState) (after : BookState)
    (g : Ghost) (far : Far) (n : ℕ) : Type 0 where
  pub first : List PortStep
  pub only : IsTrue (list_all is_sending_step first)
  pub current : Option Current
  pub request : OfRequest
  pub is : mid ≡ under current s
  pub stands : BothEndsStand (under current s)
      (record g { request = request }) far n
  pub book : TakesSteps MayBook book_after b first after
  pub session : (m : Moment) → m.terms.page ≡ g.page
      → TakesSteps (MaySession m) session_after (session_in s g far) first
      (session_in (under current s) (record g { request = request }) far)
  pub images : (m : Moment) (i : Images) → TakesSteps (MayImages m) (images_after m) i first i

pub begun : {s mid : CoreState} {b after : BookState} {g : Ghost} {far : Far} {n : ℕ}
    → BeginsNext s b mid after → BothEndsStand s g far n → Begun s b mid after g far n
unfolding BeginSteps DenySteps
begun {s = s} {g = g} (inl (is, b_is)) stands = record {
  first = [];
  only = refl;
  current = s.session.current;
  request = g.request;
  is = is;
  stands = stands;
  book = (tt, sym b_is);
  session = λ m page. (tt, refl);
  images = λ m i. (tt, refl);
}
begun {s = s} {g = g} {far = far} {n = n}
    (inr (inl (t, q, head, b_is, free, is, follows, begins)))
    stands =
    let gives = subst (λ (x : CoreState). BeginGives s x g far n q) is
    (begins follows g far n stands) in
    record {
      first = Take t.0 q ∷ [];
      only = refl;
      current = (session_after_begin q s.session).current;
      request = (begun_ghost g).request;
      is = is;
      stands = gives.stands;
      book = ((head, tt), sym b_is);
      session = λ m page. ((gives.may m t.0 page, tt), gives.is t.0);
      images = λ m i. ((tt, tt), refl);
    }
begun {s = s} {g = g} {far = far} {n = n} (inr (inr (t, head, b_is, free, is, isdu_is, denies)))
    stands = record {
      first = Deny t.0 ∷ [];
      only = refl;
      current = s.session.current;
      request = g.request;
      is = is;
      stands = stands;
      book = ((head, tt), sym b_is);
      session = λ m page. ((denies g far n stands m t.0 page, tt), refl);
      images = λ m i. ((tt, tt), refl);
    }

-- a turn gives no ticket, and keeps the limits
abbrev GivesNone : BookState → BookState → Type 0
GivesNone b next = (next.last ≡ b.last) × KeepsLimits b next

none_after : (step : PortStep) (b : BookState) → GivesNone b (book_after step b)
none_after step b = grind (arith, common_steps)

none_through : (steps : List PortStep) (b : BookState)
    → GivesNone b (through_steps book_after steps b)
none_through [] b = (refl, (refl, refl))
none_through (step ∷ steps) b = grind (arith, common_steps, none_after, none_through steps)

pub turn_gives_none : (s next : CoreState) (b mid after : BookState) (steps : List PortStep)
    → BeginsNext s b next mid → after ≡ through_steps book_after steps mid → GivesNone b after
turn_gives_none s next b mid after steps premise premise2 =
    grind (arith, common_steps, none_through)

-- each call keeps the limits
pub book_limits : (c : Call) (reply : Answered) (b next : BookState) → BookDoes c reply b next
    → KeepsLimits b next
book_limits c reply b next premise = grind (arith, common_steps, none_through)
