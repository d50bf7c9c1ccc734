-- The calls that aren't turns, over the core's own data.
-- For the clauses of `Core::abort`, `Core::begin`, `Core::clear_output` and 6 more.
use Rattle.std.proofs.Common.{◌≡◌, ℕ, Bool, true, false, refl, sym, subst, Option, Some, None}
use Rattle.std.specs.Prelude.{IsSome, IfSome}
use Rattle.iol_isdu.specs.declared.values.Request.{Request}
use Rattle.iol_isdu.specs.declared.values.Cause.{Cause}
use Rattle.iol_isdu.specs.declared.values.Cause.TheVariants.{BusyTooLong, Cancelled}
use Rattle.iol_image.specs.Image.{IsImage}
use Rattle.iol_mode.specs.declared.states.Operate.{Operate}
use Rattle.iol_mode.specs.declared.configuration.Configuration.{Configuration}
use Rattle.iol_mode.specs.declared.configuration.Devices.{Devices}
use Rattle.iol_mode.specs.declared.states.State.{State}
use Rattle.iol_mode.specs.declared.states.State.TheVariants.{Down as AtDown, Operate as AtOperate}
use Rattle.iol_app.specs.declared.mode.Mode.TheVariants.{Operate as ModeOperate}
use Rattle.iol_app.specs.Abstract.Steps.{ImageOctets, Deny, doubts_at}
use Rattle.iol_app.specs.Abstract.Session.{MaySession, session_cancelling}
use Rattle.iol_app.specs.declared.request.Current.{Current}
use Rattle.iol_app.specs.Requests.{waiting_abort}
use Rattle.iol_app.specs.Ends.{AbortAt}
use Rattle.iol_far.specs.Far.{Far}
use Rattle.iol_app.specs.State.{SessionState, OutSuits, session_after_begin, aborted_in}
use Rattle.iol_app.specs.StationState.{mode_in, SessionFits}
use Rattle.iol_app.proofs.Asking.{begin_gives, denies, aborts_by, waiting_at, cancelled_at}
use Rattle.iol_app.proofs.Calling.{asks_else, opens, wants, restarts, restarted_session}
use Rattle.iol_app.specs.Core.{CoreState, Ghost, session_in}
use Rattle.iol_app.specs.CoreStands.{BothEndsStand}
use Rattle.iol_app.specs.CoreCalls.{BeginGives, operate_core, asking_ghost, opened_core, wanting_core, restarted_core}
use Rattle.iol_app.specs.CallSteps.{NewSteps, BeginSteps, DenySteps, AbortSteps, CancelSteps, WantSteps, RestartSteps}

pub new_steps : (devices : Devices) (busy : ℕ) (new : CoreState) → new ≡ opened_core devices busy
    → NewSteps new
unfolding NewSteps
new_steps devices busy new e =
    λ far sees n reported due. rw e (opens devices busy far n reported due (rw e at sees))

-- in OPERATE with no request under way
at_free : (P : CoreState → Type 0) (state : State) (session : SessionState)
    → mode_in state ≡ ModeOperate → session.current ≡ None
    → ((s : Operate) → P (operate_core s session None))
    → P (record { state = state; session = session })
at_free P (AtOperate s) session mode free f =
    subst (λ (c : Option Current). P (operate_core s session c)) (sym free) (f s)
at_free P state session mode free f = absurd (let k : mode_in state ≡ ModeOperate = mode in cc)

-- with a request under way, so in OPERATE
at_request : (P : CoreState → Type 0) (state : State) (t : SessionState) (current : Option Current)
    → SessionFits state (record t { current = current }) → IsSome current
    → ((s : Operate) (c : Current) → P (operate_core s t (Some c)))
    → P (record { state = state; session = record t { current = current } })
at_request P (AtDown s) t current joined some f =
    absurd (let k : false ≡ true = rw joined.0 at some in cc)
at_request P (AtOperate s) t None joined some f = absurd (let n : false ≡ true = some in cc)
at_request P (AtOperate s) t (Some c) joined some f = f s c
at_request P state t current joined some f =
    absurd (let k : false ≡ true = rw joined.0.0 at some in cc)

pub deny_steps : (old : CoreState) → mode_in old.state ≡ ModeOperate → old.session.current ≡ None
    → old.session.isdu ≡ Some false → DenySteps old
unfolding DenySteps
deny_steps old mode free none = λ g far n stands moment ticket page.
    at_free (λ (c : CoreState). BothEndsStand c g far n
    → MaySession moment (Deny ticket) (session_in c g far)) old.state old.session mode free
    (λ s k. denies s old.session g far n moment ticket k none page) stands

pub begin_steps : (request : Request) (old new : CoreState) → mode_in old.state ≡ ModeOperate
    → old.session.current ≡ None → old.session.isdu ≡ Some true
    → OutSuits old.session.exchange old.session.current
    → new ≡ record old { session = session_after_begin request old.session }
    → BeginSteps request old new
unfolding BeginSteps
begin_steps request old new mode free known suits e = λ follows g far n stands.
    rw e (at_free (λ (c : CoreState). BothEndsStand c g far n
    → BeginGives c (record c { session = session_after_begin request c.session }) g far n request)
    old.state old.session mode free
    (λ s k. begin_gives s old.session g far n request k (rw free at suits) known follows) stands)

-- an abort leaves both ends standing
module _ (old new : CoreState) (cause : Cause) (some : IsSome old.session.current)
    (e : new ≡ record old { session = aborted_in cause old.session }) where
  abbrev AbortedAt : Ghost → Option Cause → Bool → Type 0
  AbortedAt g abort asked = AbortAt (doubts_at old.session.configuration.devices g.kind.recalls)
      old.session.limit abort g.request.busy asked

  waits : (k : Cause) (asks : Bool) (g : Ghost) (far : Far) (n : ℕ) → BothEndsStand old g far n
      → ((abort : Option Cause) → AbortedAt g abort g.request.asked
      → AbortedAt g (waiting_abort abort k) asks)
      → BothEndsStand (record old { session = aborted_in k old.session }) (asking_ghost asks g)
      far n
  waits k asks g far n stands may =
      at_request (λ (c : CoreState). BothEndsStand c g far n
      → BothEndsStand (record c { session = aborted_in k c.session }) (asking_ghost asks g) far n)
      old.state old.session old.session.current stands.joined some
      (λ s current h. aborts_by k asks s old.session current g far n h
      (may current.abort h.request.busy.1)) stands

  pub abort_steps : AbortSteps cause old new
  unfolding AbortSteps
  abort_steps = λ g far n stands same low.
      rw (e, same) (waits BusyTooLong g.request.asked g far n stands
      (λ abort h. waiting_at (doubts_at old.session.configuration.devices g.kind.recalls)
      old.session.limit g.request.busy g.request.asked BusyTooLong abort h low))

  pub cancel_steps : CancelSteps cause old new
  unfolding CancelSteps
  cancel_steps = λ g far n stands same.
      rw (e, same) (
        waits Cancelled true g far n stands
            (λ abort h. cancelled_at (doubts_at old.session.configuration.devices g.kind.recalls)
            old.session.limit g.request.busy g.request.asked abort h),
        at_request (λ (c : CoreState). session_cancelling (session_in c g far)
            ≡ session_in (record c { session = aborted_in Cancelled c.session })
            (asking_ghost true g) far) old.state old.session old.session.current stands.joined
            some (λ s current. refl),
      )

pub want_steps : (wanted : Option ImageOctets) (old new : CoreState) → IfSome wanted IsImage
    → new ≡ wanting_core wanted old → WantSteps old new
unfolding WantSteps
want_steps wanted old new image e = λ g far n stands. rw e (wants old g far n wanted image stands)

pub ask_steps : (k : Configuration) (old new : CoreState)
    → k.devices ≡ old.session.configuration.devices
    → new ≡ record old { session = record old.session { configuration = k } } → WantSteps old new
unfolding WantSteps
ask_steps k old new same e = λ g far n stands. rw e (asks_else old g far n k same stands)

pub restart_steps_of : (old new : CoreState) → new ≡ restarted_core old → RestartSteps old new
unfolding RestartSteps
restart_steps_of old new e = λ g far n stands.
    rw e (restarts old g far n stands, restarted_session old g far)
