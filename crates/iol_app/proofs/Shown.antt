-- What is shown, where a session keeps what is wanted of its output and known of its device.
-- For the clauses of `laws::rise_gives`, `laws::send_gives`, `laws::wake_gives` and 10 more.
use Rattle.std.proofs.Common.{◌≡◌, ◌≢◌, ℕ, Bool, false, List, arith}
use Rattle.std.proofs.lemmas.Grind.{common_steps}
use Rattle.std.specs.Prelude.{Option, None, IfSome}
use Rattle.iol_mseq.specs.Shape.{Shape}
use Rattle.iol_app.specs.declared.mode.Mode.TheVariants.{Operate as ModeOperate}
use Rattle.iol_app.specs.Abstract.Steps.{ImageOctets}
use Rattle.iol_app.specs.EventReading.{is_refused}
use Rattle.iol_app.specs.State.{SessionState}
use Rattle.iol_app.specs.StationState.{mode_in}
use Rattle.iol_app.specs.Core.{CoreState}
use Rattle.iol_app.specs.CoreStands.{ShownStands}

-- the output wanted, the layout, and whether the device has ISDU
abbrev pub known_in : SessionState → Option ImageOctets × Option Shape × Option Bool
known_in s = (s.output.wanted, s.layout, s.isdu)

pub shown_as : {c next : CoreState} {page : List ℕ} → ShownStands c page
    → (mode_in next.state ≢ ModeOperate → next.session.image ≡ None)
    → known_in next.session ≡ known_in c.session
    → IfSome next.session.present (λ t. t.page ≡ page)
    → is_refused next.session.events.reading ≡ false → ShownStands next page
shown_as h image same present no_form = grind (arith, common_steps)
