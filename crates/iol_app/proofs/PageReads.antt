-- The lengths that a start-up tells.
-- For the clauses of `laws::rise_gives`, `laws::send_gives` and `laws::receive_gives`.
use Rattle.std.proofs.lemmas.Grind.{common_steps}
use Rattle.std.proofs.Common.{◌≡◌, ℕ, Bool, List, refl, ap, arith, Option, Some}
use Rattle.std.specs.Prelude.{IfSome, Ok}
use Rattle.iol_mseq.specs.Shape.{Shape}
use Rattle.iol_image.specs.Image.{IsImage}
use Rattle.iol_page.specs.Page.{layouts_of}
use Rattle.iol_page.specs.declared.page.Layouts.{Layouts}
use Rattle.iol_far.specs.Codec.{layout_in, layout_by}
use Rattle.iol_far.specs.declared.mode.DeviceMode.{DeviceMode}
use Rattle.iol_far.specs.declared.mode.DeviceMode.TheVariants.{Startup as FarStartup}
use Rattle.iol_app.specs.Abstract.Shown.{ShownProcessData}
use Rattle.iol_mode.specs.declared.states.PageFacts.{PageFacts}
use Rattle.iol_app.specs.declared.output.OutputState.{OutputState}
use Rattle.iol_app.specs.Outputs.{output_resized}
use Rattle.iol_app.specs.State.{SessionState, IsSession, session_with_page}
use Rattle.iol_app.specs.StationState.{with_page_read, HasReadPage}
use Rattle.iol_app.specs.Ends.{ShownFits}

-- the layouts of a page that has them

pub startup_layout : (page : List ℕ)
    → ◌≡◌ {A = Shape} (layout_in page FarStartup) (layout_by FarStartup (layouts_of page))
unfolding layout_in
startup_layout page = refl

pub read_layout : (page : List ℕ) (mode : DeviceMode) (layouts : Layouts)
    → layouts_of page ≡ Ok layouts → layout_in page mode ≡ layout_by mode (Ok layouts)
unfolding layout_in
read_layout page mode layouts e = ap (layout_by mode) e

-- A length as before changes nothing

pub page_stays : (read : Option PageFacts) (s : SessionState) → IsSession s → HasReadPage read s
    → with_page_read read s ≡ s
page_stays read s valid h = grind (arith, common_steps)

-- The first lengths: no output was wanted before

pub length_acknowledged : (size : ℕ) (output : OutputState)
    → (output_resized size output).acknowledged ≡ output.acknowledged
length_acknowledged size output = grind (arith, common_steps)

-- the page's lengths are told: those that were told before, or the first
pub page_is_shown : (s : SessionState) (shown : ShownProcessData) (read : PageFacts)
    (page : List ℕ) (known : Bool)
    (size : ℕ)
    → IsSession s → ShownFits s shown → IfSome shown.wanted IsImage
    → IfSome shown.known_length (λ length. length ≡ size) → size ≡ read.layouts.run.pd_out
    → known ≡ read.layouts.isdu → page ≡ read.page
    → ShownFits (session_with_page read s) (record
    shown { known_length = Some size; isdu = Some known; page = Some page })
page_is_shown s shown read page known size valid fits image before e is whole =
    grind (arith, common_steps)
