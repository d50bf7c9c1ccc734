-- What a device keeps of its page at first: the invariant of the far end that is opened.
use Rattle.std.proofs.Common.{◌≡◌, ◌∙◌, ℕ, List, refl, ap, subst, arith, rules, sym}
use Rattle.std.specs.Prelude.{IfOk, IfSome, Option, None, Ok, unwrap_or}
use Rattle.std.proofs.lemmas.Grind.{common_steps}
use Rattle.iol_mseq.specs.Shape.{Shape, startup_shape}
use Rattle.iol_page.specs.Page.{layouts_of, IsPlain, IsAskedBy, PagesAskForLayouts}
use Rattle.iol_page.specs.declared.page.Layouts.{Layouts}
use Rattle.iol_far.specs.declared.mode.DeviceMode.TheVariants.{Startup, Preoperate, Operate}
use Rattle.iol_far.specs.Codec.{layout_by, layout_in}
use Rattle.iol_device.specs.Inside.{IsSound}
use Rattle.iol_device.proofs.far_end.FarEnd.open.Goals as goal

-- the layout of PREOPERATE, STARTUP's where there is none, has no process data in
no_input : (pre : Option Shape) → IfSome pre IsPlain → (unwrap_or pre startup_shape).pd_in ≡ 0
no_input pre h = grind (arith, common_steps)

sound_opened : PagesAskForLayouts → (page : List ℕ) (layouts : Layouts) (layout : Shape)
    → layouts_of page ≡ Ok layouts → layout ≡ startup_shape
    → IsSound page Startup layouts layout 1 None None
unfolding layout_in
sound_opened asks page layouts layout e is =
    let h : IsAskedBy page layouts =
    subst (λ asked. IfOk asked (IsAskedBy page)) e (asks page) in
    record {
      startup_is = refl;
      pre_is = ap (layout_by Preoperate) e;
      run_is = ap (layout_by Operate) e;
      pre_input = ap (λ asked. (layout_by Preoperate asked).pd_in) e
          ∙ no_input layouts.pre h.layouts_are.pre;
      old_is = h.old;
      isdu_is = h.isdu;
      layout_is = is;
      size_is = refl;
      input_fits = tt;
      some_out = tt;
    }

pub invariant_of-result : goal.invariant_of-result
invariant_of-result g c =
    let one : c.new.result.size ≡ 1 = search rules in
    rw one (sound_opened c.pages_ask_for_layouts.ensures c.args.page c.unwrap-layouts.result
    c.startup-layout.result (sym c.layouts.ensures ∙ c.unwrap-layouts.ensures)
    c.startup-layout.ensures.value)
