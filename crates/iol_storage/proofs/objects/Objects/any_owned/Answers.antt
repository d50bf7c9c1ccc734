-- What the search can't prove of the body of `Objects::any_owned`.
use Rattle.std.proofs.Common.{◌∙◌, ap, sym}
use Rattle.std.specs.Option.{option_map}
use Rattle.iol_storage.proofs.ObjectLemmas.{owned-here, owned-later}
use Rattle.iol_storage.proofs.objects.Objects.any_owned.Goals as goal

pub returns-then-is_command_place : goal.returns-then-is_command_place
returns-then-is_command_place c =
    let o = c.unwrap.result in
    let found = sym c.get.ensures.value
    ∙ ap (option_map (λ x. (x.place, x.octets.now))) c.unwrap.ensures in
    owned-here c.args.self.now c.loop-index.index (o.place, o.octets.now) found
    c.loop-index.invariant (sym c.is_command_place.ensures ∙ c.if-is_command_place.true)

pub loop-index-preserved : goal.loop-index-preserved
loop-index-preserved c =
    let o = c.unwrap.result in
    let found = sym c.get.ensures.value
    ∙ ap (option_map (λ x. (x.place, x.octets.now))) c.unwrap.ensures in
    owned-later c.args.self.now c.loop-index.index (o.place, o.octets.now) found
    c.loop-index.invariant (sym c.is_command_place.ensures ∙ c.if-is_command_place.false)
