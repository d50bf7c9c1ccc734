-- What the search can't prove of the body of `table::default_at`.
use Rattle.std.proofs.Common.{◌≤◌, ◌+◌, ◌∙◌, ◌++◌, ℕ, List, ap, sym, arith, get_or, length, drop}
use Rattle.iol_params.specs.Values.{value_at, defaults}
use Rattle.iol_params.proofs.CellLemmas.{no_member, within-whole, defaults-here}
use Rattle.iol_params.proofs.TableLemmas.{value-length}
use Rattle.iol_params.proofs.table.default_at.Goals as goal

pub unwrap-requires : goal.unwrap-requires
unwrap-requires c =
    let ms = c.args.members.now in
    let i = c.loop-member.member-index in
    let place = c.args.place in
    let prior = c.loop-member.value.items in
    let value = (get_or ms i no_member).default.now in
    let rest = drop (i + 1) ms in
    let whole = ap (λ (v : List ℕ). prior ++ v) (sym (defaults-here ms i no_member place
    c.loop-member-test.true (sym c.is_at.ensures ∙ c.if-is_at.true)))
    ∙ c.loop-member.invariant in
    let size : length (value_at ms (defaults ms) place) ≤ 232 =
    omega (arith, value-length ms (defaults ms) place c.requires.fit, c.requires.short) in
    let fits : length prior + length value ≤ 232 = within-whole prior value
    (value_at rest (defaults rest) place) (value_at ms (defaults ms) place) 232 whole size in
    c.try_extend_from_slice.ensures.variant.1 fits
