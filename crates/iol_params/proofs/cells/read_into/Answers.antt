-- What the search can't prove of the body of `cells::read_into`.
use Rattle.std.proofs.Common.{◌≤◌, ◌+◌, ◌∙◌, ◌++◌, ℕ, List, ap, sym, arith, get_or, length, drop}
use Rattle.iol_params.specs.Values.{most_of, values_in, value_at, cell_value}
use Rattle.iol_params.proofs.CellLemmas.{no_member, within-whole, read-here}
use Rattle.iol_params.proofs.TableLemmas.{value-length}
use Rattle.iol_params.proofs.cells.read_into.Goals as goal

pub unwrap-requires : goal.unwrap-requires
unwrap-requires c =
    let ms = c.args.members.now in
    let i = c.loop-member.member-index in
    let place = c.args.place in
    let cells = c.loop-member.cells.now in
    let prior = c.loop-member.value.items in
    let most = most_of (get_or ms i no_member) in
    let values = values_in ms c.args.cells.now in
    let rest = drop (i + 1) ms in
    let whole = ap (λ (v : List ℕ). prior ++ v) (sym (read-here ms i no_member place
    c.loop-member-test.true (sym c.is_at.ensures ∙ c.if-is_at.true) cells))
    ∙ c.loop-member.invariant.so_far in
    let size : length (value_at ms values place) ≤ 232 =
    omega (arith, value-length ms values place c.requires.fit, c.requires.most) in
    let fits : length prior + length (cell_value most cells) ≤ 232 = within-whole prior
    (cell_value most cells) (value_at rest (values_in rest (drop (1 + most) cells)) place)
    (value_at ms values place) 232 whole size in
    c.try_extend_from_slice.ensures.variant.1
    (omega (arith, ap length c.value_of.ensures, fits))
