-- The clauses of `table::check_members` that the search can't prove.
use Rattle.std.proofs.Common.{◌≡◌, ◌∙◌, List, ap, sym, [], take}
use Rattle.std.specs.Prelude.{None}
use Rattle.std.proofs.lemmas.List.{drop_all}
use Rattle.iol_params.specs.declared.member.Member.{Member}
use Rattle.iol_params.specs.Table.{members_fault}
use Rattle.iol_params.proofs.Consistency.{members-fit}
use Rattle.iol_params.proofs.TableLemmas.{members-short}
use Rattle.iol_params.proofs.table.check_members.Goals as goal

pub returns-clause-fit : goal.returns-clause-fit
returns-clause-fit c =
    let ms = c.args.members.now in
    let row = c.loop-row.row in
    let none : members_fault ms [] 0 ms ≡ None = sym c.loop-row.invariant
    ∙ ap (λ (rest : List Member). members_fault ms (take row ms) row rest)
    (drop_all row ms c.loop-row-test.false) in
    members-fit ms [] 0 ms none

pub returns-clause-short : goal.returns-clause-short
returns-clause-short c =
    let ms = c.args.members.now in
    let row = c.loop-row.row in
    let none : members_fault ms [] 0 ms ≡ None = sym c.loop-row.invariant
    ∙ ap (λ (rest : List Member). members_fault ms (take row ms) row rest)
    (drop_all row ms c.loop-row-test.false) in
    λ place. members-short ms place none
