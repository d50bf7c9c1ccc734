-- What the search can't prove of the body of `lines::pop_next`.
use Rattle.std.proofs.Common.{◌≡◌, ◌++◌, Some, arith}
use Rattle.std.proofs.lemmas.Grind.{common_steps}
use Rattle.iol_book.proofs.LineLemmas.{served_in, found-waits}
use Rattle.iol_book.proofs.lines.pop_next.Goals as goal

pub remove_from-requires : goal.remove_from-requires
remove_from-requires g c =
    let found : served_in c.args.serve (c.args.urgent.now.items ++ c.args.waiting.now.items)
    ≡ Some c.in_ok-next.next = grind (arith, common_steps) in
    (found-waits c.args.serve c.args.urgent.now.items c.args.waiting.now.items _ found).among
