-- The clauses of `Journal::reserve_for` that the search can't prove.
use Rattle.std.proofs.Common.{◌≡◌, length, arith}
use Rattle.std.proofs.lemmas.Grind.{common_steps}
use Rattle.iol_book.specs.JournalModel.{octet_sum}
use Rattle.iol_book.proofs.JournalLemmas.{octets-are}
use Rattle.iol_book.proofs.journal.Journal.reserve_for.Goals as goal

pub returns-clause-ok : goal.returns-clause-ok
returns-clause-ok g c =
    let sum = octets-are c.other.inside.lines.items c.other.inside.octets.items c.other.invariant in
    let entries : c.len.result ≡ length c.args.other.now.items = grind (arith, common_steps) in
    let octets : c.len-2.result ≡ octet_sum c.args.other.now.items = grind (arith, common_steps) in
    rw (← entries, ← octets) c.reserve.ensures.ok

pub returns-clause-full : goal.returns-clause-full
returns-clause-full g c =
    let sum = octets-are c.other.inside.lines.items c.other.inside.octets.items c.other.invariant in
    let entries : c.len.result ≡ length c.args.other.now.items = grind (arith, common_steps) in
    let octets : c.len-2.result ≡ octet_sum c.args.other.now.items = grind (arith, common_steps) in
    rw (← entries, ← octets) c.reserve.ensures.full
