-- What the search can't prove of the body of `Journal::add`.
use Rattle.std.proofs.Common.{◌≡◌, ◌+◌, ◌++◌, ◌≤◌, length, arith, refl}
use Rattle.std.proofs.lemmas.Grind.{common_steps}
use Rattle.iol_book.specs.Limits.{most_data}
use Rattle.iol_book.proofs.JournalLemmas.{most-most, octets-are, order-pushed, entries-pushed}
use Rattle.iol_book.proofs.journal.Journal.add.Goals as goal

pub append-requires : goal.append-requires
append-requires g c =
    let sum = octets-are c.self.inside.lines.items c.self.inside.octets.items c.self.invariant in
    let most = most-most c.args.form in
    let own : length c.args.octets.now ≤ most_data = grind (arith, common_steps) in
    let fits = c.requires.octets own in
    grind (arith, common_steps)

pub invariant_of-self : goal.invariant_of-self
invariant_of-self g c =
    let sum = octets-are c.self.inside.lines.items c.self.inside.octets.items c.self.invariant in
    let more : length c.append.new.self.items
    ≡ length c.self.inside.octets.items + length c.args.octets.now = grind (arith, common_steps) in
    let pushed = order-pushed 0 (length c.self.inside.octets.items) c.self.inside.lines.items
    (record {
      ticket = c.args.ticket;
      start = c.len.result;
      form = c.args.form;
      count = length c.args.octets.now;
    }) c.self.invariant (grind (arith, common_steps)) c.requires.most in
    rw (c.push_reserved.ensures.items, more) pushed

pub returns-clause-items : goal.returns-clause-items
returns-clause-items g c =
    let added : c.append.new.self.items ≡ c.self.inside.octets.items ++ c.args.octets.now =
    grind (arith, common_steps) in
    let pushed = entries-pushed c.self.inside.octets.items c.args.octets.now
    c.self.inside.lines.items (record {
      ticket = c.args.ticket;
      start = c.len.result;
      form = c.args.form;
      count = length c.args.octets.now;
    }) c.self.invariant (grind (arith, common_steps)) refl in
    rw (← c.self.view_is, c.push_reserved.ensures.items, added) pushed
