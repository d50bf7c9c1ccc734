-- What the search can't prove of the body of `objects::object_at`.
use Rattle.std.proofs.Common.{arith, length, refl, drop}
use Rattle.std.specs.Prelude.{◌-◌}
use Rattle.std.proofs.lemmas.List.{length-take}
use Rattle.iol_storage.proofs.Spans.{span-read, span-found, object-at}
use Rattle.iol_storage.proofs.objects.object_at.Goals as goal

pub slice_bounds-result-count : goal.slice_bounds-result-count
slice_bounds-result-count c =
    let l = c.in_ok-span.ensures.lookup in
    let within = span-read c.args.spans.now (length c.args.octets.now) c.args.index
    c.in_ok-span.span.now c.requires l.1 l.3.0 in
    omega (arith, c.from.ensures, c.from-2.ensures, within.order)

pub slice_bounds-result-start : goal.slice_bounds-result-start
slice_bounds-result-start c =
    let l = c.in_ok-span.ensures.lookup in
    let within = span-read c.args.spans.now (length c.args.octets.now) c.args.index
    c.in_ok-span.span.now c.requires l.1 l.3.0 in
    omega (arith, c.from.ensures, within.order, within.within)

pub slice_bounds-result-end : goal.slice_bounds-result-end
slice_bounds-result-end c =
    let l = c.in_ok-span.ensures.lookup in
    let within = span-read c.args.spans.now (length c.args.octets.now) c.args.index
    c.in_ok-span.span.now c.requires l.1 l.3.0 in
    omega (arith, c.from-2.ensures, within.within)

pub returns-clause-value : goal.returns-clause-value
returns-clause-value c =
    let l = c.in_ok-span.ensures.lookup in
    let found = span-found c.args.spans.now c.args.index c.in_ok-span.span.now l.1 l.3.0 in
    rw (
      object-at c.args.octets.now c.args.spans.now c.args.index,
      found,
      c.from.ensures,
      c.from-2.ensures,
    ) refl

pub returns-clause-short : goal.returns-clause-short
returns-clause-short c =
    let l = c.in_ok-span.ensures.lookup in
    let within = span-read c.args.spans.now (length c.args.octets.now) c.args.index
    c.in_ok-span.span.now c.requires l.1 l.3.0 in
    let size = length-take (c.from-2.result - c.from.result)
    (drop c.from.result c.args.octets.now) in
    omega (arith, size, within.short, c.from.ensures, c.from-2.ensures)
