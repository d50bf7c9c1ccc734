-- What the search can't prove of the body of `cells::reset`.
use Rattle.std.proofs.Common.{◌∙◌, sym}
use Rattle.iol_params.proofs.CellLemmas.{no_member, room-more, front-more, length-put, defaults-fit, reset-put, reset-keep}
use Rattle.iol_params.proofs.cells.reset.Goals as goal
use Rattle.iol_params.proofs.cells.reset.Goals.{then-is_writable, else-is_writable}

pub loop-member-preserved : goal.loop-member-preserved
loop-member-preserved c =
    let ms = c.args.members.now in
    let i = c.loop-member.member-index in
    let at = c.loop-member.at in
    let cells = c.loop-member.cells in
    let within = c.loop-member-test.true in
    let front = c.loop-member.invariant.front in
    let room = c.loop-member.invariant.room in
    let n = c.longest-most.ensures.value in
    let fits = defaults-fit ms i at no_member cells within front room c.loop-member.invariant.fit in
    let long = length-put ms i at no_member cells within front room _ fits.0 in
    let more = room-more ms i at no_member cells within front room in
    elim c.if-is_writable.branch [
      | then-is_writable w ↦ record {
        room = rw (n, w.cells-is, w.put.ensures) (more ∙ sym long);
        front = rw n (front-more ms i at no_member cells within front room);
        fit = fits.1;
        so_far = rw (n, w.cells-is, w.put.ensures)
            (reset-put ms i at no_member cells within front room
            (sym c.is_writable.ensures ∙ w.if-is_writable.true) fits.0
            ∙ c.loop-member.invariant.so_far);
      }
      | else-is_writable w ↦ record {
        room = rw (n, w.cells-is) more;
        front = rw n (front-more ms i at no_member cells within front room);
        fit = fits.1;
        so_far = rw (n, w.cells-is)
            (reset-keep ms i at no_member cells within front room
            (sym c.is_writable.ensures ∙ w.if-is_writable.false)
            ∙ c.loop-member.invariant.so_far);
      }
    ]
