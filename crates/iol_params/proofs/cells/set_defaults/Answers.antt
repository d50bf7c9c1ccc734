-- What the search can't prove of the body of `cells::set_defaults`.
use Rattle.std.proofs.Common.{◌∙◌, sym}
use Rattle.iol_params.proofs.CellLemmas.{no_member, room-more, front-more, length-put, defaults-fit, defaults-more}
use Rattle.iol_params.proofs.cells.set_defaults.Goals as goal

pub loop-member-preserved : goal.loop-member-preserved
loop-member-preserved c =
    let ms = c.args.members.now in
    let i = c.loop-member.member-index in
    let at = c.loop-member.at in
    let cells = c.loop-member.cells in
    let within = c.loop-member-test.true in
    let front = c.loop-member.invariant.front in
    let room = c.loop-member.invariant.room in
    let n = c.longest-most.ensures.value in
    let fits = defaults-fit ms i at no_member cells within front room c.loop-member.invariant.fit in
    let long = length-put ms i at no_member cells within front room _ fits.0 in
    record {
      room = rw n (room-more ms i at no_member cells within front room
          ∙ sym (rw c.put.ensures long));
      front = rw n (front-more ms i at no_member cells within front room);
      fit = fits.1;
      so_far = rw c.put.ensures
          (defaults-more ms i at no_member cells within front room fits.0
          ∙ c.loop-member.invariant.so_far);
    }
