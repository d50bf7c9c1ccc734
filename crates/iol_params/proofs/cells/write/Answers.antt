-- What the search can't prove of the body of `cells::write`.
use Rattle.std.proofs.Common.{◌≡◌, ◌∙◌, ℕ, List, ap, sym, get_or, length, take, drop, min}
use Rattle.std.proofs.lemmas.List.{take_min, drop_min}
use Rattle.iol_params.specs.Values.{most_of}
use Rattle.iol_params.proofs.CellLemmas.{no_member, cells_with, room-more, front-more, length-put, write-put, write-keep, take-most}
use Rattle.iol_params.proofs.cells.write.Goals as goal
use Rattle.iol_params.proofs.cells.write.Goals.{then-is_at, else-is_at}

pub loop-member-preserved : goal.loop-member-preserved
loop-member-preserved c =
    let ms = c.args.members.now in
    let i = c.loop-member.member-index in
    let at = c.loop-member.at in
    let cells = c.loop-member.cells in
    let within = c.loop-member-test.true in
    let front = c.loop-member.invariant.front in
    let room = c.loop-member.invariant.room in
    let n = c.longest-most.ensures.value in
    let octets = c.loop-member.octets.now in
    let most = most_of (get_or ms i no_member) in
    let value = take most octets in
    let more = room-more ms i at no_member cells within front room in
    elim c.if-is_at.branch [
      | then-is_at w ↦
          let size : w.min.result ≡ min most (length octets) =
          w.min.ensures ∙ ap (λ (k : ℕ). min k (length octets)) n in
          let first : w.split_at.result.0.now ≡ value = w.split_at.ensures.front
          ∙ (ap (λ (k : ℕ). take k octets) size ∙ take_min most octets) in
          let last : c.if-is_at.octets.now ≡ drop most octets = rw w.octets-is
          (w.split_at.ensures.back
          ∙ (ap (λ (k : ℕ). drop k octets) size ∙ drop_min most octets)) in
          let new : c.if-is_at.cells ≡ cells_with at value cells = w.cells-is
          ∙ (w.put.ensures ∙ ap (λ (v : List ℕ). cells_with at v cells) first) in
          record {
            room = rw (n, new) (more
                ∙ sym (length-put ms i at no_member cells within front room value
                (take-most most octets)));
            front = rw n (front-more ms i at no_member cells within front room);
            so_far = rw (n, new, last)
                (write-put ms i at no_member cells within front room c.args.place octets
                (sym c.is_at.ensures ∙ w.if-is_at.true) (take-most most octets)
                ∙ c.loop-member.invariant.so_far);
          }
      | else-is_at w ↦ record {
        room = rw (n, w.cells-is) more;
        front = rw n (front-more ms i at no_member cells within front room);
        so_far = rw (n, w.cells-is, w.octets-is)
            (write-keep ms i at no_member cells within front room c.args.place octets
            (sym c.is_at.ensures ∙ w.if-is_at.false)
            ∙ c.loop-member.invariant.so_far);
      }
    ]
