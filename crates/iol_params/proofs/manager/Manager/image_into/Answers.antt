-- The clauses of `Manager::image_into` that the search can't prove.
use Rattle.std.proofs.Common.{◌≡◌, ◌∙◌, ◌+◌, ◌∷◌, ap, arith, length}
use Rattle.iol_params.specs.Image.{lasting_in}
use Rattle.iol_params.proofs.ImageLemmas.{image-says, image-octets}
use Rattle.iol_params.proofs.manager.Manager.image_into.Goals as goal

pub returns : goal.returns
returns g c =
    let table = c.args.self.now.table in
    let head = c.lasting_octet.result in
    let cells = c.cells.result.now in
    let put = c.copy_from_slice.new.self in
    let same : put ≡ cells = c.copy_from_slice.ensures.after in
    let size : length c.args.image.now ≡ 1 + length put =
    omega (arith, c.requires, c.cells.ensures.room, ap length same) in
    ap (lasting_in table) (image-octets c.args.image.now put head size)
    ∙ (ap (λ l. lasting_in table (head ∷ l)) same
    ∙ (ap (λ h. lasting_in table (h ∷ cells)) c.lasting_octet.ensures
    ∙ image-says table c.args.self.now.state cells c.cells.ensures.values
    c.cells.ensures.room c.cells.ensures.fit c.cells.ensures.rules))
