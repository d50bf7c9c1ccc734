-- The clauses of `split_laws::octets_are_never_blamed` that the search can't prove.
use Rattle.iol_judge.specs.Judged.{new_judge}
use Rattle.iol_capture.proofs.FairItems.{items_unblamed}
use Rattle.iol_capture.proofs.split_laws.octets_are_never_blamed.Goals as goal

pub returns : goal.returns
returns c =
    λ odd rate items written far silence run.
    let never = c.honest_lines_are_never_blamed.ensures in
    let split = c.what_is_written_is_split.ensures.split rate items written in
    rw split (items_unblamed never items (new_judge odd) far silence (never.begins odd far) run)
