-- What the search can't prove of the body of `NoRecord::with_history`.
use mathlib.Core.List.{[]}
use contract.BorrowLft.{⊑_meet, ⊑_static}
use Rattle.iol_device.proofs.record.NoRecord.with_history.Goals as goal

-- the pair lives no longer than what it borrows
pub of-requires : goal.of-requires
of-requires g c κs within =
    let near = ⊑_meet κs.1.0 _ _ within.0.1.0 within.1.0 in
    let first = ⊑_meet κs.1.0 κs.1.1.0 [] within.0.0 (⊑_static κs.1.0) in
    let second = ⊑_meet κs.1.0 _ [] near (⊑_static κs.1.0) in
    let all = ⊑_meet κs.1.0 _ _ first second in
    ⊑_meet κs.1.0 _ _ all all
