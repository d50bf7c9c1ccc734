-- What the search can't prove of the body of `NoRecord::grown_by`.
use mathlib.Core.List.{[]}
use contract.BorrowLft.{⊑_meet, ⊑_static}
use Rattle.iol_device.proofs.record.NoRecord.grown_by.Goals as goal

-- the tuple lives no longer than what it borrows
pub of-requires : goal.of-requires
of-requires c κs within =
    let first = ⊑_meet κs.1.0 κs.1.1.0 [] within.0 (⊑_static κs.1.0) in
    let second = ⊑_meet κs.1.0 κs.1.1.1.0 [] within.1.0 (⊑_static κs.1.0) in
    let third = ⊑_meet κs.1.0 κs.1.1.1.1.0 [] within.1.1.0 (⊑_static κs.1.0) in
    let last = ⊑_meet κs.1.0 _ [] third (⊑_static κs.1.0) in
    let all = ⊑_meet κs.1.0 _ _ first (⊑_meet κs.1.0 _ _ second last) in
    ⊑_meet κs.1.0 _ _ all all
