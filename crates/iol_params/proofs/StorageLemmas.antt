-- A checksum over parts is that over them all.
-- For the clauses of `storage::checksum`.
use Rattle.std.proofs.lemmas.List.Sums.{fold-append}

pub ruleset folds = fold-append
