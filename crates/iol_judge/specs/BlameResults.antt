-- What a call gives that may find a fault.
use Rattle.std.specs.Prelude.{Result, Ok}
use Rattle.std.specs.Result.{result_and}
use Rattle.iol_judge.specs.declared.blame.Blame.{Blame}

-- a call that gives nothing but its fault, with what it wrote
abbrev pub result_or_blame : {U A : Type 0} → Result U Blame → A → Result A Blame
result_or_blame result written = result_and result (Ok written)
