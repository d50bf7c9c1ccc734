-- What a call of a splitter does.
use Rattle.std.specs.Prelude.{Option, Result, Ok}
use Rattle.iol_capture.specs.declared.split_fault.SplitFault.{SplitFault}
use Rattle.iol_capture.specs.declared.passed.SplitItem.{SplitItem}
use Rattle.iol_capture.specs.SplitterState.{Splitting}

-- what is kept behind it, and what it tells
pub record SplitStep : Type 0 where
  pub state : Splitting
  pub emitted : Result (Option SplitItem) SplitFault

abbrev pub split_step : Splitting → Result (Option SplitItem) SplitFault → SplitStep
split_step state emitted = record { state = state; emitted = emitted }

-- it isn't refused
abbrev pub good_step : Splitting → Option SplitItem → SplitStep
good_step state passed = split_step state (Ok passed)
