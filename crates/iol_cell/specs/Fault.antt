-- The numbers of the refusals of a cell.
use Rattle.std.specs.Prelude.{ℕ}
use Rattle.iol_cell.specs.declared.fault.CellFault.{CellFault}
use Rattle.iol_cell.specs.declared.fault.CellFault.TheVariants.{OutOfMemory}
use Rattle.iol_cell.specs.declared.fault.TheConstants.{OUT_OF_MEMORY}

-- the number of each refusal
abbrev pub cell_fault_number : CellFault → ℕ
cell_fault_number OutOfMemory = OUT_OF_MEMORY
