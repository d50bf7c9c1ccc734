-- The number of each refusal.
use Rattle.std.specs.Prelude.{ℕ}
use Rattle.iol_sim.specs.declared.fault.SimFault.{SimFault}
use Rattle.iol_sim.specs.declared.fault.SimFault.TheVariants.{OutOfMemory, BadParam}
use Rattle.iol_sim.specs.declared.fault.TheConstants.{OUT_OF_MEMORY, BAD_PARAM}

abbrev pub sim_fault_number : SimFault → ℕ
sim_fault_number OutOfMemory = OUT_OF_MEMORY
sim_fault_number BadParam = BAD_PARAM
