-- The files of iol_commands's definitions.
pub mod Faults
pub mod Input
pub mod Printed
pub mod Checked
pub mod CountersPrinted
pub mod RunPrinted
pub mod RunPlayed
pub mod ManyPrinted
pub mod Passing
pub mod TracePrinted
pub mod JudgePrinted
pub mod OctetsTraced
