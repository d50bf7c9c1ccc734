-- The files of iol_cell's definitions.
pub mod Fault
pub mod Handle
pub mod Packing
pub mod Published
pub mod Steps
