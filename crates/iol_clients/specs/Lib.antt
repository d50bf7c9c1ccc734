-- The files of iol_clients's definitions.
pub mod Counts
pub mod Faults
pub mod Served
pub mod Submitted
