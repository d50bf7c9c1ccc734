-- The files of iol_event's definitions.
pub mod Memory
pub mod Reading
pub mod Faults
pub mod Laws
