-- The files of iol_slots's definitions.
pub mod Memory
pub mod Images
pub mod Laws
