-- The files of lemmas that the proofs of iol_slots cite.
pub mod PowerCuts
pub mod Saves
pub mod Stores
