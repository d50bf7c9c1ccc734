-- The files of lemmas that the proofs of iol_event cite.
pub mod Places
pub mod Steps
pub mod Frozen
