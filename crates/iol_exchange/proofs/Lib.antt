-- The files of lemmas that the proofs of iol_exchange cite.
pub mod Restores
pub mod Fetches
