-- The files of lemmas that the proofs of iol_sim cite.
pub mod Scripts
pub mod Calls
pub mod Entries
pub mod Crosses
