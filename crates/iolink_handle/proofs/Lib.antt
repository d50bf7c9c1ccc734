-- The files of lemmas that the proofs of iolink_handle cite.
pub mod Handles
