-- The files of lemmas that the proofs of iol_print cite.
pub mod PrintedLemmas
pub mod Lengths
