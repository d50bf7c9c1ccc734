-- The files of lemmas that the proofs of iol_stored_commands cite.
pub mod PlayedLemmas
pub mod TracedLemmas
pub mod CallsLemmas
