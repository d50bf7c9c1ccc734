-- The files of lemmas that the proofs of iol_commands cite.
pub mod CheckedLemmas
pub mod PlayLemmas
pub mod PrintedLemmas
pub mod RunLemmas
pub mod Taken
pub mod ManyLemmas
pub mod TraceLemmas
pub mod OctetsLemmas
pub mod CountersLemmas
pub mod EndingLemmas
