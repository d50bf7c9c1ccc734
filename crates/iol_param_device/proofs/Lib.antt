-- The files of lemmas that the proofs of iol_param_device cite.
pub mod Answering
mod Saving
