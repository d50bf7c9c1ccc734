-- The files of lemmas that the proofs of iol_judge cite.
mod Known
mod Sending
mod Transferring
mod Sets
mod Hearing
mod Answering
mod Concluding
pub mod Fairness
mod WatchFair
pub mod Resuming
