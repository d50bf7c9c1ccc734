-- The files of lemmas that the proofs of iolink_storage_c cite.
pub mod Handle
