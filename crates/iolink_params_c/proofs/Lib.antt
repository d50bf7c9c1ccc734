-- The files of lemmas that the proofs of iolink_params_c cite.
pub mod Handle
pub mod Keeping
pub mod Refusing
