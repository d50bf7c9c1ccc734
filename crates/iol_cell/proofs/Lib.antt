-- The files of lemmas that the proofs of iol_cell cite.
pub mod Pieces
pub mod Room
pub mod Rule
