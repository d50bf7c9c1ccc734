-- The files of lemmas that the proofs of iol_segment cite.
pub mod Pieces
pub mod CutLaws
pub mod Growing
pub mod TextLaws
pub mod JoinLaws
