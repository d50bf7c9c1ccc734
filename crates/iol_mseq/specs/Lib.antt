-- The files of iol_mseq's definitions.
pub mod Shape
pub mod Master
pub mod Replies
pub mod Texts
pub mod Parts
pub mod ReadBack
pub mod Flips
pub mod Fault
