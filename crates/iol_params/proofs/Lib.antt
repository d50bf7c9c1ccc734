-- The files of lemmas that the proofs of iol_params cite.
pub mod CellLemmas
pub mod Consistency
pub mod CutOffs
pub mod Downloads
pub mod Fitting
pub mod Flags
pub mod ImageLemmas
pub mod ManagerLemmas
pub mod Sets
pub mod StorageLemmas
pub mod TableLemmas
