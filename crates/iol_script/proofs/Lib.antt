-- The files of lemmas that the proofs of iol_script cite.
pub mod Cutting
pub mod Cycles
pub mod Decimals
pub mod FieldsLemmas
pub mod FitsLemmas
pub mod LinesRead
pub mod OctetsLemmas
pub mod PairsLemmas
pub mod PlanLemmas
pub mod ScriptLemmas
pub mod FatesLemmas
pub mod TableLemmas
