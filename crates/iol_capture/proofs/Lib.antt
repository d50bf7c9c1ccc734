-- The files of lemmas that the proofs of iol_capture cite.
mod FairItems
pub mod Digits
pub mod Splits
pub mod ExampleSplits
pub mod FairLemmas
pub mod ReadLemmas
pub mod CallLemmas
pub mod OctetLemmas
pub mod Cutting
pub mod WordLemmas
