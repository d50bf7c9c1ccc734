-- The files of lemmas that the proofs of iol_far cite.
mod Hearings
mod Standing
mod Levels
mod LawProofs
