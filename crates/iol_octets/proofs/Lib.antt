-- The files of lemmas that the proofs of iol_octets cite.
mod ControlLemmas
mod Flips
mod Tables
