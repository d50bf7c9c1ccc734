-- The files of lemmas that the proofs of iol_link cite.
mod Damaged
mod Meetings
