-- The files of lemmas that the proofs of iol_page cite.
mod Asked
