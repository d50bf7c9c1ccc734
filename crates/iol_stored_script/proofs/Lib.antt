-- The files of lemmas that the proofs of iol_stored_script cite.
mod PlainLemmas
mod WritesLemmas
