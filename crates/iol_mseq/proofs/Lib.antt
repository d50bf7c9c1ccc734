-- The files of lemmas that the proofs of iol_mseq cite.
mod Masks
mod Messages
mod MasterBack
mod ReplyBack
