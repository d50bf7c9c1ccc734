-- The files of lemmas that the proofs of iol_book cite.
pub mod JournalLemmas
pub mod LineLemmas
pub mod SoundLemmas
pub mod RestatedLemmas
pub mod NumberLemmas
pub mod CompactLemmas
pub mod JoinLemmas
pub mod AbandonLemmas
