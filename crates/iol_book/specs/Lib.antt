-- The files of iol_book's definitions.
pub mod Faults
pub mod Limits
pub mod Forms
pub mod JournalModel
pub mod OctetList
pub mod JournalInside
pub mod Entries
pub mod Replay
pub mod BookModel
pub mod Drained
pub mod Lines
pub mod BookInside
pub mod Numbers
pub mod Takings
pub mod OneJournal
pub mod Abandoning
