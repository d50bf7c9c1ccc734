-- The files of iol_stored_commands's definitions.
pub mod Wired
pub mod StoredPrinted
pub mod StoredPlayed
pub mod StoredTraced
