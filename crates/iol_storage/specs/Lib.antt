-- The files of iol_storage's definitions.
pub mod Faults
pub mod Objects
pub mod Downloads
pub mod Laws
pub mod Uploads
pub mod Sets
pub mod Attempts
pub mod AttemptLaws
pub mod Stored
pub mod StoredFaults
pub mod StoredPort
pub mod StoredLaws
pub mod StoredStories
pub mod StoredChecks
