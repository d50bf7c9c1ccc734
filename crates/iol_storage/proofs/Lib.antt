-- The files of lemmas that the proofs of iol_storage cite.
pub mod Spans
pub mod Downloads
pub mod Uploads
pub mod Sets
pub mod Attempts
pub mod AttemptAsks
mod AttemptBounds
mod AttemptEnds
mod ObjectLemmas
mod StoredAwaits
mod StoredChecks
mod StoredLemmas
mod StoredRuns
mod StoredSets
mod StoredSteps
mod StoredStories
