-- The files of lemmas that the proofs of iol_by_the_rules cite.
pub mod Accepted
pub mod Segments
pub mod Requests
pub mod Ties
pub mod Outgoing
pub mod Heard
pub mod Missed
pub mod StartUps
pub mod Sessions
pub mod Calls
pub mod Standing
pub mod Rising
pub mod Made
pub mod Lines
