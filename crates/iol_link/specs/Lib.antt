-- The files of iol_link's definitions.
pub mod Honest
pub mod WireFacts
pub mod Attempts
pub mod Damage
pub mod Meeting
