-- The files of refusing_alloc's definitions.
pub mod Refused
