-- The files of iol_turns's definitions.
pub mod Admitted
