-- The files of iolink's definitions.
pub mod Ending
pub mod Performed
pub mod Command
