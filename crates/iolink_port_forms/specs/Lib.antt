-- The files of iolink_port_forms's definitions.
pub mod Shown
pub mod Arguments
pub mod Answers
pub mod Journal
