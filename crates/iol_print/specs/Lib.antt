-- The files of iol_print's definitions.
pub mod Sink
pub mod Printed
pub mod Meanings
pub mod Passing
pub mod LineCalls
