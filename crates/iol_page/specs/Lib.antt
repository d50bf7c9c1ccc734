-- The files of iol_page's definitions.
pub mod Commands
pub mod Cycle
pub mod Fault
pub mod Identity
pub mod Page
