-- The files of iolink_params_c's definitions.
pub mod Line
pub mod Work
pub mod Process
pub mod Rows
pub mod Calls
