-- The files of iolink_device_c's definitions.
pub mod Calls
pub mod Shown
pub mod LineCalls
