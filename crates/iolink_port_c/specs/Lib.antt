-- The files of iolink_port_c's definitions.
pub mod Calls
pub mod LineCalls
pub mod RequestCalls
pub mod StateCalls
pub mod JournalCalls
pub mod Opening
pub mod DeviceCalls
