-- The files of iolink_storage_c's definitions.
pub mod Calls
pub mod Opening
pub mod LineCalls
pub mod RequestCalls
pub mod StateCalls
pub mod JournalCalls
pub mod Shown
pub mod StorageCalls
pub mod BlockCalls
