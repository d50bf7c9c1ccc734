-- The files of iol_device's definitions.
pub mod App
pub mod Record
pub mod Faults
pub mod Device
pub mod Silence
pub mod Pulses
pub mod Number
pub mod Hearing
pub mod NumberLaws
pub mod Inside
pub mod Awaited
