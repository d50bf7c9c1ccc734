-- What may happen at one port: the steps that it and the device at its far end make, and the three
-- parts on which they act.
pub mod Steps
pub mod Session
pub mod Events
pub mod Images
pub mod Past
pub mod Turn
pub mod OfDevice
pub mod OfMaster
pub mod Shown
