-- The files of iol_param_device's definitions.
pub mod Faults
pub mod Saved
pub mod Device
pub mod Laws
