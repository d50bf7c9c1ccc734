-- The files of iol_image's definitions.
pub mod Fault
pub mod Image
