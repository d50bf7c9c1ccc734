-- The files of iol_why's definitions.
pub mod Explained
