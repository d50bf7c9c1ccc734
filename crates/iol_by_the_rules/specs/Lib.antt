-- The files of iol_by_the_rules's definitions.
pub mod Line
