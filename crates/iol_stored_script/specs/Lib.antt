-- The files of iol_stored_script's definitions.
pub mod StorageLines
pub mod PlainText
