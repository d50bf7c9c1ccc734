-- The files of iol_exchange's definitions.
pub mod Exchange
