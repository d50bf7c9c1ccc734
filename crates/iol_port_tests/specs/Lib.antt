-- The files of iol_port_tests's definitions.
pub mod MissedPulse
pub mod ShowsHistory
