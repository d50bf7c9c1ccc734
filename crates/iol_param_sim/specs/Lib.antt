-- The files of iol_param_sim's definitions.
pub mod Parameters
