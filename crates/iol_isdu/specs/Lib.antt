-- The files of iol_isdu's definitions.
pub mod Fault
pub mod Frame
pub mod Requests
pub mod Answers
pub mod Texts
pub mod Parse
pub mod Laws
pub mod Services
