-- The files of iol_params's definitions.
pub mod Errors
pub mod Members
pub mod Values
pub mod Table
pub mod State
pub mod Commands
pub mod Carry
pub mod Manager
pub mod Image
pub mod Laws
pub mod SoundTable
pub mod Storage
pub mod Requests
pub mod Flaws
