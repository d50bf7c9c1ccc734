-- The files of iol_far's definitions.
pub mod Codec
pub mod Isdu
pub mod Record
pub mod History
pub mod Far
pub mod Local
pub mod Level
pub mod SegmentLaws
pub mod Laws
pub mod Orderly
pub mod Linked
pub mod Regular
pub mod Octets
