-- The files of iol_segment's definitions.
pub mod Fault
pub mod Cut
pub mod Lending
pub mod Join
pub mod SourceLaws
pub mod TextLaws
pub mod JoinLaws
