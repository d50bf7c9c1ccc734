-- The files of iol_script's definitions.
pub mod Text
pub mod Printing
pub mod Numerals
pub mod CheckLines
pub mod Cycles
pub mod RunLines
pub mod Tables
pub mod Script
pub mod DraftInside
pub mod PlanRanges
pub mod Plan
