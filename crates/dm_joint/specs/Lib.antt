pub mod Outcomes
pub mod Range
