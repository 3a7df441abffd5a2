pub mod Found
pub mod Measures
pub mod Range
