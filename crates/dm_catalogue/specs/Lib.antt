pub mod Sums
pub mod Props
pub mod Merging
