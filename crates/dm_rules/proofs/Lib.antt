pub mod Knowledge
pub mod Sizes
pub mod Sums
