pub mod Sizes
pub mod Making
