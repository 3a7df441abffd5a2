pub mod Sizes
pub mod Ages
pub mod Beginnings
