pub mod Replacing
pub mod Keeping
