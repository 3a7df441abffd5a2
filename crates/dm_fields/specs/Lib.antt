pub mod Numbers
pub mod Fields
pub mod Reading
pub mod Whole
pub mod Writing
pub mod Parts
pub mod Once
pub mod PartsOnce
