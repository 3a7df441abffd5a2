pub mod Doubts
pub mod Stored
