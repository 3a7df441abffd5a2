pub mod Begun
pub mod Dropping
pub mod Restarting
pub mod Reading
