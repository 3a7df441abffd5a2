pub mod State
pub mod Always
pub mod Calls
pub mod Changed
