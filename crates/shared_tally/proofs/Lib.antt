pub mod Locks
pub mod Additions
pub mod Sessions
pub mod Runs
