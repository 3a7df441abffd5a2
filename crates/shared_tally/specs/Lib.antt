pub mod Locks
pub mod Counting
pub mod Tallies
pub mod Runs
