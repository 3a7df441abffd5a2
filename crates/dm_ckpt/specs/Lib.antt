pub mod Area
pub mod Files
pub mod State
pub mod Writing
pub mod Survey
pub mod Load
pub mod Opening
pub mod Meaning
