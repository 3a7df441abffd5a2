pub mod Steps
pub mod OldSteps
pub mod Chunks
pub mod Rows
pub mod Payloads
pub mod Limits
